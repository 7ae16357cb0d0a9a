-- The stalks of the vertices of one length, built at once, each upon those of the longer vertices. In the order to
-- read:
--   Made A                   a part, and the sheaf in memory, over a field of type A, whose last stalk is that part's
--   above_number s x         of the stalks of s, those of the vertices of numbers above x
--   IsOpen s low n           the stalks of s are those of the vertices from low on, of which n are not all
--   IsAtLength k s x t       the next vertex of t is x, of length k, and t has the same stalks as s at the vertices
--                            longer than k
--   IsBuiltBy families counts old new part
--                            the part was built upon the sheaf old, for the families' first members
--   IsMadeUpon P old made    the part was made upon the sheaf old in the way of P, and has the shape of a part
--   IsMadeOver P k s x made  upon a sheaf t with IsAtLength k s x t
--   AreMadeOver P k s all    so were all these, of neighbouring vertices, of which the greatest is the next one of s
--   IsLengthMade P k s all   and they are all vertices of length k
--   HaveMembersOver k s families counts
--                            the families have so many members, with values at all vertices longer than k, and some
--                            stalk of s is there
use Rattle.std.specs.Prelude.{◌≡◌, ℕ, ◌+◌, ◌-◌, ◌<◌, ◌≤◌, List, length, take, slice_index, slice_index_or}
use Rattle.bmp_graph.specs.Graph.{Graph, vertex_count, length_at}
use Rattle.bmp_sheaf.specs.States.{SheafState, stalk_of, next_vertex, with_stalk}
use Rattle.bmp_cover.specs.CoverInputs.{HasValues}
use Rattle.bmp_levels.specs.Runs.{FamilyTable}
use Rattle.bmp_cert.specs.declared.cert.VertexPart.{VertexPart}
use Rattle.bmp_check.specs.Shaped.{cert_stalk}
use Rattle.bmp_stalk.specs.BuiltParts.{no_family, list_at, IsBuiltPart}
use Rattle.bmp_build.specs.BuiltGraphs.{IsHeldPart}

pub record Made (A : Type 0) : Type 0 where
  pub sheaf : SheafState A
  pub part : VertexPart

abbrev pub above_number : {A : Type 0} → SheafState A → ℕ → SheafState A
above_number s x = record s { stalks = take (vertex_count s.graph - 1 - x) s.stalks }

-- ---- the sheaf that all tasks share

pub record IsOpen {A : Type 0} (s : SheafState A) (low n : ℕ) : Type 0 where
  pub pushed : low + length s.stalks ≡ vertex_count s.graph
  pub within : n < length s.stalks

-- ---- what a task makes

pub record IsAtLength {A : Type 0} (k : ℕ) (s : SheafState A) (x : ℕ) (t : SheafState A) : Type 0 where
  pub graph : t.graph ≡ s.graph
  pub degree : t.degree ≡ s.degree
  pub vertex : x < vertex_count s.graph
  pub pushed : length t.stalks ≡ vertex_count s.graph - 1 - x
  pub long : length_at s.graph x ≡ k
  pub longer : (y : ℕ) → y < vertex_count s.graph → k < length_at s.graph y → stalk_of t y ≡ stalk_of s y

abbrev pub IsBuiltBy :
    {A : Type 0} → List FamilyTable → List ℕ → SheafState A → SheafState A → VertexPart → Type 0
IsBuiltBy families counts old new part = IsBuiltPart old new (list_at families counts) part

module _ {A : Type 0} (P : SheafState A → SheafState A → VertexPart → Type 0) where
  pub record IsMadeUpon (old : SheafState A) (made : Made A) : Type 0 where
    pub stalk : made.sheaf ≡ with_stalk old (cert_stalk made.part)
    pub by : P old made.sheaf made.part
    pub held : IsHeldPart made.part

  pub record IsMadeOver (k : ℕ) (s : SheafState A) (x : ℕ) (made : Made A) : Type 0 where
    pub old : SheafState A
    pub at : IsAtLength k s x old
    pub upon : IsMadeUpon old made

  pub record AreMadeOver (k : ℕ) (s : SheafState A) (all : List (Made A)) : Type 0 where
    pub few : length s.stalks + length all ≤ vertex_count s.graph
    pub each :
        (i : ℕ) (d : Made A) → i < length all →
        IsMadeOver k s (vertex_count s.graph - length s.stalks - length all + i) (slice_index_or all i d)

  pub record IsLengthMade (k : ℕ) (s : SheafState A) (all : List (Made A)) : Type 0 where
    pub over : AreMadeOver k s all
    pub whole :
        let m = length s.stalks + length all in
        (m < vertex_count s.graph) × (length_at s.graph (vertex_count s.graph - 1 - m) ≡ k) → ⊥

pub record HaveMembersOver {A : Type 0} (k : ℕ) (s : SheafState A) (families : List FamilyTable) (counts : List ℕ)
    : Type 0 where
  pub some : 1 ≤ length s.stalks
  pub families_are : length families ≡ s.degree + 1
  pub counts_are : length counts ≡ s.degree + 1
  pub within : (d : ℕ) → d ≤ s.degree → slice_index counts d ≤ (slice_index_or families d no_family).count
  pub values :
      (d y : ℕ) → d ≤ s.degree → y < vertex_count s.graph → k < length_at s.graph y →
      HasValues s d (list_at families counts d) y
