-- What a sheaf in memory is seen as. In the order to read:
--   Stalk             the degrees of a stalk's generators, and their lifts: by edge going up, and then by generator
--   SheafState F      a graph, the field of the numbers, which is of type F, a degree bound, and the stalks that are
--                     there, that of the greatest vertex first
--   IsState s         what holds of each: the graph is one over a field, of rank 1 to 6 and at most 4,096 vertices, and
--                     the bound is at most 6
--   stalk_of s x      the stalk at x
--   IsThere s x       the stalk at x is there
--   next_vertex s     the greatest vertex whose stalk isn't there, if there is one
--   with_stalk s t    s with a further stalk, that of the next vertex
--   sheaf_of s        the sheaf with these stalks
--   IsRoom s d n      n is at least the number of stalk coordinates and of boundary coordinates, in degree d, of each
--                     vertex whose stalk is there
use Rattle.std.specs.Prelude.{ℕ, ◌+◌, ◌-◌, ◌<◌, ◌≤◌, List, [], ◌∷◌, ◌++◌, length, slice_index_or}
use Rattle.bmp_linear.specs.declared.vector.Entry.{Entry}
use Rattle.bmp_graph.specs.Graph.{Graph, vertex_count}
use Rattle.bmp_sheaf.specs.Fields.{IsOverField}
use Rattle.bmp_sheaf.specs.Sheaves.{SheafData}
use Rattle.bmp_sheaf.specs.Coordinates.{stalk_count, boundary_count}
use Rattle.bmp_sheaf.specs.Written.{written_sheaf}

pub record Stalk : Type 0 where
  pub degrees : List ℕ
  pub lifts : List (List Entry)

abbrev pub no_stalk : Stalk
no_stalk = record { degrees = []; lifts = [] }

pub record SheafState (F : Type 0) : Type 0 where
  pub graph : Graph
  pub field : F
  pub degree : ℕ
  pub stalks : List Stalk

pub record IsState {F : Type 0} (s : SheafState F) : Type 0 where
  pub over : IsOverField s.graph
  pub some : 1 ≤ s.graph.rank
  pub wide : s.graph.rank ≤ 6
  pub few : vertex_count s.graph ≤ 4096
  pub bound : s.degree ≤ 6

abbrev pub stalk_of : {F : Type 0} → SheafState F → ℕ → Stalk
stalk_of s x = slice_index_or s.stalks (vertex_count s.graph - 1 - x) no_stalk

abbrev pub IsThere : {F : Type 0} → SheafState F → ℕ → Type 0
IsThere s x = (x < vertex_count s.graph) × (vertex_count s.graph ≤ x + length s.stalks)

abbrev pub next_vertex : {F : Type 0} → SheafState F → ℕ
next_vertex s = vertex_count s.graph - 1 - length s.stalks

abbrev pub with_stalk : {F : Type 0} → SheafState F → Stalk → SheafState F
with_stalk s t = record s { stalks = s.stalks ++ t ∷ [] }

abbrev pub sheaf_of : {F : Type 0} → SheafState F → SheafData
sheaf_of s = written_sheaf s.graph (λ x. (stalk_of s x).degrees) (λ x. (stalk_of s x).lifts)

abbrev pub IsRoom : {F : Type 0} → SheafState F → ℕ → ℕ → Type 0
IsRoom s d n = (x : ℕ) → IsThere s x
    → (stalk_count s.graph.rank ((sheaf_of s).degrees x) d ≤ n) × (boundary_count s.graph (sheaf_of s) x d ≤ n)
