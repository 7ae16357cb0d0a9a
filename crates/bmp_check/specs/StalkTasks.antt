-- The stalks that parts write down, added to a sheaf in memory one by one, or at once at the vertices of one length. In
-- the order to read:
--   IsSheafUpTo G c i s       the stalks of s are those of the first i parts of c
--   IsAhead c i s             so are its first i stalks; its others, whatever they are, stand at vertices of one length
--   IsPending v c i n s       s is so, with n stalks behind the first i, and c can be checked on its graph, with
--                             evidence of version v; the number of vertices and all sizes pass
--   CanAdd c s n              over the first n stalks of s the part number n of c is a stalk
--   HasAdded c s n t          t has the first n stalks of s, and behind them that of the part number n of c
--   BringsStalk G c n t       t is a sheaf in memory on G with n + 1 stalks; the last is that of the part number n of
--                             c, and those at the upper ends of the edges going up from its vertex are those of their
--                             parts
--   BringStalks G c n all     the last of these sheaves brings the stalk number n, the one before it the next, and so
--                             on
use Rattle.std.specs.Prelude.{◌≡◌, ℕ, ◌+◌, ◌-◌, ◌<◌, ◌≤◌, List, All, length, map, take, slice_index_or}
use Rattle.bmp_linear.specs.SparseVectors.{ValuesBelow}
use Rattle.bmp_graph.specs.Graph.{Graph, vertex_count, edge_count, length_at, lower, upper}
use Rattle.bmp_sheaf.specs.States.{SheafState, stalk_of, next_vertex, with_stalk}
use Rattle.bmp_sheaf.specs.StalkFaults.{IsStalk}
use Rattle.bmp_cert.specs.declared.cert.VertexPart.{VertexPart}
use Rattle.bmp_cert.specs.Counts.{Written, no_part, part_of}
use Rattle.bmp_check.specs.Accepted.{IsCheckable}
use Rattle.bmp_check.specs.Methods.{method_of}
use Rattle.bmp_check.specs.Shaped.{cert_stalk}
use Rattle.bmp_check.specs.Verdicts.{CountPasses, ShapePasses}

pub record IsSheafUpTo (G : Graph) (c : Written) (i : ℕ) {F : Type 0} (s : SheafState F) : Type 0 where
  pub graph : s.graph ≡ G
  pub degree : s.degree ≡ c.degree
  pub stalks : s.stalks ≡ map cert_stalk (take i c.parts)

pub record IsAhead (c : Written) (i : ℕ) {F : Type 0} (s : SheafState F) : Type 0 where
  pub degree : s.degree ≡ c.degree
  pub stalks : take i s.stalks ≡ map cert_stalk (take i c.parts)
  pub more : i ≤ length s.stalks
  pub few : length s.stalks ≤ length c.parts
  pub level : ℕ
  pub own :
      (y : ℕ) → y + i < vertex_count s.graph → vertex_count s.graph ≤ y + length s.stalks →
      length_at s.graph y ≡ level

pub record IsPending (v : ℕ) (c : Written) (i n : ℕ) {F : Type 0} (s : SheafState F) : Type 0 where
  pub checkable : IsCheckable s.graph v c
  pub count : CountPasses s.graph c
  pub shape : ShapePasses s.graph (method_of v) c
  pub ahead : IsAhead c i s
  pub counted : length s.stalks ≡ i + n

module _ {F : Type 0} (c : Written) (s : SheafState F) (n : ℕ) where
  abbrev pub first_stalks : SheafState F
  first_stalks = record s { stalks = take n s.stalks }

  abbrev own : VertexPart
  own = slice_index_or c.parts n no_part

  pub record CanAdd : Type 0 where
    pub there : n < length c.parts
    pub left : n < vertex_count s.graph
    pub stalk : IsStalk first_stalks (next_vertex first_stalks) own.degrees own.lifts
    pub values : All (λ v. ValuesBelow v s.graph.prime) own.lifts

  abbrev pub HasAdded : SheafState F → Type 0
  HasAdded t = t ≡ with_stalk first_stalks (cert_stalk own)

pub record BringsStalk (G : Graph) (c : Written) (n : ℕ) {F : Type 0} (t : SheafState F) : Type 0 where
  pub graph : t.graph ≡ G
  pub degree : t.degree ≡ c.degree
  pub pushed : length t.stalks ≡ n + 1
  pub own : stalk_of t (vertex_count G - 1 - n) ≡ cert_stalk (slice_index_or c.parts n no_part)
  pub above : (e : ℕ) → e < edge_count G → lower G e ≡ vertex_count G - 1 - n →
      stalk_of t (upper G e) ≡ cert_stalk (part_of c (upper G e))

pub record BringStalks (G : Graph) (c : Written) (n : ℕ) {F : Type 0} (all : List (SheafState F)) : Type 0 where
  pub few : n + length all ≤ vertex_count G
  pub each : (i : ℕ) (d : SheafState F) → i < length all →
      BringsStalk G c (n + length all - 1 - i) (slice_index_or all i d)
