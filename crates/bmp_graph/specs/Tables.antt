-- The tables that a graph keeps.
--   IsStart g x s              s is the number of the first edge whose lower end is x or greater
--   HasStarts g starts         the starts of all vertices, and of the number after the last
--   IsNextEnding g x from e    e is the first edge, from number `from` on, that ends at x, or the number of edges
--   HasEndings g first next    by vertex the first edge that ends there, by edge the next with its upper end
--   HasRows g rows             the bits of row x are the vertices above x
--   HasRowsFrom g v rows       the same of the rows from v on, while the earlier rows are empty
--   IsIndexed g ..             g is a graph within the limits, and the tables are those of g
--   IsNext g x from e          e is the first edge, from number `from` on, with the end x, or there is none
use Rattle.std.specs.Prelude.{◌≡◌, ◌≢◌, ℕ, ◌+◌, ◌^◌, ◌<◌, ◌≤◌, ◌↔◌, List, length, slice_index, Option, MatchOption}
use Rattle.bmp_graph.specs.Graph.{Graph, vertex_count, edge_count, lower, upper, IsGraph, IsAbove, IsEndOf}
use Rattle.bmp_graph.specs.Bits.{HasBit}
use Rattle.bmp_graph.specs.declared.bits.BitRows.{BitRows}

pub record IsStart (g : Graph) (x s : ℕ) : Type 0 where
  pub within : s ≤ edge_count g
  pub before : (e : ℕ) → e < s → lower g e < x
  pub after : (e : ℕ) → s ≤ e → e < edge_count g → x ≤ lower g e

pub record HasStarts (g : Graph) (starts : List ℕ) : Type 0 where
  pub as_long : length starts ≡ vertex_count g + 1
  pub each : (x : ℕ) → x < length starts → IsStart g x (slice_index starts x)

pub record IsNextEnding (g : Graph) (x from e : ℕ) : Type 0 where
  pub after : from ≤ e
  pub within : e ≤ edge_count g
  pub ends : e < edge_count g → upper g e ≡ x
  pub between : (d : ℕ) → from ≤ d → d < e → upper g d ≢ x

pub record HasEndings (g : Graph) (first next : List ℕ) : Type 0 where
  pub of_each_vertex : length first ≡ vertex_count g
  pub of_each_edge : length next ≡ edge_count g
  pub first_is : (x : ℕ) → x < vertex_count g → IsNextEnding g x 0 (slice_index first x)
  pub next_is : (e : ℕ) → e < edge_count g → IsNextEnding g (upper g e) (e + 1) (slice_index next e)

-- the rows from v on are done, the earlier ones are empty
pub record HasRowsFrom (g : Graph) (v : ℕ) (rows : BitRows) : Type 0 where
  pub size : rows.size ≡ vertex_count g
  pub done : (x y : ℕ) → v ≤ x → x < vertex_count g → y < vertex_count g → HasBit rows x y ↔ IsAbove g y x
  pub empty : (x y : ℕ) → x < v → y < vertex_count g → HasBit rows x y → ⊥

pub record HasRows (g : Graph) (rows : BitRows) : Type 0 where
  pub size : rows.size ≡ vertex_count g
  pub each : (x y : ℕ) → x < vertex_count g → y < vertex_count g → HasBit rows x y ↔ IsAbove g y x

pub record IsIndexed (g : Graph) (start first next : List ℕ) (above : BitRows) : Type 0 where
  pub graph : IsGraph g
  pub rank_some : 1 ≤ g.rank
  pub rank_most : g.rank ≤ 6
  pub few_vertices : vertex_count g ≤ 4096
  pub few_edges : edge_count g < 2 ^ 32
  pub starts : HasStarts g start
  pub endings : HasEndings g first next
  pub rows : HasRows g above

-- no edge from number `from` on has the end x
abbrev pub HasNoEnd : Graph → ℕ → ℕ → Type 0
HasNoEnd g x from = (d : ℕ) → from ≤ d → IsEndOf g x d → ⊥

pub record IsNextEnd (g : Graph) (x from e : ℕ) : Type 0 where
  pub after : from ≤ e
  pub is_end : IsEndOf g x e
  pub between : (d : ℕ) → from ≤ d → d < e → IsEndOf g x d → ⊥

abbrev pub IsNext : Graph → ℕ → ℕ → Option ℕ → Type 0
IsNext g x from e = MatchOption e (HasNoEnd g x from) (IsNextEnd g x from)
