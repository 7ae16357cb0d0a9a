-- Levels: sets of vertices by their length. In the order to read:
--   at_least G k y           the length of y is at least k, as a test
--   level G k                the vertices of length at least k
--   level_vertices G k       the same as a set of numbers of vertices: what is no vertex has length 0
--   Continues G F x k d s t  t is a section over level k that has the values of s above x
use Rattle.std.specs.Prelude.{◌≡◌, ℕ, ◌<◌, ◌≤◌, nat_le, Bool}
use Rattle.bmp_graph.specs.Graph.{Graph, IsAbove, vertex_count, length_at}
use Rattle.bmp_sheaf.specs.Sheaves.{SheafData, Tuple}
use Rattle.bmp_sections.specs.Sections.{IsSection}

abbrev pub at_least : Graph → ℕ → ℕ → Bool
at_least G k y = nat_le k (length_at G y)

abbrev pub level : Graph → ℕ → ℕ → Type 0
level G k y = k ≤ length_at G y

abbrev pub level_vertices : Graph → ℕ → ℕ → Type 0
level_vertices G k y = (y < vertex_count G) × (k ≤ length_at G y)

pub record Continues (G : Graph) (F : SheafData) (x k d : ℕ) (s t : Tuple) : Type 0 where
  pub section : IsSection G F (level G k) d t
  pub agrees : (y : ℕ) → IsAbove G y x → t y ≡ s y
