-- What is kept of the maps from upper stalks to edge modules. In the order to read:
--   UpperTable             the module of an edge and, by degree, the rows of the map to it from the stalk at the edge's
--                          upper end
--   upper_map_of m d       the matrix, in degree d, of the map to the module m from the free module that it is a
--                          quotient of
--   IsUpperTable D u       the rows in each degree up to D are those of the matrix
--   AreUpperTables D us    so it is in each of the tables
--   IsEdgeModule s e m     m is the module on the edge e
--   IsUpperOf s e u        the table is that of the edge e
--   AreUppers s x us       by edge going up from x, us are the tables of the edges
use Rattle.std.specs.Prelude.{◌≡◌, ℕ, ◌+◌, ◌-◌, ◌<◌, List, length, slice_index_or}
use Rattle.std.specs.List.{All}
use Rattle.bmp_math.specs.Matrices.{Matrix, SameMatrix}
use Rattle.bmp_linear.specs.RowTables.{EntryTable, matrix_of_entries}
use Rattle.bmp_poly.specs.Labels.{prime_of, rank_of, leading_of, coordinate_of}
use Rattle.bmp_module.specs.declared.quotient.Quotient.{Quotient}
use Rattle.bmp_module.specs.FreeModules.{rank_of as free_rank_of, degrees_of}
use Rattle.bmp_module.specs.QuotientModules.{free_of, label_of}
use Rattle.bmp_graph.specs.Graph.{edge_count, lower, upper, label}
use Rattle.bmp_sheaf.specs.Coordinates.{leading}
use Rattle.bmp_sheaf.specs.EdgeMaps.{upper_map}
use Rattle.bmp_sheaf.specs.Written.{first_edge, up_count}
use Rattle.bmp_sheaf.specs.States.{SheafState, stalk_of}

pub record UpperTable : Type 0 where
  pub quotient : Quotient
  pub rows : List EntryTable

abbrev pub upper_map_of : Quotient → ℕ → Matrix
upper_map_of m = upper_map (prime_of (label_of m)) (free_rank_of (free_of m)) (coordinate_of (label_of m))
    (leading_of (label_of m)) (degrees_of (free_of m))

pub record IsUpperTable (D : ℕ) (u : UpperTable) : Type 0 where
  pub counted : length u.rows ≡ D + 1
  pub each : (d : ℕ) (t : EntryTable) → d < D + 1 →
      SameMatrix (matrix_of_entries (slice_index_or u.rows d t)) (upper_map_of u.quotient d)

abbrev pub AreUpperTables : ℕ → List UpperTable → Type 0
AreUpperTables D us = All (IsUpperTable D) us

-- of the graph's rank and prime, with the degrees of the upper end's stalk and the label of the edge
pub record IsEdgeModule {F : Type 0} (s : SheafState F) (e : ℕ) (m : Quotient) : Type 0 where
  pub rank : free_rank_of (free_of m) ≡ s.graph.rank
  pub degrees : degrees_of (free_of m) ≡ (stalk_of s (upper s.graph e)).degrees
  pub label_rank : rank_of (label_of m) ≡ s.graph.rank
  pub label_prime : prime_of (label_of m) ≡ s.graph.prime
  pub label_leading : leading_of (label_of m) ≡ leading s.graph e
  pub label_coordinates : coordinate_of (label_of m) ≡ label s.graph e

pub record IsUpperOf {F : Type 0} (s : SheafState F) (e : ℕ) (u : UpperTable) : Type 0 where
  pub edge : IsEdgeModule s e u.quotient
  pub rows : IsUpperTable s.degree u

pub record AreUppers {F : Type 0} (s : SheafState F) (x : ℕ) (us : List UpperTable) : Type 0 where
  pub counted : length us ≡ up_count s.graph x
  pub each : (e : ℕ) (u : UpperTable) → e < edge_count s.graph → lower s.graph e ≡ x
      → IsUpperOf s e (slice_index_or us (e - first_edge s.graph x) u)
