-- The edge equations over the vertices above x as numbers modulo the prime. In the order to read:
--   some_below test n            the test is true of some number below n
--   reaches G n x y              a chain of one edge or more, and of at most n, leads up from x to y
--   is_above G x y               y is above x, as a test
--   equation_number G F U d s k  the value of the equation k on the tuple s, of degree d over the set U: edge after
--                                edge
--   unit_tuple G F U d j         the tuple that is 1 at position j and 0 at the others
--   equation_matrix G F x d      a row for each equation over the vertices above x, a column for each position
use Rattle.std.specs.Prelude.{ℕ, zero, suc, ◌+◌, ◌-◌, ◌*◌, ◌%◌, ◌==◌, Bool, false, ◌&&◌, ◌||◌, if◌then◌else◌}
use Rattle.bmp_math.specs.Blocks.{joined}
use Rattle.bmp_math.specs.Vectors.{unit}
use Rattle.bmp_math.specs.Matrices.{Matrix}
use Rattle.bmp_graph.specs.Graph.{Graph, vertex_count, edge_count, lower, upper}
use Rattle.bmp_sheaf.specs.Sheaves.{SheafData, Tuple, lift_of}
use Rattle.bmp_sheaf.specs.Coordinates.{edge_module_count}
use Rattle.bmp_sheaf.specs.Numbers.{on_edge}
use Rattle.bmp_sections.specs.Positions.{position_count, tuple_of, equation_count}

unfoldable pub some_below : (ℕ → Bool) → ℕ → Bool
some_below test zero = false
some_below test (suc n) = some_below test n || test n

unfoldable pub reaches : Graph → ℕ → ℕ → ℕ → Bool
reaches G zero x y = false
reaches G (suc n) x y = some_below (λ e. lower G e == x && (upper G e == y || reaches G n (upper G e) y)) (edge_count G)

-- numbers rise along a chain, so that none has more edges than there are vertices
unfoldable pub is_above : Graph → ℕ → ℕ → Bool
is_above G x y = reaches G (vertex_count G) x y

module _ (G : Graph) (F : SheafData) (U : ℕ → Bool) (d : ℕ) where
  -- of the lift of the lower value less the upper value, and minus is the factor p - 1
  abbrev pub equation_number : Tuple → ℕ → ℕ
  equation_number s =
      joined (λ e. if U (lower G e) && U (upper G e) then edge_module_count G F d e else 0)
      (λ e i. (on_edge G F d e (lift_of G F e d (s (lower G e))) i + (G.prime - 1) * on_edge G F d e (s (upper G e)) i)
      % G.prime)
      (edge_count G)

  abbrev pub unit_tuple : ℕ → Tuple
  unit_tuple j = tuple_of G F U d (unit j)

abbrev pub equation_matrix : Graph → SheafData → ℕ → ℕ → Matrix
equation_matrix G F x d = record {
  rows = equation_count G F (is_above G x) d;
  cols = position_count G F (is_above G x) d;
  entry = λ k j. equation_number G F (is_above G x) d (unit_tuple G F (is_above G x) d j) k;
}
