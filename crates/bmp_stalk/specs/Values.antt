-- Values of tuples at one vertex, and the rows of joined boundaries. In the order to read:
--   joined_matrix G F x d list             the boundary map at x, and behind it the boundaries of the tuples
--   HasRowsOf n a b                        the rows of b are the first n of a
--   IsJoinedRow p lower row values i xs    the numbers are row i of the lower map of an edge, and behind it what the
--                                          row of the upper map says of each tuple's value
--   IsValueOf list j y v                   v has the coordinates of the value at y of the tuple j
use Rattle.std.specs.Prelude.{◌≡◌, ℕ, ◌+◌, ◌-◌, ◌%◌, ◌<◌, List, length, slice_index, nat_le, if◌then◌else◌}
use Rattle.bmp_math.specs.Matrices.{Matrix, combination}
use Rattle.bmp_linear.specs.declared.vector.Entry.{Entry}
use Rattle.bmp_linear.specs.SparseVectors.{IsSparse, FitsBelow, number_at}
use Rattle.bmp_field.specs.Runs.{AreBelow}
use Rattle.bmp_graph.specs.Graph.{Graph}
use Rattle.bmp_sheaf.specs.Sheaves.{SheafData}
use Rattle.bmp_sheaf.specs.Coordinates.{stalk_count, boundary_count}
use Rattle.bmp_sheaf.specs.Numbers.{boundary_matrix}
use Rattle.bmp_sections.specs.TupleLists.{TupleList}
use Rattle.bmp_stalk.specs.Blocks.{tuple_boundary}

abbrev pub joined_matrix : Graph → SheafData → ℕ → ℕ → TupleList → Matrix
joined_matrix G F x d list = let split = stalk_count G.rank (F.degrees x) d in record {
  rows = boundary_count G F x d;
  cols = stalk_count G.rank (F.degrees x) d + list.count;
  entry = λ k c.
      if nat_le split c then tuple_boundary G F x d list (c - split) k else (boundary_matrix G F x d).entry k c;
}

pub record HasRowsOf (n : ℕ) (a b : Matrix) : Type 0 where
  pub rows : b.rows ≡ n
  pub cols : b.cols ≡ a.cols
  pub same : (i j : ℕ) → i < n → j < a.cols → b.entry i j ≡ a.entry i j

-- `row` is the row of the upper map; its combination of the rows of values is what it says of each tuple's value
pub record IsJoinedRow (p : ℕ) (lower : Matrix) (row : ℕ → ℕ) (values : Matrix) (i : ℕ) (xs : List ℕ) : Type 0 where
  pub sized : length xs ≡ lower.cols + values.cols
  pub below : AreBelow p xs
  pub of_lower : (c : ℕ) → c < lower.cols → slice_index xs c ≡ lower.entry i c
  pub of_values : (j : ℕ) → j < values.cols →
      slice_index xs (lower.cols + j) ≡ combination row values.entry values.rows j % p

pub record IsValueOf (list : TupleList) (j y : ℕ) (v : List Entry) : Type 0 where
  pub sparse : IsSparse v
  pub fits : FitsBelow v (list.size y)
  pub numbers : (c : ℕ) → c < list.size y → number_at v c ≡ list.value j y c
