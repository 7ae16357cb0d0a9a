-- Lists of tuples by their coordinates.
--   TupleList                how many tuples there are, the vertices at which they have values, how many coordinates
--                            each has there, and coordinate c of the value at y of the tuple j: value j y c
--   value_matrix list y      a row for each coordinate at y, a column for each tuple: its value there
--   tuples_in G F d list      the tuples, of degree d
--   tuples_over G F x d vs   the tuples over the vertices above x whose positions have the numbers of the vectors
use Rattle.std.specs.Prelude.{ℕ, ◌+◌, Bool, List, length}
use Rattle.bmp_math.specs.Matrices.{Matrix}
use Rattle.bmp_linear.specs.declared.vector.Entry.{Entry}
use Rattle.bmp_linear.specs.Evidence.{vector_at}
use Rattle.bmp_graph.specs.Graph.{Graph}
use Rattle.bmp_sheaf.specs.Sheaves.{SheafData, Tuple}
use Rattle.bmp_sheaf.specs.Coordinates.{stalk_count, element_of}
use Rattle.bmp_sections.specs.Positions.{position_start}
use Rattle.bmp_sections.specs.Numbers.{is_above}

pub record TupleList : Type 0 where
  pub count : ℕ
  pub has : ℕ → Bool
  pub size : ℕ → ℕ
  pub value : ℕ → ℕ → ℕ → ℕ

abbrev pub value_matrix : TupleList → ℕ → Matrix
value_matrix list y = record { rows = list.size y; cols = list.count; entry = λ c j. list.value j y c }

abbrev pub tuples_in : Graph → SheafData → ℕ → TupleList → ℕ → Tuple
tuples_in G F d list j y = element_of G.rank (F.degrees y) d (list.value j y)

abbrev pub tuples_over : Graph → SheafData → ℕ → ℕ → List (List Entry) → TupleList
tuples_over G F x d vs = record {
  count = length vs;
  has = is_above G x;
  size = λ y. stalk_count G.rank (F.degrees y) d;
  value = λ j y c. vector_at vs j (position_start G F (is_above G x) d y + c);
}
