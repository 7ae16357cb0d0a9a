-- The two maps to the edge module of a linear form c in r variables, whose leading variable is the l-th, modulo p: by
-- the degrees of the generators at the two ends, and by the vectors of the lifts. In the order to read:
--   LiftsFit r from into lifts             each vector has only places of an element above, of its generator's degree
--   lift_by r from into lifts g            the lift of the generator g, where `from` is the degrees below and `into`
--                                          those above
--   lower_map p r c l from into lifts d    the matrix of the lift: a row for each coordinate on the edge, a column for
--                                          each of the lower stalk
--   upper_map p r c l into d               the matrix of the upper stalk's map to the edge module
use Rattle.std.specs.Prelude.{ℕ, ◌-◌, ◌<◌, List, [], length, slice_index, slice_index_or}
use Rattle.bmp_math.specs.Matrices.{Matrix}
pub use Rattle.bmp_math.specs.Matrices.{SameMatrix}
use Rattle.bmp_linear.specs.declared.vector.Entry.{Entry}
use Rattle.bmp_linear.specs.SparseVectors.{FitsBelow, number_at}
use Rattle.bmp_sheaf.specs.Elements.{Element, extension}
use Rattle.bmp_sheaf.specs.Coordinates.{stalk_count, element_of}
use Rattle.bmp_sheaf.specs.Numbers.{edge_number, unit_at}

abbrev pub LiftsFit : ℕ → List ℕ → List ℕ → List (List Entry) → Type 0
LiftsFit r from into lifts =
    (g : ℕ) → g < length lifts → FitsBelow (slice_index_or lifts g []) (stalk_count r into (slice_index from g))

abbrev pub lift_by : ℕ → List ℕ → List ℕ → List (List Entry) → ℕ → Element
lift_by r from into lifts g = element_of r into (slice_index from g) (number_at (slice_index_or lifts g []))

abbrev pub lower_map : ℕ → ℕ → (ℕ → ℕ) → ℕ → List ℕ → List ℕ → List (List Entry) → ℕ → Matrix
lower_map p r c l from into lifts d = record {
  rows = stalk_count (r - 1) into d;
  cols = stalk_count r from d;
  entry = λ i j. edge_number p r c l into d (extension r from (lift_by r from into lifts) d (unit_at r from d j)) i;
}

abbrev pub upper_map : ℕ → ℕ → (ℕ → ℕ) → ℕ → List ℕ → ℕ → Matrix
upper_map p r c l into d = record {
  rows = stalk_count (r - 1) into d;
  cols = stalk_count r into d;
  entry = λ i j. edge_number p r c l into d (unit_at r into d j) i;
}
