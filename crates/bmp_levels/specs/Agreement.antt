-- Lists of tuples whose own values at a vertex are compared with those above it. In the order to read:
--   AreWithin most sums            the sums are at most this, and that is less than 2^16
--   signed_value minus p v         a number of a row, or minus it modulo p
--   signed_sum minus p es u        the row on numbers u, or minus that modulo p
--   AgreesOn G F e d list          on the edge e the lift of each tuple's value at the lower end is the value at the
--                                  upper end
--   AgreesAt G F x d list          the value of each tuple at x has the boundary of the tuple
use Rattle.std.specs.Prelude.{◌≡◌, ℕ, ◌-◌, ◌*◌, ◌^◌, ◌<◌, ◌≤◌, Bool, if◌then◌else◌, List, length, slice_index, sum_by}
use Rattle.bmp_linear.specs.declared.vector.Entry.{Entry}
use Rattle.bmp_graph.specs.Graph.{Graph, lower, upper}
use Rattle.bmp_sheaf.specs.Sheaves.{SheafData, lift_of, boundary_of_element, boundary_of_tuple}
use Rattle.bmp_sheaf.specs.Coordinates.{edge_module_count, boundary_count}
use Rattle.bmp_sheaf.specs.Numbers.{on_edge, boundary_number}
use Rattle.bmp_sections.specs.TupleLists.{TupleList, tuples_in}

pub record AreWithin (most : ℕ) (sums : List ℕ) : Type 0 where
  pub small : most < 2 ^ 16
  pub each : (j : ℕ) → j < length sums → slice_index sums j ≤ most

abbrev pub signed_value : Bool → ℕ → ℕ → ℕ
signed_value minus p v = if minus then p - v else v

abbrev pub signed_sum : Bool → ℕ → List Entry → (ℕ → ℕ) → ℕ
signed_sum minus p es u = sum_by (λ e. signed_value minus p e.value * u e.place) es

module _ (G : Graph) (F : SheafData) where
  abbrev pub AgreesOn : ℕ → ℕ → TupleList → Type 0
  AgreesOn e d list =
      (i j : ℕ) → i < edge_module_count G F d e → j < list.count →
      on_edge G F d e (lift_of G F e d (tuples_in G F d list j (lower G e))) i
      ≡ on_edge G F d e (tuples_in G F d list j (upper G e)) i

  abbrev pub AgreesAt : ℕ → ℕ → TupleList → Type 0
  AgreesAt x d list =
      (j k : ℕ) → j < list.count → k < boundary_count G F x d →
      boundary_number G F x d (boundary_of_element G F d (tuples_in G F d list j x)) k
      ≡ boundary_number G F x d (boundary_of_tuple G (tuples_in G F d list j)) k
