-- Rows that extend a span to the span of more rows.
--   AreChosen vectors chosen                   the places rise, and each names a row of `vectors`
--   AreDual p span vectors chosen duals        for each chosen row a form: 1 on it, 0 on the other chosen rows and on
--                                              the rows of `span`
--   IsCombination p span vectors chosen v      v is a combination of the rows of `span` and of the chosen rows
--   HasCombinations p span vectors chosen cs   for each row of `vectors` what writes it by the span and the chosen rows
use Rattle.std.specs.Prelude.{◌≡◌, ℕ, ◌+◌, ◌<◌, List, length, slice_index, All}
use Rattle.std.specs.List.Sorted.{IsStrictlyIncreasing}
use Rattle.bmp_math.specs.Congruences.{SameMod}
use Rattle.bmp_math.specs.Vectors.{SameVector, unit, plus}
use Rattle.bmp_math.specs.Matrices.{Matrix, combination, image}
use Rattle.bmp_linear.specs.declared.vector.Entry.{Entry}
use Rattle.bmp_linear.specs.SparseVectors.{FitsBelow, ValuesBelow}
use Rattle.bmp_linear.specs.Evidence.{vector_at}

-- the places rise, and each names a row
pub record AreChosen (vectors : Matrix) (chosen : List ℕ) : Type 0 where
  pub rise : IsStrictlyIncreasing chosen
  pub below : All (λ i. i < vectors.rows) chosen

-- for each chosen row a form that is 1 on it and 0 on the other chosen rows and on the rows of the span
pub record AreDual (p : ℕ) (span vectors : Matrix) (chosen : List ℕ) (duals : List (List Entry)) : Type 0 where
  pub one_for_each : length duals ≡ length chosen
  pub fit : All (λ v. FitsBelow v vectors.cols) duals
  pub below : All (λ v. ValuesBelow v p) duals
  pub on_chosen : (i k : ℕ) → i < length chosen → k < length chosen →
      SameMod p (image vectors (vector_at duals i) (slice_index chosen k)) (unit i k)
  pub on_span : (i r : ℕ) → i < length chosen → r < span.rows → SameMod p (image span (vector_at duals i) r) 0

-- v is a combination of the rows of the span and of the chosen rows
pub record IsCombination (p : ℕ) (span vectors : Matrix) (chosen : List ℕ) (v : ℕ → ℕ) : Type 0 where
  pub of_span : ℕ → ℕ
  pub of_chosen : ℕ → ℕ
  pub sums : SameVector p vectors.cols v
      (plus (combination of_span span.entry span.rows)
      (combination of_chosen (λ k. vectors.entry (slice_index chosen k)) (length chosen)))

-- each row of `vectors`, written by its numbers: the first are for the span's rows, and those after them for the
-- chosen rows
pub record HasCombinations (p : ℕ) (span vectors : Matrix) (chosen : List ℕ) (cs : List (List Entry)) : Type 0 where
  pub one_for_each : length cs ≡ vectors.rows
  pub fit : All (λ v. FitsBelow v (span.rows + length chosen)) cs
  pub below : All (λ v. ValuesBelow v p) cs
  pub each : (i : ℕ) → i < vectors.rows → SameVector p vectors.cols (vectors.entry i)
      (plus (combination (vector_at cs i) span.entry span.rows)
      (combination (λ k. vector_at cs i (span.rows + k)) (λ k. vectors.entry (slice_index chosen k)) (length chosen)))
