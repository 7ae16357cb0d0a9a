-- Evidence that passes spans the kernel, over numbers modulo a prime.
use Rattle.std.proofs.Common.{◌≡◌, ◌≢◌, ℕ, suc, ◌+◌, ◌*◌, ◌%◌, ◌<◌, ◌⊎◌, sym, ap, ◌∙◌, inl, inr}
use Rattle.bmp_math.specs.Sums.{sum_below}
use Rattle.bmp_math.specs.Congruences.{SameMod}
use Rattle.bmp_math.specs.Vectors.{SameVector, unit, plus, scaled}
use Rattle.bmp_math.specs.Matrices.{Matrix, combination, image, IsInKernel, IsIndependent}
use Rattle.bmp_math.proofs.CongruenceLemmas.{same_add, same_minus, minus_same, mul_zero, zero_mul, mul_one, one_mul}
use Rattle.bmp_math.proofs.SumLemmas.{sum_zero_mod, sum_only_mod}
use Rattle.bmp_math.proofs.UnitLemmas.{unit_same, unit_other}
use Rattle.bmp_math.proofs.MatrixLemmas.{image-plus, image-scaled, image-combination, dot-combination}

-- rows with evidence that passed: pivots and free places are all places, each basis vector is a unit at
-- the free places and in the kernel, each combination of the rows is a unit at the pivots
pub record Passed (p : ℕ) (a : Matrix) (pivots frees : ℕ) (pivot free : ℕ → ℕ) (basis rows : ℕ → ℕ → ℕ) : Type 0 where
  pub pivot_below : (s : ℕ) → s < pivots → pivot s < a.cols
  pub free_below : (t : ℕ) → t < frees → free t < a.cols
  pub each_place : (j : ℕ) → j < a.cols → ((s : ℕ) × (s < pivots) × (pivot s ≡ j)) ⊎
      ((t : ℕ) × (t < frees) × (free t ≡ j))
  pub basis_free : (t u : ℕ) → t < frees → u < frees → SameMod p (basis t (free u)) (unit u t)
  pub basis_kernel : (t : ℕ) → t < frees → IsInKernel p a (basis t)
  pub row_pivot : (s u : ℕ) → s < pivots → u < pivots →
      SameMod p (combination (rows s) a.entry a.rows (pivot u)) (unit u s)

module _
    {p : ℕ} {a : Matrix} {pivots frees : ℕ} {pivot free : ℕ → ℕ} {basis rows : ℕ → ℕ → ℕ}
    (e : Passed p a pivots frees pivot free basis rows) where
  -- at its own free place each vector of the basis gives a combination its factor
  combination_at_free : (c : ℕ → ℕ) (t : ℕ) → t < frees → SameMod p (combination c basis frees (free t)) (c t)
  combination_at_free c t l =
      sum_only_mod p (λ u. c u * basis u (free t)) frees t l
      (λ u k other. mul_zero p (c u) (basis u (free t))
      (e.basis_free u t k l ∙ ap (λ z. z % p) (unit_other t u (λ same. other (sym same)))))
      ∙ mul_one p (c t) (basis t (free t)) (e.basis_free t t l l ∙ ap (λ z. z % p) (unit_same t))

  -- so a combination that is 0 has the factors 0
  pub independent : IsIndependent p a.cols basis frees
  independent c zero t l = sym (combination_at_free c t l) ∙ zero (free t) (e.free_below t l)

module _ (q : ℕ) (a : Matrix) (pivots frees : ℕ) (pivot free : ℕ → ℕ) (basis rows : ℕ → ℕ → ℕ)
    (e : Passed (suc q) a pivots frees pivot free basis rows) (v : ℕ → ℕ) (kernel : IsInKernel (suc q) a v) where
  -- the combination that v is to be
  spanned : ℕ → ℕ
  spanned = combination (λ t. v (free t)) basis frees

  -- v less that combination
  rest : ℕ → ℕ
  rest = plus v (scaled q spanned)

  spanned_free : (t : ℕ) → t < frees → SameMod (suc q) (spanned (free t)) (v (free t))
  unfolding spanned
  spanned_free t l = combination_at_free e (λ u. v (free u)) t l

  rest_free : (t : ℕ) → t < frees → SameMod (suc q) (rest (free t)) 0
  unfolding rest
  rest_free t l = minus_same q (v (free t)) (spanned (free t)) (sym (spanned_free t l))

  rest_kernel : IsInKernel (suc q) a rest
  unfolding rest spanned
  rest_kernel i l =
      let values : ℕ → ℕ = λ t. v (free t) * image a (basis t) i in
      let parts : image a rest i ≡ image a v i + q * sum_below values frees =
      image-plus a v (scaled q spanned) i
      ∙ ap (λ z. image a v i + z)
      (image-scaled a q spanned i ∙ ap (λ z. q * z) (image-combination a frees (λ t. v (free t)) basis i)) in
      let zeros : SameMod (suc q) (sum_below values frees) 0 =
      sum_zero_mod (suc q) values frees
      (λ t k. mul_zero (suc q) (v (free t)) (image a (basis t) i) (e.basis_kernel t k i l)) in
      let joined : SameMod (suc q) (image a v i + q * sum_below values frees) (0 + 0) =
      same_add (suc q) (image a v i) 0 (q * sum_below values frees) 0 (kernel i l)
      (mul_zero (suc q) q (sum_below values frees) zeros) in
      ap (λ z. z % suc q) parts ∙ joined

  rest_pivot : (s : ℕ) → s < pivots → SameMod (suc q) (rest (pivot s)) 0
  rest_pivot s l =
      let row : ℕ → ℕ = combination (rows s) a.entry a.rows in
      let total : SameMod (suc q) (sum_below (λ j. row j * rest j) a.cols) 0 =
      ap (λ z. z % suc q) (dot-combination a (rows s) rest)
      ∙ sum_zero_mod (suc q) (λ i. rows s i * image a rest i) a.rows
      (λ i k. mul_zero (suc q) (rows s i) (image a rest i) (rest_kernel i k)) in
      let only : SameMod (suc q) (sum_below (λ j. row j * rest j) a.cols) (row (pivot s) * rest (pivot s)) =
      sum_only_mod (suc q) (λ j. row j * rest j) a.cols (pivot s) (e.pivot_below s l)
      (λ j k other. elim (e.each_place j k) [
        | inl at_pivot ↦
            let away : s ≢ at_pivot.0 = λ same. other (sym at_pivot.2 ∙ ap pivot (sym same)) in
            zero_mul (suc q) (row j) (rest j)
            (ap (λ z. row z % suc q) (sym at_pivot.2) ∙ e.row_pivot s at_pivot.0 l at_pivot.1
            ∙ ap (λ z. z % suc q) (unit_other at_pivot.0 s (λ e. away (sym e))))
        | inr at_free ↦
            mul_zero (suc q) (row j) (rest j) (ap (λ z. rest z % suc q) (sym at_free.2) ∙ rest_free at_free.0 at_free.1)
      ]) in
      let one : SameMod (suc q) (row (pivot s)) 1 = e.row_pivot s s l l ∙ ap (λ z. z % suc q) (unit_same s) in
      sym (one_mul (suc q) (row (pivot s)) (rest (pivot s)) one) ∙ sym only ∙ total

  rest_zero : (j : ℕ) → j < a.cols → SameMod (suc q) (rest j) 0
  rest_zero j l =
      elim (e.each_place j l) [
        | inl at_pivot ↦ ap (λ z. rest z % suc q) (sym at_pivot.2) ∙ rest_pivot at_pivot.0 at_pivot.1
        | inr at_free ↦ ap (λ z. rest z % suc q) (sym at_free.2) ∙ rest_free at_free.0 at_free.1
      ]

  -- what the rows send to zero is the combination of the basis with its numbers at the free places
  pub spans : SameVector (suc q) a.cols v (combination (λ t. v (free t)) basis frees)
  unfolding rest spanned
  spans j l = same_minus q (v j) (spanned j) (rest_zero j l)
