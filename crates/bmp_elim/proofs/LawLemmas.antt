-- What follows from reduced forms, and what evidence and dual forms say.
use Rattle.std.proofs.Common.{◌≡◌, ◌≢◌, ℕ, zero, suc, ◌+◌, ◌*◌, ◌%◌, ◌<◌, ◌≤◌, List, length, get_or, inl, inr, refl, sym, ap, ap₂, ◌∙◌, subst, arith}
use Rattle.std.proofs.Math.Nat.{mod-eq_of_lt, zero-mod}
use Rattle.std.proofs.lemmas.Bool.{cases_lt}
use Rattle.bmp_math.specs.Sums.{sum_below}
use Rattle.bmp_math.specs.Congruences.{SameMod}
use Rattle.bmp_math.specs.Vectors.{SameVector, unit, plus, dot}
use Rattle.bmp_math.specs.Matrices.{Matrix, combination, image}
use Rattle.bmp_math.proofs.CongruenceLemmas.{same_add, same_mul, mul_zero, mul_one, minus_same}
use Rattle.bmp_math.proofs.SumLemmas.{sum_below_same, sum_below-add, sum_below-zeros, sum_below_only, sum_same_mod, sum_zero_mod, sum_only_mod}
use Rattle.bmp_math.proofs.MatrixLemmas.{dot-combination}
use Rattle.bmp_linear.specs.declared.vector.Entry.{Entry}
use Rattle.bmp_linear.specs.Evidence.{vector_at}
use Rattle.bmp_linear.specs.FreePlaces.{free_places}
use Rattle.bmp_linear.proofs.EntrySums.{products_turned}
use Rattle.bmp_linear.proofs.FreeLemmas.{length-free_places}
use Rattle.bmp_elim.specs.Echelons.{IsEchelon, IsReducedBelow}
use Rattle.bmp_elim.specs.Extensions.{AreDual}
use Rattle.bmp_elim.specs.Traces.{IsTrace}
use Rattle.bmp_elim.specs.Laws.{HasInverses, HasReducedForm, HasKernelVector, IsLeftInverse}
use Rattle.bmp_math.proofs.UnitLemmas.{unit_same, unit_other}
use Rattle.bmp_elim.proofs.EndLemmas.{free_vector_image}
use Rattle.bmp_elim.proofs.EvidenceLemmas.{pivots_rise, pivots_below}
use Rattle.bmp_elim.proofs.FreeVectorLemmas.{IsFreePlace, free_place, not_place}
use Rattle.bmp_elim.proofs.ReducedFormLemmas.{reduced_form}

zero_plus : (x : ℕ) → 0 + x ≡ x
zero_plus x = omega arith

-- numbers put at places that differ are found there, and nothing elsewhere
module _ (c at : ℕ → ℕ) (n : ℕ) where
  placed_here : (k : ℕ) → k < n → ((l : ℕ) → l < n → l ≢ k → at l ≢ at k) →
      combination c (λ l. unit (at l)) n (at k) ≡ c k
  placed_here k l apart =
      sum_below_only (λ i. c i * unit (at i) (at k)) n k l
      (λ i b other. let none : unit (at i) (at k) ≡ 0 =
      unit_other (at i) (at k) (apart i b other) in rw none (omega arith))
      ∙ (let one : unit (at k) (at k) ≡ 1 = unit_same (at k) in rw one (omega arith))

  placed_nowhere : (j : ℕ) → ((k : ℕ) → k < n → at k ≢ j) → combination c (λ l. unit (at l)) n j ≡ 0
  placed_nowhere j apart =
      sum_below_same (λ i. c i * unit (at i) j) (λ i. 0) n
      (λ i b. let none : unit (at i) j ≡ 0 = unit_other (at i) j (apart i b) in rw none (omega arith))
      ∙ sum_below-zeros n

-- the vector of a free place
module _ (q : ℕ) (old a t : Matrix) (ps : List ℕ) (h : IsTrace (suc q) old a t) (r : IsEchelon a ps) (free : ℕ)
    (within : free < old.cols) (apart : (k : ℕ) → k < length ps → get_or ps k 0 ≢ free) where
  -- what takes the column of the free place away
  abbrev away : ℕ → ℕ
  away k = q * a.entry k free

  abbrev pivot_part : ℕ → ℕ
  pivot_part = combination away (λ k. unit (get_or ps k 0)) (length ps)

  abbrev free_vector : ℕ → ℕ
  free_vector j = unit free j + pivot_part j

  others : (k l : ℕ) → k < length ps → l < length ps → l ≢ k → get_or ps l 0 ≢ get_or ps k 0
  others k l b c other = elim (cases_lt l k) [
    | inl early ↦ let under : get_or ps l 0 < get_or ps k 0 = r.rising l k early b in omega arith
    | inr late ↦ let over : get_or ps k 0 < get_or ps l 0 = r.rising k l (omega arith) c in omega arith
  ]

  free_vector_one : free_vector free ≡ 1
  free_vector_one =
      let one : unit free free ≡ 1 = unit_same free in
      let none : pivot_part free ≡ 0 = placed_nowhere away (λ k. get_or ps k 0) (length ps) free apart in
      ap₂ (λ x y. x + y) one none

  free_vector_pivot : (k : ℕ) → k < length ps → SameMod (suc q) (a.entry k free + free_vector (get_or ps k 0)) 0
  free_vector_pivot k l =
      let none : unit free (get_or ps k 0) ≡ 0 = unit_other free (get_or ps k 0) (λ e. apart k l (sym e)) in
      let some : pivot_part (get_or ps k 0) ≡ away k =
      placed_here away (λ i. get_or ps i 0) (length ps) k l (λ i b other. others k i l b other) in
      let whole : free_vector (get_or ps k 0) ≡ away k = ap₂ (λ x y. x + y) none some ∙ zero_plus (away k) in
      ap (λ z. (a.entry k free + z) % suc q) whole
      ∙ minus_same q (a.entry k free) (a.entry k free) refl

  free_vector_elsewhere : (j : ℕ) → j ≢ free → ((k : ℕ) → k < length ps → get_or ps k 0 ≢ j) → free_vector j ≡ 0
  free_vector_elsewhere j other none =
      ap₂ (λ x y. x + y) (unit_other free j (λ e. other (sym e)))
      (placed_nowhere away (λ k. get_or ps k 0) (length ps) j none)

  free_vector_kernel : 2 ≤ suc q → HasKernelVector (suc q) old
  free_vector_kernel two = record {
    vector = free_vector;
    place = free;
    within = within;
    not_zero = λ e.
        let one : 1 % suc q ≡ 1 = mod-eq_of_lt two in
        let wrong : 1 ≡ 0 = sym one ∙ ap (λ z. z % suc q) (sym free_vector_one) ∙ e ∙ zero-mod (suc q) in
        absurd (omega (arith, wrong));
    kernel = free_vector_image (suc q) old a t (length ps) (λ k. get_or ps k 0) h
        (subst (λ n. IsReducedBelow n a (length ps) (λ k. get_or ps k 0)) h.cols r)
        free free_vector within apart free_vector_one free_vector_pivot free_vector_elsewhere;
  }

pub wide_kernel : (p : ℕ) → HasInverses p → (a : Matrix) → a.rows < a.cols → HasKernelVector p a
wide_kernel zero h a wide = absurd (omega (arith, h.at_least_two))
wide_kernel (suc q) h a wide =
    let form : HasReducedForm (suc q) a = reduced_form (suc q) h a in
    let all : length (free_places form.pivots form.rows.cols) + length form.pivots ≡ form.rows.cols =
    length-free_places form.pivots form.rows.cols (pivots_rise form.rows form.pivots form.echelon)
    (pivots_below form.rows form.pivots form.echelon) in
    let trace = form.trace.is_trace in
    let some : 0 < length (free_places form.pivots form.rows.cols) =
    omega (arith, form.echelon.within, trace.rows, trace.cols) in
    let free : ℕ = get_or (free_places form.pivots form.rows.cols) 0 0 in
    let is : IsFreePlace form.pivots form.rows.cols 0 free = free_place form.pivots form.rows.cols 0 some in
    free_vector_kernel q a form.rows form.trace.trace form.pivots form.trace.is_trace form.echelon free
    (subst (λ n. free < n) form.trace.is_trace.cols is.below) (not_place form.pivots free is.free) h.at_least_two

-- a unit reads a number of a vector
dot_unit : (n i : ℕ) (v : ℕ → ℕ) → i < n → dot n (unit i) v ≡ v i
dot_unit n i v l =
    sum_below_only (λ k. unit i k * v k) n i l
    (λ k b other. let none : unit i k ≡ 0 = unit_other i k (λ e. other (sym e)) in rw none (omega arith))
    ∙ (let one : unit i i ≡ 1 = unit_same i in rw one (omega arith))

-- what has a left inverse has no more columns than rows
left_inverse_narrow : (p : ℕ) → HasInverses p → (a b : Matrix) → IsLeftInverse p b a → a.rows < a.cols → ⊥
left_inverse_narrow p h a b inverse wide =
    let k : HasKernelVector p a = wide_kernel p h a wide in
    let row : ℕ → ℕ = b.entry k.place in
    let made : ℕ → ℕ = combination row a.entry a.rows in
    k.not_zero
    (ap (λ z. z % p) (sym (dot_unit a.cols k.place k.vector k.within))
    ∙ sym (sum_same_mod p (λ j. made j * k.vector j) (λ j. unit k.place j * k.vector j) a.cols
    (λ j l. same_mul p (made j) (unit k.place j) (k.vector j) (k.vector j) (inverse.product k.place k.within j l) refl))
    ∙ ap (λ z. z % p) (dot-combination a row k.vector)
    ∙ sum_zero_mod p (λ i. row i * image a k.vector i) a.rows
    (λ i l. mul_zero p (row i) (image a k.vector i) (k.kernel i l)))

pub inverses_square : (p : ℕ) → HasInverses p → (a b : Matrix) → IsLeftInverse p b a → IsLeftInverse p a b →
    a.rows ≡ a.cols
inverses_square p h a b first second =
    elim (cases_lt a.rows a.cols) [
      | inl wide ↦ absurd (left_inverse_narrow p h a b first wide)
      | inr narrow ↦ elim (cases_lt a.cols a.rows) [
        | inl tall ↦ absurd (left_inverse_narrow p h b a second (omega (arith, tall, first.rows, first.cols)))
        | inr flat ↦ omega arith
      ]
    ]

-- a form says of a combination the combination of what it says
dot_of_combination : (n m : ℕ) (u c : ℕ → ℕ) (vs : ℕ → ℕ → ℕ) →
    dot n u (combination c vs m) ≡ sum_below (λ k. c k * dot n u (vs k)) m
dot_of_combination n m u c vs =
    products_turned u (combination c vs m) n
    ∙ dot-combination (record { rows = m; cols = n; entry = vs }) c u

pub dual_reads : (p : ℕ) (span vectors : Matrix) (chosen : List ℕ) (duals : List (List Entry)) →
    span.cols ≡ vectors.cols → AreDual p span vectors chosen duals → (s c v : ℕ → ℕ) →
    SameVector p vectors.cols v (plus (combination s span.entry span.rows)
    (combination c (λ k. vectors.entry (get_or chosen k 0)) (length chosen))) →
    (i : ℕ) → i < length chosen → SameMod p (dot vectors.cols (vector_at duals i) v) (c i)
dual_reads p span vectors chosen duals wide d s c v is i l =
    let n : ℕ = vectors.cols in
    let u : ℕ → ℕ = vector_at duals i in
    let first : ℕ → ℕ = combination s span.entry span.rows in
    let second : ℕ → ℕ = combination c (λ k. vectors.entry (get_or chosen k 0)) (length chosen) in
    let none : SameMod p (dot n u first) 0 =
    ap (λ z. z % p) (dot_of_combination n span.rows u s span.entry)
    ∙ sum_zero_mod p (λ r. s r * dot n u (span.entry r)) span.rows
    (λ r b. mul_zero p (s r) (dot n u (span.entry r)) (ap (λ m. dot m u (span.entry r) % p) (sym wide)
    ∙ d.on_span i r l b)) in
    let says : (k : ℕ) → k < length chosen →
    SameMod p (dot n u (vectors.entry (get_or chosen k 0))) (unit i k) = λ k b. d.on_chosen i k l b in
    let one : SameMod p (dot n u second) (c i) =
    ap (λ z. z % p) (dot_of_combination n (length chosen) u c (λ k. vectors.entry (get_or chosen k 0)))
    ∙ sum_only_mod p (λ k. c k * dot n u (vectors.entry (get_or chosen k 0))) (length chosen) i l
    (λ k b other. mul_zero p (c k) (dot n u (vectors.entry (get_or chosen k 0))) (says k b
    ∙ ap (λ z. z % p) (unit_other i k (λ e. other (sym e)))))
    ∙ mul_one p (c i) (dot n u (vectors.entry (get_or chosen i 0))) (says i l ∙ ap (λ z. z % p) (unit_same i)) in
    sum_same_mod p (λ j. u j * v j) (λ j. u j * (first j + second j)) n
    (λ j b. same_mul p (u j) (u j) (v j) (first j + second j) refl (is j b))
    ∙ ap (λ z. z % p)
    (sum_below_same (λ j. u j * (first j + second j)) (λ j. u j * first j + u j * second j) n (λ j b. omega arith)
    ∙ sum_below-add (λ j. u j * first j) (λ j. u j * second j) n)
    ∙ same_add p (dot n u first) 0 (dot n u second) (c i) none one
    ∙ ap (λ z. z % p) (zero_plus (c i))
