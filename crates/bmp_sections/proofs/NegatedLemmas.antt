-- Minus the entries of a vector, modulo p, as loops read them.
use Rattle.std.proofs.Common.{◌≡◌, ◌≢◌, ℕ, zero, suc, ◌+◌, ◌-◌, ◌*◌, ◌%◌, ◌<◌, ◌≤◌, List, [], ◌∷◌, length, get_or, set, take, refl, sym, ap, subst, ◌∙◌, arith}
use Rattle.std.specs.List.{sum_by}
use Rattle.std.proofs.Math.Nat.{mod-eq_of_lt}
use Rattle.std.proofs.lemmas.List.{get_or-map, length-map}
use Rattle.bmp_math.proofs.CongruenceLemmas.{same_past}
use Rattle.bmp_linear.specs.declared.vector.Entry.{Entry}
use Rattle.bmp_linear.specs.SparseVectors.{IsSparse, ValuesBelow, number_at}
use Rattle.bmp_linear.specs.RowChanges.{AddsEntries}
use Rattle.bmp_linear.specs.EntryChanges.{times_entry}
use Rattle.bmp_linear.proofs.SparseLemmas.{number_at-below}
use Rattle.bmp_linear.proofs.EntrySums.{entry_sum, entry_sum_more, entry_sum_whole}
use Rattle.bmp_linear.proofs.EntryTimesLemmas.{times_sparse}
use Rattle.bmp_linear.proofs.RowSums.{entries_more, entries_all, entry_untouched}
use Rattle.bmp_sections.specs.RowParts.{negated}

-- minus a number that isn't 0
pub minus_is : (p z : ℕ) → z < p → z ≢ 0 → p - z ≡ ((p - 1) * z) % p
minus_is zero z below other = absurd (omega arith)
minus_is (suc q) zero below other = absurd (other refl)
minus_is (suc q) (suc w) below other =
    let fewer : suc q - 1 ≡ q = omega arith in
    let whole : q * suc w ≡ (suc q - suc w) + suc q * w = omega arith in
    let less : suc q - suc w < suc q = omega arith in
    sym (ap (λ x. (x * suc w) % suc q) fewer ∙ ap (λ x. x % suc q) whole ∙ same_past (suc q) (suc q - suc w) w
    ∙ mod-eq_of_lt less)

-- a number of a vector, if it isn't 0, is below what its values are below
pub number_small : (v : List Entry) (p j number : ℕ) → ValuesBelow v p → number ≡ number_at v j → number ≢ 0 →
    number < p
number_small [] zero j number values is other = absurd (other is)
number_small (e ∷ es) zero j number values is other =
    absurd (let none : e.value < 0 = values 0 e (omega arith) in omega arith)
number_small v (suc q) j number values is other = rw is (number_at-below v (suc q) j (omega arith) values)

-- minus one is its own inverse
minus_inverse : (p : ℕ) → 2 ≤ p → ((p - 1) * (p - 1)) % p ≡ 1
minus_inverse zero two = absurd (omega arith)
minus_inverse (suc zero) two = absurd (omega arith)
minus_inverse (suc (suc k)) two =
    let fewer : suc (suc k) - 1 ≡ suc k = omega arith in
    let whole : suc k * suc k ≡ 1 + suc (suc k) * k = omega arith in
    let less : 1 < suc (suc k) = omega arith in
    ap (λ x. (x * x) % suc (suc k)) fewer ∙ ap (λ x. x % suc (suc k)) whole ∙ same_past (suc (suc k)) 1 k
    ∙ mod-eq_of_lt less

module _ (p : ℕ) (v : List Entry) (sparse : IsSparse v) (values : ValuesBelow v p) where
  -- a prime with a number below it that isn't 0
  two_below : (k : ℕ) (d : Entry) → k < length v → 2 ≤ p
  two_below k d l =
      let below : (get_or v k d).value < p = values k d l in
      let other : (get_or v k d).value ≢ 0 = sparse.not_zero k d l in
      omega arith

  pub negated_sparse : 2 ≤ p → IsSparse (negated p v)
  negated_sparse two = times_sparse p (p - 1) (p - 1) v two (minus_inverse p two) values sparse

  negated_length : length (negated p v) ≡ length v
  negated_length = length-map v (times_entry p (p - 1))

  negated_at : (k : ℕ) (d : Entry) → k < length v → get_or (negated p v) k d ≡ times_entry p (p - 1) (get_or v k d)
  negated_at k d l = get_or-map (times_entry p (p - 1)) v k d d l

  pub negated_place : (k : ℕ) (d : Entry) → k < length v → (get_or (negated p v) k d).place ≡ (get_or v k d).place
  negated_place k d l = ap (λ (e : Entry). e.place) (negated_at k d l)

  pub negated_value : (k : ℕ) (d : Entry) → k < length v → (get_or (negated p v) k d).value ≡ p - (get_or v k d).value
  negated_value k d l = ap (λ (e : Entry). e.value) (negated_at k d l)
      ∙ sym (minus_is p (get_or v k d).value (values k d l) (sparse.not_zero k d l))

  -- the value that is taken away is at most p, and what is left is a number of the field
  pub taken_value : (n : ℕ) (k : ℕ) (d : Entry) → k < length v → ValuesBelow (negated p v) n →
      p - (get_or v k d).value < n
  taken_value n k d l below = subst (λ z. z < n) (negated_value k d l) (below k d (omega (arith, l, negated_length)))

  -- one entry more, as a field adds its product
  pub negated_more :
      (n k : ℕ) (d : Entry) (g : ℕ → ℕ) (sum factor number product total : ℕ) → k < length v →
      sum ≡ entry_sum (take k (negated p v)) g % n → factor ≡ p - (get_or v k d).value →
      number ≡ g (get_or v k d).place → product ≡ (factor * number) % n → total ≡ (sum + product) % n →
      total ≡ entry_sum (take (k + 1) (negated p v)) g % n
  negated_more n k d g sum factor number product total l is_sum is_factor is_number is_product is_total =
      entry_sum_more n (negated p v) k d g sum factor number product total (omega (arith, l, negated_length)) is_sum
      (is_factor ∙ sym (negated_value k d l)) (is_number ∙ ap g (sym (negated_place k d l))) is_product is_total

  pub negated_whole : (n k : ℕ) (g : ℕ → ℕ) (sum : ℕ) → length v ≤ k → sum ≡ entry_sum (take k (negated p v)) g % n →
      sum ≡ sum_by (λ e. e.value * g e.place) (negated p v) % n
  negated_whole n k g sum l is_sum = entry_sum_whole n (negated p v) k g sum (omega (arith, l, negated_length)) is_sum

  -- the same where they are added to other numbers
  pub negated_untouched :
      (n c k : ℕ) (d : Entry) (old new : List ℕ) (number : ℕ) → k < length v → get_or old (get_or v k d).place 0 < n →
      AddsEntries n c (take k (negated p v)) old new → number ≡ get_or new (get_or v k d).place 0 → number < n
  negated_untouched n c k d old new number l below so_far is_number =
      let place = negated_place k d l in
      entry_untouched n c (negated p v) k d old new number (negated_sparse (two_below k d l))
      (omega (arith, l, negated_length))
      (subst (λ j. get_or old j 0 < n) (sym (negated_place k d l)) below) so_far
      (is_number ∙ ap (λ j. get_or new j 0) (sym place))

  pub negated_added :
      (n c k : ℕ) (d : Entry) (old new : List ℕ) (sum value term total : ℕ) → k < length v →
      (get_or v k d).place < length new → AddsEntries n c (take k (negated p v)) old new →
      sum ≡ get_or new (get_or v k d).place 0 → term ≡ (c * value) % n → value ≡ p - (get_or v k d).value →
      total ≡ (sum + term) % n →
      AddsEntries n c (take (k + 1) (negated p v)) old (set new (get_or v k d).place total)
  negated_added n c k d old new sum value term total l within so_far is_sum is_term is_value is_total =
      let place = negated_place k d l in
      subst (λ j. AddsEntries n c (take (k + 1) (negated p v)) old (set new j total)) place
      (entries_more n c (negated p v) k d old new sum value term total (negated_sparse (two_below k d l))
      (omega (arith, l, negated_length))
      (subst (λ j. j < length new) (sym (negated_place k d l)) within) so_far
      (is_sum ∙ ap (λ j. get_or new j 0) (sym place)) is_term (is_value ∙ sym (negated_value k d l)) is_total)

  pub negated_all : (n c k : ℕ) (old new : List ℕ) → length v ≤ k → AddsEntries n c (take k (negated p v)) old new →
      AddsEntries n c (negated p v) old new
  negated_all n c k old new l so_far = entries_all n c (negated p v) k old new (omega (arith, l, negated_length)) so_far
