-- Rows of numbers that a row is added to, column by column or entry by entry.
use Rattle.std.proofs.Common.{◌≡◌, ◌≢◌, ℕ, ◌+◌, ◌*◌, ◌%◌, ◌<◌, ◌≤◌, List, [], length, get_or, set, take, take_all, subst, eqb, eq-eqb, ne_eqb, get_or-set_same, get_or-set_other, refl, sym, ap, ap₂, ◌∙◌, inl, inr, arith}
use Rattle.std.proofs.Math.Nat.{add-mod-mod, mod-eq_of_lt}
use Rattle.std.proofs.lemmas.Bool.{cases_eq, cond-true, cond-false}
use Rattle.bmp_math.specs.Matrices.{Matrix}
use Rattle.bmp_linear.specs.RowChanges.{HoldsNumbers, IsRowAddedTo, AddsEntries}
use Rattle.bmp_linear.specs.declared.vector.Entry.{Entry}
use Rattle.bmp_linear.specs.SparseVectors.{IsSparse, number_at}
use Rattle.bmp_linear.proofs.SparseLemmas.{number_at_more, number_at-past, taken_fits}

-- c times row i was added below n, and the rest is as before
pub record IsAddedBelow (p : ℕ) (a : Matrix) (i c n : ℕ) (old new : List ℕ) : Type 0 where
  pub added : (j : ℕ) → j < n → get_or new j 0 ≡ (get_or old j 0 + c * a.entry i j) % p
  pub others : (j : ℕ) → n ≤ j → get_or new j 0 ≡ get_or old j 0

pub added_none : (p : ℕ) (a : Matrix) (i c : ℕ) (old : List ℕ) → IsAddedBelow p a i c 0 old old
added_none p a i c old = record { added = λ j l. absurd (omega arith); others = λ j l. refl }

-- one column more, as a field adds it
pub added_more : (p : ℕ) (a : Matrix) (i c : ℕ) (old : List ℕ) (n : ℕ) (new : List ℕ) (sum number term total : ℕ) →
    n < length new → IsAddedBelow p a i c n old new → sum ≡ get_or new n 0 → term ≡ (c * number) % p →
    number ≡ a.entry i n → total ≡ (sum + term) % p → IsAddedBelow p a i c (n + 1) old (set new n total)
added_more p a i c old n new sum number term total within so_far is_sum is_term is_number is_total = record {
  added = λ j l. elim (cases_eq j n) [
    | inl here ↦
        let before : sum ≡ get_or old n 0 = is_sum ∙ so_far.others n (omega arith) in
        let written : get_or (set new n total) n 0 ≡ total = get_or-set_same new n total 0 within in
        let reduced : total ≡ (get_or old n 0 + c * a.entry i n) % p =
        is_total ∙ ap₂ (λ x y. (x + y) % p) before is_term ∙ add-mod-mod (get_or old n 0) (c * number) p
        ∙ ap (λ x. (get_or old n 0 + c * x) % p) is_number in
        ap (λ k. get_or (set new n total) k 0) here ∙ written ∙ reduced
        ∙ ap (λ k. (get_or old k 0 + c * a.entry i k) % p) (sym here)
    | inr other ↦ get_or-set_other new n j total 0 other ∙ so_far.added j (omega arith)
  ];
  others = λ j l. let other : j ≢ n = omega arith in get_or-set_other new n j total 0 other
      ∙ so_far.others j (omega arith);
}

pub added_all : (p : ℕ) (a : Matrix) (i c n : ℕ) (old new : List ℕ) → n ≡ a.cols → IsAddedBelow p a i c n old new →
    IsRowAddedTo p a i c old new
added_all p a i c n old new all so_far = record {
  added = λ j l. so_far.added j (omega arith);
  others = λ j l. so_far.others j (omega arith);
}

-- what was not reached yet is below p
pub still_below : (p : ℕ) (a : Matrix) (i c n : ℕ) (old new : List ℕ) (number : ℕ) → HoldsNumbers p a.cols old →
    IsAddedBelow p a i c n old new → n < a.cols → number ≡ get_or new n 0 → number < p
still_below p a i c n old new number holds so_far within is =
    let below : get_or old n 0 < p = holds.below n within in
    let same : get_or new n 0 ≡ get_or old n 0 = so_far.others n (omega arith) in
    omega arith

pub entries_none : (p c : ℕ) (old : List ℕ) → AddsEntries p c [] old old
entries_none p c old = record {
  added = λ j l. let none : get_or old j 0 + c * 0 ≡ get_or old j 0 = omega arith in
      sym (mod-eq_of_lt l) ∙ ap (λ x. x % p) (sym none);
  others = λ j l. refl;
}

-- where no entry was reached yet, the number is as before
untouched : (p c : ℕ) (v : List Entry) (k : ℕ) (d : Entry) (old new : List ℕ) → IsSparse v → k < length v →
    AddsEntries p c (take k v) old new → get_or new (get_or v k d).place 0 ≡ get_or old (get_or v k d).place 0
untouched p c v k d old new sparse l so_far =
    so_far.others (get_or v k d).place
    (number_at-past (take k v) (get_or v k d).place (taken_fits v k d sparse.rising l))

pub entry_untouched : (p c : ℕ) (v : List Entry) (k : ℕ) (d : Entry) (old new : List ℕ) (number : ℕ) → IsSparse v →
    k < length v → get_or old (get_or v k d).place 0 < p → AddsEntries p c (take k v) old new →
    number ≡ get_or new (get_or v k d).place 0 → number < p
entry_untouched p c v k d old new number sparse l below so_far is =
    rw (is, untouched p c v k d old new sparse l so_far) below

-- one entry more
pub entries_more : (p c : ℕ) (v : List Entry) (k : ℕ) (d : Entry) (old new : List ℕ) (sum value term total : ℕ) →
    IsSparse v → k < length v → (get_or v k d).place < length new → AddsEntries p c (take k v) old new →
    sum ≡ get_or new (get_or v k d).place 0 → term ≡ (c * value) % p → value ≡ (get_or v k d).value →
    total ≡ (sum + term) % p → AddsEntries p c (take (k + 1) v) old (set new (get_or v k d).place total)
entries_more p c v k d old new sum value term total sparse l within so_far is_sum is_term is_value is_total = record {
  added = λ j below. elim (cases_eq (get_or v k d).place j) [
    | inl here ↦
        let number : number_at (take (k + 1) v) j ≡ (get_or v k d).value = number_at_more v k j d sparse.rising l
        ∙ cond-true (eqb (get_or v k d).place j) (get_or v k d).value (number_at (take k v) j)
        (eq-eqb (get_or v k d).place j here) in
        let before : sum ≡ get_or old j 0 = is_sum ∙ untouched p c v k d old new sparse l so_far
        ∙ ap (λ m. get_or old m 0) here in
        let reduced : total ≡ (get_or old j 0 + c * number_at (take (k + 1) v) j) % p =
        is_total ∙ ap₂ (λ x y. (x + y) % p) before is_term ∙ add-mod-mod (get_or old j 0) (c * value) p
        ∙ ap (λ x. (get_or old j 0 + c * x) % p) (is_value ∙ sym number) in
        ap (λ m. get_or (set new (get_or v k d).place total) m 0) (sym here)
        ∙ get_or-set_same new (get_or v k d).place total 0 within ∙ reduced
    | inr other ↦
        let number : number_at (take (k + 1) v) j ≡ number_at (take k v) j = number_at_more v k j d sparse.rising l
        ∙ cond-false (eqb (get_or v k d).place j) (get_or v k d).value (number_at (take k v) j)
        (ne_eqb (get_or v k d).place j other) in
        get_or-set_other new (get_or v k d).place j total 0 (λ e. other (sym e)) ∙ so_far.added j below
        ∙ ap (λ x. (get_or old j 0 + c * x) % p) (sym number)
  ];
  others = λ j none. elim (cases_eq (get_or v k d).place j) [
    | inl here ↦
        let number : number_at (take (k + 1) v) j ≡ (get_or v k d).value = number_at_more v k j d sparse.rising l
        ∙ cond-true (eqb (get_or v k d).place j) (get_or v k d).value (number_at (take k v) j)
        (eq-eqb (get_or v k d).place j here) in
        absurd (sparse.not_zero k d l (sym number ∙ none))
    | inr other ↦
        let number : number_at (take (k + 1) v) j ≡ number_at (take k v) j = number_at_more v k j d sparse.rising l
        ∙ cond-false (eqb (get_or v k d).place j) (get_or v k d).value (number_at (take k v) j)
        (ne_eqb (get_or v k d).place j other) in
        get_or-set_other new (get_or v k d).place j total 0 (λ e. other (sym e)) ∙ so_far.others j (sym number ∙ none)
  ];
}

pub entries_all : (p c : ℕ) (v : List Entry) (k : ℕ) (old new : List ℕ) → length v ≤ k →
    AddsEntries p c (take k v) old new → AddsEntries p c v old new
entries_all p c v k old new l so_far = subst (λ w. AddsEntries p c w old new) (take_all k v l) so_far
