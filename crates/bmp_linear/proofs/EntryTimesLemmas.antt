-- Entries whose values are multiplied, and where a sum's entries stand.
use Rattle.std.proofs.Common.{◌≡◌, ◌≢◌, ℕ, ◌+◌, ◌*◌, ◌%◌, ◌<◌, ◌≤◌, List, [], ◌∷◌, get_or, map, eqb, eq-eqb, ne_eqb, sym, ap, ap₂, ◌∙◌, inl, inr, arith}
use Rattle.std.proofs.Math.Nat.{zero-mod, mod-eq_of_lt}
use Rattle.std.proofs.lemmas.Bool.{cases_eq, cases_lt, cond-true, cond-false}
use Rattle.std.proofs.lemmas.List.Elements.{All-map}
use Rattle.bmp_math.specs.Congruences.{SameMod}
use Rattle.bmp_math.proofs.CongruenceLemmas.{mul_zero, one_mul, same_below}
use Rattle.bmp_linear.specs.declared.vector.Entry.{Entry}
use Rattle.bmp_linear.specs.SparseVectors.{IsRising, IsSparse, FitsBelow, ValuesBelow, number_at}
use Rattle.bmp_linear.specs.EntryChanges.{times_entry, IsEntrySum}
use Rattle.bmp_linear.proofs.SparseLemmas.{number_at-past, number_at-own}
use Rattle.bmp_linear.proofs.MergeLemmas.{fits_above}

-- where c has an inverse m, its product with a number other than 0 isn't 0
times_not_zero : (p c m v : ℕ) → 2 ≤ p → (c * m) % p ≡ 1 → v < p → v ≢ 0 → (c * v) % p ≢ 0
times_not_zero p c m v two inverse below other none =
    let is_one : SameMod p (c * m) 1 = inverse ∙ sym (mod-eq_of_lt (let more : 1 < p = omega arith in more)) in
    let is_zero : SameMod p (c * v) 0 = none ∙ sym (zero-mod p) in
    let turned : (c * m) * v ≡ m * (c * v) = omega arith in
    let same : SameMod p v 0 = sym (one_mul p (c * m) v is_one) ∙ ap (λ x. x % p) turned
    ∙ mul_zero p m (c * v) is_zero in
    other (same_below p v 0 below (omega arith) same)

-- each number is multiplied
pub number_at-times : (p c : ℕ) (v : List Entry) (j : ℕ) → number_at (map (times_entry p c) v) j ≡ (c * number_at v j)
    % p
number_at-times p c [] j = let none : c * 0 ≡ 0 = omega arith in sym (ap (λ x. x % p) none ∙ zero-mod p)
number_at-times p c (e ∷ es) j =
    elim (cases_eq e.place j) [
      | inl here ↦
          cond-true {A = ℕ} (eqb e.place j) ((c * e.value) % p) (number_at (map (times_entry p c) es) j)
          (eq-eqb e.place j here)
          ∙ ap (λ x. (c * x) % p)
          (sym (cond-true {A = ℕ} (eqb e.place j) e.value (number_at es j) (eq-eqb e.place j here)))
      | inr other ↦
          cond-false {A = ℕ} (eqb e.place j) ((c * e.value) % p) (number_at (map (times_entry p c) es) j)
          (ne_eqb e.place j other)
          ∙ number_at-times p c es j
          ∙ ap (λ x. (c * x) % p)
          (sym (cond-false {A = ℕ} (eqb e.place j) e.value (number_at es j) (ne_eqb e.place j other)))
    ]

times_rising : (p c : ℕ) (v : List Entry) → IsRising v → IsRising (map (times_entry p c) v)
times_rising p c [] r = r
times_rising p c (e ∷ es) r = (All-map (λ d. e.place < d.place) (times_entry p c) es r.0, times_rising p c es r.1)

pub times_fits : (p c n : ℕ) (v : List Entry) → FitsBelow v n → FitsBelow (map (times_entry p c) v) n
times_fits p c n v h = All-map (λ d. d.place < n) (times_entry p c) v h

pub times_sparse : (p c m : ℕ) (v : List Entry) → 2 ≤ p → (c * m) % p ≡ 1 → ValuesBelow v p → IsSparse v →
    IsSparse (map (times_entry p c) v)
times_sparse p c m v two inverse values sparse = record {
  rising = times_rising p c v sparse.rising;
  not_zero = All-map (λ e. e.value ≢ 0) (times_entry p c) v
      (λ k d l. times_not_zero p c m (get_or v k d).value two inverse (values k d l) (sparse.not_zero k d l));
}

-- a sum has entries only where one of its parts has one
pub sum_fits : (p c n : ℕ) (u v w : List Entry) → FitsBelow u n → FitsBelow v n → IsEntrySum p c u v w → FitsBelow w n
sum_fits p c n u v w first second sum k d l =
    elim (cases_lt (get_or w k d).place n) [
      | inl within ↦ within
      | inr past ↦
          let no_first : number_at u (get_or w k d).place ≡ 0 =
          number_at-past u (get_or w k d).place (fits_above u n (get_or w k d).place (omega arith) first) in
          let no_second : number_at v (get_or w k d).place ≡ 0 =
          number_at-past v (get_or w k d).place (fits_above v n (get_or w k d).place (omega arith) second) in
          let nothing : 0 + c * 0 ≡ 0 = omega arith in
          let none : number_at w (get_or w k d).place ≡ 0 =
          sum.same (get_or w k d).place ∙ ap₂ (λ x y. (x + c * y) % p) no_first no_second ∙ ap (λ x. x % p) nothing
          ∙ zero-mod p in
          absurd (sum.sparse.not_zero k d l (sym (number_at-own w k d sum.sparse.rising l) ∙ none))
    ]
