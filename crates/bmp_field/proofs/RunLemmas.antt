-- Runs of numbers to which multiples are added, place by place.
use Rattle.std.proofs.Common.{◌≡◌, ◌≢◌, ℕ, zero, suc, ◌+◌, ◌-◌, ◌*◌, ◌%◌, ◌<◌, ◌≤◌, List, length, get_or, set, length-set, get_or-set_same, get_or-set_other, sym, ap, ap₂, ◌∙◌, inl, inr, arith}
use Rattle.std.proofs.Math.Nat.{add-mod-mod}
use Rattle.std.proofs.lemmas.Bool.{cases_eq}
use Rattle.bmp_math.proofs.CongruenceLemmas.{same_cancel, same_past}

-- the multiples are added below n, and the rest is as before
pub record IsAddedSoFar (p c : ℕ) (from : List ℕ) (n : ℕ) (old new : List ℕ) : Type 0 where
  pub length_is : length new ≡ length old
  pub added : (j : ℕ) → j < n → get_or new j 0 ≡ (get_or old j 0 + c * get_or from j 0) % p
  pub rest : (j : ℕ) → n ≤ j → get_or new j 0 ≡ get_or old j 0

-- one place more
pub added_more : (p c : ℕ) (from : List ℕ) (n : ℕ) (old new : List ℕ) (total : ℕ) → n < length old →
    IsAddedSoFar p c from n old new → total ≡ (get_or new n 0 + c * get_or from n 0) % p →
    IsAddedSoFar p c from (n + 1) old (set new n total)
added_more p c from n old new total within so_far is_total = record {
  length_is = length-set new n total ∙ so_far.length_is;
  added = λ j l. elim (cases_eq j n) [
    | inl here ↦
        let same : length new ≡ length old = so_far.length_is in
        let inside : n < length new = omega arith in
        ap (λ k. get_or (set new n total) k 0) here ∙ get_or-set_same new n total 0 inside ∙ is_total
        ∙ ap (λ x. (x + c * get_or from n 0) % p) (so_far.rest n (omega arith))
        ∙ ap (λ k. (get_or old k 0 + c * get_or from k 0) % p) (sym here)
    | inr other ↦ get_or-set_other new n j total 0 other ∙ so_far.added j (omega arith)
  ];
  rest = λ j l. let other : j ≢ n = omega arith in get_or-set_other new n j total 0 other ∙ so_far.rest j (omega arith);
}

-- as a field adds it
pub field_sum : (p c x y sum number term value total : ℕ) → sum ≡ x → number ≡ y → term ≡ (c * number) % p →
    value ≡ (sum + term) % p → total ≡ value → total ≡ (x + c * y) % p
field_sum p c x y sum number term value total is_sum is_number is_term is_value is_total =
    is_total ∙ is_value ∙ ap₂ (λ s t. (s + t) % p) is_sum (is_term ∙ ap (λ n. (c * n) % p) is_number)
    ∙ add-mod-mod x (c * y) p

-- p less a number is p - 1 times the number
less_by_one : (q x y : ℕ) → y < suc q → (x + (suc q - y)) % suc q ≡ (x + q * y) % suc q
less_by_one q x y below =
    let whole : x + (suc q - y) + y ≡ x + suc q * 1 = omega arith in
    let product : x + q * y + y ≡ x + suc q * y = omega arith in
    same_cancel (suc q) (x + (suc q - y)) (x + q * y) y (ap (λ z. z % suc q) whole ∙ same_past (suc q) x 1
    ∙ sym (ap (λ z. z % suc q) product ∙ same_past (suc q) x y))

pub less_is_times : (p x y : ℕ) → y < p → (x + (p - y)) % p ≡ (x + (p - 1) * y) % p
less_is_times zero x y below = absurd (omega arith)
less_is_times (suc q) x y below =
    let one : suc q - 1 ≡ q = omega arith in
    less_by_one q x y below ∙ ap (λ r. (x + r * y) % suc q) (sym one)
