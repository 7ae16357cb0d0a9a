-- Reading and writing lists of coefficients.
use Rattle.std.proofs.Common.{◌≡◌, ◌≢◌, ℕ, zero, suc, ◌+◌, ◌*◌, ◌%◌, ◌<◌, ◌≤◌, List, [], ◌∷◌, length, get_or, set, refl, sym, ap, ap₂, ◌∙◌, inl, inr, arith, length-set}
use Rattle.std.proofs.lemmas.List.{get_or_default}
use Rattle.std.specs.List.{All}
use Rattle.std.proofs.Math.Nat.{mod-eq_of_lt}
use Rattle.std.proofs.lemmas.Bool.{cases_eq, cases_lt}
use Rattle.std.proofs.lemmas.List.Elements.{All-set}
use Rattle.bmp_poly.specs.Coefficients.{coefficient}

pub coefficient_read : {E : Type 0} (num : E → ℕ) (xs : List E) (i : ℕ) (x : E) → i < length xs → x ≡ get_or xs i x →
    coefficient num xs i ≡ num x
unfolding coefficient
coefficient_read num [] i x l e = absurd (omega arith)
coefficient_read num (y ∷ xs) zero x l e = ap num (sym e)
coefficient_read num (y ∷ xs) (suc i) x l e = coefficient_read num xs i x (omega arith) e

pub coefficient_set_same : {E : Type 0} (num : E → ℕ) (xs : List E) (i : ℕ) (x : E) → i < length xs →
    coefficient num (set xs i x) i ≡ num x
unfolding coefficient
coefficient_set_same num [] i x l = absurd (omega arith)
coefficient_set_same num (y ∷ xs) zero x l = refl
coefficient_set_same num (y ∷ xs) (suc i) x l = coefficient_set_same num xs i x (omega arith)

pub coefficient_set_other : {E : Type 0} (num : E → ℕ) (xs : List E) (i j : ℕ) (x : E) → i ≢ j →
    coefficient num (set xs i x) j ≡ coefficient num xs j
unfolding coefficient
coefficient_set_other num [] i j x other = refl
coefficient_set_other num (y ∷ xs) zero zero x other = absurd (other refl)
coefficient_set_other num (y ∷ xs) zero (suc j) x other = refl
coefficient_set_other num (y ∷ xs) (suc i) zero x other = refl
coefficient_set_other num (y ∷ xs) (suc i) (suc j) x other = coefficient_set_other num xs i j x (λ e. other (ap suc e))

-- read by any default
pub coefficient-get_or : {E : Type 0} (num : E → ℕ) (xs : List E) (i : ℕ) (d : E) → i < length xs →
    coefficient num xs i ≡ num (get_or xs i d)
coefficient-get_or num xs i d l = coefficient_read num xs i (get_or xs i d) l (get_or_default xs i d (get_or xs i d) l)

pub coefficient_past : {E : Type 0} (num : E → ℕ) (xs : List E) (i : ℕ) → length xs ≤ i → coefficient num xs i ≡ 0
unfolding coefficient
coefficient_past num [] i l = refl
coefficient_past num (x ∷ xs) zero l = absurd (omega arith)
coefficient_past num (x ∷ xs) (suc i) l = coefficient_past num xs i (omega arith)

pub coefficient_all_zero : {E : Type 0} (num : E → ℕ) (xs : List E) (i : ℕ) → All (λ x. num x ≡ 0) xs →
    coefficient num xs i ≡ 0
unfolding coefficient
coefficient_all_zero num [] i h = refl
coefficient_all_zero num (x ∷ xs) zero h = h 0 x (omega arith)
coefficient_all_zero num (x ∷ xs) (suc i) h = coefficient_all_zero num xs i (λ k d l. h (suc k) d (omega arith))

-- one more element is zero
pub zero_read : {E : Type 0} (num : E → ℕ) (xs : List E) (i : ℕ) (x d : E) → i < length xs → x ≡ get_or xs i x →
    num x ≡ 0 → num (get_or xs i d) ≡ 0
zero_read num xs i x d l read e = ap num (get_or_default xs i d x l ∙ sym read) ∙ e

-- the first n coefficients have the numbers that g says
pub record WrittenBelow {E : Type 0} (is_value : E → Type 0) (num : E → ℕ) (g : ℕ → ℕ) (old now : List E) (n : ℕ) :
    Type 0 where
  pub sized : length now ≡ length old
  pub values : All is_value now
  pub done : (j : ℕ) → j < n → coefficient num now j ≡ g j
  pub left : (j : ℕ) → n ≤ j → coefficient num now j ≡ coefficient num old j

pub written_more : {E : Type 0} (is_value : E → Type 0) (num : E → ℕ) (g : ℕ → ℕ) (old now : List E) (n : ℕ) (x : E) →
    n < length old → WrittenBelow is_value num g old now n → is_value x → num x ≡ g n →
    WrittenBelow is_value num g old (set now n x) (n + 1)
written_more is_value num g old now n x l h v e =
    let sized : length now ≡ length old = h.sized in
    record {
      sized = length-set now n x ∙ h.sized;
      values = All-set is_value now n x v h.values;
      done = λ j below. elim (cases_eq n j) [
        | inl here ↦ rw (← here) (coefficient_set_same num now n x (omega arith) ∙ e)
        | inr other ↦ coefficient_set_other num now n j x other ∙ h.done j (omega arith)
      ];
      left = λ j past. coefficient_set_other num now n j x (omega arith) ∙ h.left j (omega arith);
    }

-- past the end, too, where g says 0
pub written_all : {E : Type 0} (is_value : E → Type 0) (num : E → ℕ) (g : ℕ → ℕ) (old now : List E) (n : ℕ) →
    length old ≤ n → ((j : ℕ) → length old ≤ j → g j ≡ 0) → WrittenBelow is_value num g old now n →
    (j : ℕ) → coefficient num now j ≡ g j
written_all is_value num g old now n all past h j =
    let sized : length now ≡ length old = h.sized in
    elim (cases_lt j (length old)) [
      | inl below ↦ h.done j (omega arith)
      | inr beyond ↦ coefficient_past num now j (omega arith) ∙ sym (past j beyond)
    ]

-- a coefficient before it is written
pub written_read : {E : Type 0} (is_value : E → Type 0) (num : E → ℕ) (g : ℕ → ℕ) (old now : List E) (n : ℕ) (a : E) →
    n < length old → WrittenBelow is_value num g old now n → a ≡ get_or now n a → num a ≡ coefficient num old n
written_read is_value num g old now n a l h read = let sized : length now ≡ length old =
    h.sized in sym (coefficient_read num now n a (omega arith) read) ∙ h.left n (omega arith)

-- sums and multiples by place
pub sums_past : {E : Type 0} (num : E → ℕ) (p : ℕ) (xs ys : List E) → 0 < p → length xs ≡ length ys →
    (j : ℕ) → length xs ≤ j → (coefficient num xs j + coefficient num ys j) % p ≡ 0
sums_past num p xs ys some sized j past =
    rw (coefficient_past num xs j past, coefficient_past num ys j (omega arith)) (mod-eq_of_lt some)

pub multiples_past : {E : Type 0} (num : E → ℕ) (p c : ℕ) (xs : List E) → 0 < p → (j : ℕ) → length xs ≤ j →
    (c * coefficient num xs j) % p ≡ 0
multiples_past num p c xs some j past = let none : c * 0 ≡ 0 = omega arith in
    rw (coefficient_past num xs j past, none) (mod-eq_of_lt some)

-- the first n coefficients of other are added
abbrev pub AddedBelow : {E : Type 0} → (E → Type 0) → (E → ℕ) → ℕ → List E → List E → List E → ℕ → Type 0
AddedBelow is_value num p old other now n =
    WrittenBelow is_value num (λ j. (coefficient num old j + coefficient num other j) % p) old now n

pub added_more : {E : Type 0} (is_value : E → Type 0) (num : E → ℕ) (p : ℕ) (old other now : List E) (n : ℕ)
    (a b x : E) → n < length old → n < length other → AddedBelow is_value num p old other now n → a ≡ get_or now n a →
    b ≡ get_or other n b → is_value x → num x ≡ (num a + num b) % p →
    AddedBelow is_value num p old other (set now n x) (n + 1)
added_more is_value num p old other now n a b x l m h ea eb v e =
    let read = written_read is_value num (λ j. (coefficient num old j + coefficient num other j) % p) old now n a l h
    ea in
    let others : num b ≡ coefficient num other n = sym (coefficient_read num other n b m eb) in
    written_more is_value num (λ j. (coefficient num old j + coefficient num other j) % p) old now n x l h v
    (e ∙ ap₂ (λ y z. (y + z) % p) read others)

-- the first n coefficients are multiplied by c
pub scaled_more : {E : Type 0} (is_value : E → Type 0) (num : E → ℕ) (p c : ℕ) (old now : List E) (n : ℕ) (a x : E) →
    n < length old → WrittenBelow is_value num (λ j. (c * coefficient num old j) % p) old now n → a ≡ get_or now n a →
    is_value x → num x ≡ (c * num a) % p → WrittenBelow is_value num (λ j. (c * coefficient num old j) % p) old
    (set now n x) (n + 1)
scaled_more is_value num p c old now n a x l h ea v e =
    let read = written_read is_value num (λ j. (c * coefficient num old j) % p) old now n a l h ea in
    written_more is_value num (λ j. (c * coefficient num old j) % p) old now n x l h v (e ∙ ap (λ y. (c * y) % p) read)
