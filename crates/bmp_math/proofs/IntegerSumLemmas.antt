-- Laws of sums of integers.
use Rattle.std.proofs.Common.{◌≡◌, ◌≢◌, ℕ, zero, suc, ◌+◌, ◌<◌, arith, refl, sym, ap, ap₂, ◌∙◌, inl, inr, ℤ, pos, ◌+ℤ◌, ◌-ℤ◌, ◌*ℤ◌}
use Rattle.std.proofs.lemmas.Bool.{cases_eq}
use Rattle.std.proofs.lemmas.Bool.Decides.{nat_tests}
use Rattle.std.proofs.lemmas.Int.{ints}
use Rattle.bmp_math.specs.IntegerSums.{integer_sum, integer_unit}
use Rattle.bmp_math.proofs.IntegerLemmas.{mul-add, one-mul, mul-one, zero-mul, mul-zero}

pub integer_sum-zero : (f : ℕ → ℤ) → integer_sum f 0 ≡ pos 0
unfolding integer_sum
integer_sum-zero f = refl

-- one term more, as a loop adds it
pub integer_sum_more : (f : ℕ → ℤ) (n : ℕ) → integer_sum f (n + 1) ≡ integer_sum f n +ℤ f n
unfolding integer_sum
integer_sum_more f n = let e : n + 1 ≡ suc n = omega arith in ap (λ k. integer_sum f k) e

pub integer_sum_same : (f g : ℕ → ℤ) (n : ℕ) → ((i : ℕ) → i < n → f i ≡ g i) → integer_sum f n ≡ integer_sum g n
unfolding integer_sum
integer_sum_same f g zero h = refl
integer_sum_same f g (suc n) h =
    ap₂ (λ x y. x +ℤ y) (integer_sum_same f g n (λ i l. h i (omega arith))) (h n (omega arith))

-- f less t times g
pub integer_sum-minus : (f g : ℕ → ℤ) (t : ℤ) (n : ℕ) → integer_sum (λ i. f i -ℤ t *ℤ g i) n
    ≡ integer_sum f n -ℤ t *ℤ integer_sum g n
unfolding integer_sum
integer_sum-minus f g t zero = omega (arith, ints)
integer_sum-minus f g t (suc n) = omega (arith, ints, integer_sum-minus f g t n, mul-add t (integer_sum g n) (g n))

pub integer_sum-mul : (c : ℤ) (f : ℕ → ℤ) (n : ℕ) → integer_sum (λ i. c *ℤ f i) n ≡ c *ℤ integer_sum f n
unfolding integer_sum
integer_sum-mul c f zero = omega (arith, ints)
integer_sum-mul c f (suc n) = omega (arith, ints, integer_sum-mul c f n, mul-add c (integer_sum f n) (f n))

pub integer_sum-zeros : (f : ℕ → ℤ) (n : ℕ) → ((i : ℕ) → i < n → f i ≡ pos 0) → integer_sum f n ≡ pos 0
unfolding integer_sum
integer_sum-zeros f zero h = refl
integer_sum-zeros f (suc n) h = omega (arith, ints, integer_sum-zeros f n (λ i l. h i (omega arith)), h n (omega arith))

-- a sum whose terms are zero but for one
pub integer_sum_only : (f : ℕ → ℤ) (n k : ℕ) → k < n → ((i : ℕ) → i < n → i ≢ k → f i ≡ pos 0) → integer_sum f n ≡ f k
unfolding integer_sum
integer_sum_only f zero k l h = absurd (omega arith)
integer_sum_only f (suc n) k l h =
    elim (cases_eq k n) [
      | inl last ↦
          let before : integer_sum f n ≡ pos 0 = integer_sum-zeros f n (λ i m. h i (omega arith) (omega arith)) in
          let same : f n ≡ f k = ap f (sym last) in
          omega (arith, ints)
      | inr other ↦
          let before : integer_sum f n ≡ f k = integer_sum_only f n k (omega arith) (λ i m. h i (omega arith)) in
          let last : f n ≡ pos 0 = h n (omega arith) (λ e. other (sym e)) in
          omega (arith, ints)
    ]

pub unit_at : (k : ℕ) → integer_unit k k ≡ pos 1
unfolding integer_unit
unit_at k = grind (arith, nat_tests)

pub unit_off : (k j : ℕ) → j ≢ k → integer_unit k j ≡ pos 0
unfolding integer_unit
unit_off k j h = grind (arith, nat_tests)

-- a sum of products with a integer_unit vector
pub sum_unit_left : (k n : ℕ) (f : ℕ → ℤ) → k < n → integer_sum (λ i. integer_unit k i *ℤ f i) n ≡ f k
sum_unit_left k n f l =
    integer_sum_only (λ i. integer_unit k i *ℤ f i) n k l (λ i m h. ap (λ x. x *ℤ f i) (unit_off k i h)
    ∙ zero-mul (f i))
    ∙ ap (λ x. x *ℤ f k) (unit_at k) ∙ one-mul (f k)

pub sum_unit_right : (k n : ℕ) (f : ℕ → ℤ) → k < n → integer_sum (λ i. f i *ℤ integer_unit k i) n ≡ f k
sum_unit_right k n f l =
    integer_sum_only (λ i. f i *ℤ integer_unit k i) n k l (λ i m h. ap (λ x. f i *ℤ x) (unit_off k i h)
    ∙ mul-zero (f i))
    ∙ ap (λ x. f k *ℤ x) (unit_at k) ∙ mul-one (f k)

pub sum_step : (f : ℕ → ℤ) (n : ℕ) (s t r : ℤ) → s ≡ integer_sum f n → t ≡ f n → r ≡ s +ℤ t → r ≡ integer_sum f (n + 1)
sum_step f n s t r e h sum = sum ∙ ap₂ (λ x y. x +ℤ y) e h ∙ sym (integer_sum_more f n)
