-- Laws of sums over the numbers below a bound.
use Rattle.std.proofs.Common.{◌≡◌, ◌≢◌, ℕ, zero, suc, ◌+◌, ◌*◌, ◌%◌, ◌<◌, ◌≤◌, arith, refl, sym, ap, ap₂, ◌∙◌, inl, inr}
use Rattle.std.proofs.lemmas.Bool.{cases_eq}
use Rattle.bmp_math.specs.Sums.{sum_below}
use Rattle.bmp_math.specs.Congruences.{SameMod}
use Rattle.bmp_math.proofs.CongruenceLemmas.{same_add}

pub sum_below-zero : (f : ℕ → ℕ) → sum_below f 0 ≡ 0
unfolding sum_below
sum_below-zero f = refl

pub sum_below-suc : (f : ℕ → ℕ) (n : ℕ) → sum_below f (suc n) ≡ sum_below f n + f n
unfolding sum_below
sum_below-suc f n = refl

-- one term more, as a loop adds it
pub sum_below_more : (f : ℕ → ℕ) (n : ℕ) → sum_below f (n + 1) ≡ sum_below f n + f n
sum_below_more f n = let e : n + 1 ≡ suc n = omega arith in rw e (sum_below-suc f n)

pub sum_below_same : (f g : ℕ → ℕ) (n : ℕ) → ((i : ℕ) → i < n → f i ≡ g i) → sum_below f n ≡ sum_below g n
unfolding sum_below
sum_below_same f g zero h = refl
sum_below_same f g (suc n) h = ap₂ (λ x y. x + y) (sum_below_same f g n (λ i l. h i (omega arith))) (h n (omega arith))

pub sum_below-add : (f g : ℕ → ℕ) (n : ℕ) → sum_below (λ i. f i + g i) n ≡ sum_below f n + sum_below g n
unfolding sum_below
sum_below-add f g zero = refl
sum_below-add f g (suc n) = omega (arith, sum_below-add f g n)

pub sum_below-mul : (c : ℕ) (f : ℕ → ℕ) (n : ℕ) → sum_below (λ i. c * f i) n ≡ c * sum_below f n
unfolding sum_below
sum_below-mul c f zero = omega arith
sum_below-mul c f (suc n) = omega (arith, sum_below-mul c f n)

pub sum_below-zeros : (n : ℕ) → sum_below (λ i. 0) n ≡ 0
unfolding sum_below
sum_below-zeros zero = refl
sum_below-zeros (suc n) = omega (arith, sum_below-zeros n)

-- the order of two sums is free
pub sum_below-swap : (f : ℕ → ℕ → ℕ) (m n : ℕ) → sum_below (λ i. sum_below (λ j. f i j) n) m
    ≡ sum_below (λ j. sum_below (λ i. f i j) m) n
unfolding sum_below
sum_below-swap f zero n = sym (sum_below-zeros n)
sum_below-swap f (suc m) n =
    omega (arith, sum_below-swap f m n, sum_below-add (λ j. sum_below (λ i. f i j) m) (λ j. f m j) n)

-- a sum over a joined bound
pub sum_below_joined : (f : ℕ → ℕ) (m n : ℕ) → sum_below f (m + n) ≡ sum_below f m + sum_below (λ i. f (m + i)) n
unfolding sum_below
sum_below_joined f m zero = let e : m + zero ≡ m = omega arith in ap (sum_below f) e ∙ omega arith
sum_below_joined f m (suc n) =
    let e : m + suc n ≡ suc (m + n) = omega arith in
    ap (sum_below f) e ∙ omega (arith, sum_below_joined f m n)

-- more terms, no smaller sum
pub sum_below_rises : (f : ℕ → ℕ) (m n : ℕ) → m ≤ n → sum_below f m ≤ sum_below f n
sum_below_rises f m zero l = let e : m ≡ 0 = omega arith in rw e (omega arith)
sum_below_rises f m (suc n) l =
    elim (cases_eq m (suc n)) [
      | inl same ↦ rw same (omega arith)
      | inr other ↦ omega (arith, sum_below_rises f m n (omega arith), sum_below-suc f n)
    ]

module _ (p : ℕ) where
  pub sum_same_mod : (f g : ℕ → ℕ) (n : ℕ) → ((i : ℕ) → i < n → SameMod p (f i) (g i)) →
      SameMod p (sum_below f n) (sum_below g n)
  unfolding sum_below
  sum_same_mod f g zero h = refl
  sum_same_mod f g (suc n) h =
      same_add p (sum_below f n) (sum_below g n) (f n) (g n) (sum_same_mod f g n (λ i l. h i (omega arith)))
      (h n (omega arith))

  pub sum_zero_mod : (f : ℕ → ℕ) (n : ℕ) → ((i : ℕ) → i < n → SameMod p (f i) 0) → SameMod p (sum_below f n) 0
  sum_zero_mod f n h = sum_same_mod f (λ i. 0) n h ∙ ap (λ x. x % p) (sum_below-zeros n)

  -- what grows from 0 by the terms of a sum is the sum
  pub sum_of_steps : (value f : ℕ → ℕ) (n : ℕ) → SameMod p (value 0) 0 →
      ((i : ℕ) → i < n → SameMod p (value (suc i)) (value i + f i)) → SameMod p (value n) (sum_below f n)
  unfolding sum_below
  sum_of_steps value f zero start step = start
  sum_of_steps value f (suc n) start step =
      step n (omega arith)
      ∙ same_add p (value n) (sum_below f n) (f n) (f n)
      (sum_of_steps value f n start (λ i l. step i (omega arith))) refl

  -- a sum whose terms are zero but for one
  pub sum_only_mod : (f : ℕ → ℕ) (n k : ℕ) → k < n → ((i : ℕ) → i < n → i ≢ k → SameMod p (f i) 0) →
      SameMod p (sum_below f n) (f k)
  unfolding sum_below
  sum_only_mod f zero k l h = absurd (omega arith)
  sum_only_mod f (suc n) k l h =
      elim (cases_eq k n) [
        | inl last ↦
            let before : SameMod p (sum_below f n) 0 = sum_zero_mod f n (λ i m. h i (omega arith) (omega arith)) in
            let joined : SameMod p (sum_below f n + f n) (0 + f k) =
            same_add p (sum_below f n) 0 (f n) (f k) before (ap (λ x. f x % p) (sym last)) in
            let zero_left : 0 + f k ≡ f k = omega arith in
            joined ∙ ap (λ x. x % p) zero_left
        | inr other ↦
            let before : SameMod p (sum_below f n) (f k) =
            sum_only_mod f n k (omega arith) (λ i m. h i (omega arith)) in
            let last : SameMod p (f n) 0 = h n (omega arith) (λ e. other (sym e)) in
            let joined : SameMod p (sum_below f n + f n) (f k + 0) =
            same_add p (sum_below f n) (f k) (f n) 0 before last in
            let zero_right : f k + 0 ≡ f k = omega arith in
            joined ∙ ap (λ x. x % p) zero_right
      ]

-- a sum whose terms are zero but for one, where there is one
pub sum_below_only : (f : ℕ → ℕ) (n k : ℕ) → k < n → ((i : ℕ) → i < n → i ≢ k → f i ≡ 0) → sum_below f n ≡ f k
unfolding sum_below
sum_below_only f zero k l h = absurd (omega arith)
sum_below_only f (suc n) k l h =
    elim (cases_eq k n) [
      | inl last ↦
          let before : sum_below f n ≡ 0 = sum_below_same f (λ i. 0) n (λ i m. h i (omega arith) (omega arith))
          ∙ sum_below-zeros n in
          let same : f n ≡ f k = ap f (sym last) in
          omega arith
      | inr other ↦
          let before : sum_below f n ≡ f k = sum_below_only f n k (omega arith) (λ i m. h i (omega arith)) in
          let last : f n ≡ 0 = h n (omega arith) (λ e. other (sym e)) in
          omega arith
    ]
