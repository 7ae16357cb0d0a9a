-- Numbers in blocks: each place below the last block's end stands in one block, and sums go block by block.
use Rattle.std.proofs.Common.{◌≡◌, ℕ, zero, suc, ◌+◌, ◌-◌, ◌*◌, ◌%◌, ◌<◌, ◌≤◌, true, false, cond, leb, arith, refl, sym, ap, ap₂, subst, ◌∙◌, inl, inr}
use Rattle.std.proofs.lemmas.Bool.{cases_eq, cases_lt, cond-true, cond-false, le-leb, lt-leb}
use Rattle.bmp_math.specs.Sums.{sum_below}
use Rattle.bmp_math.specs.Congruences.{SameMod}
use Rattle.bmp_math.specs.Vectors.{IsLinear}
use Rattle.bmp_math.specs.Blocks.{block_start, joined}
use Rattle.bmp_math.proofs.SumLemmas.{sum_below-zero, sum_below-suc, sum_below_joined, sum_below_rises}

-- place k is place `place` of the block `block`, one of the first n
pub record InBlock (size : ℕ → ℕ) (n k : ℕ) : Type 0 where
  pub block : ℕ
  pub place : ℕ
  pub below : block < n
  pub inside : place < size block
  pub is : k ≡ block_start size block + place

module _ (size : ℕ → ℕ) where
  -- what is said of the blocks but the last
  more_blocks : (n k : ℕ) → InBlock size n k → InBlock size (suc n) k
  more_blocks n k in_block =
      record {
        block = in_block.block;
        place = in_block.place;
        below = omega (arith, in_block.below);
        inside = in_block.inside;
        is = in_block.is;
      }

  pub block_of : (n k : ℕ) → k < block_start size n → InBlock size n k
  block_of zero k below = absurd (omega (arith, below, sum_below-zero size))
  block_of (suc n) k below = elim (cases_lt k (block_start size n)) [
    | inl before ↦ more_blocks n k (block_of n k before)
    | inr from ↦ record {
      block = n;
      place = k - block_start size n;
      below = omega arith;
      inside = omega (arith, below, from, sum_below-suc size n);
      is = omega (arith, from);
    }
  ]

  -- a place of a block is below the start of each later one
  pub within_blocks : (n b i : ℕ) → b < n → i < size b → block_start size b + i < block_start size n
  within_blocks n b i below inside =
      let rises : block_start size (suc b) ≤ block_start size n = sum_below_rises size (suc b) n (omega arith) in
      omega (arith, rises, inside, sum_below-suc size b)

  -- each place is of one block
  pub block_once : (b c i j : ℕ) → i < size b → j < size c → block_start size b + i ≡ block_start size c + j →
      (b ≡ c) × (i ≡ j)
  block_once b c i j b_inside c_inside same = elim (cases_eq b c) [
    | inl one ↦ let start : block_start size b ≡ block_start size c = ap (block_start size) one in
        (one, omega (arith, start, same))
    | inr other ↦
        elim (cases_lt b c) [
          | inl before ↦ absurd (omega (arith, same, within_blocks c b i before b_inside))
          | inr from ↦ absurd (omega (arith, same, within_blocks b c j (omega arith) c_inside))
        ]
  ]

  module _ (values : ℕ → ℕ → ℕ) where
    joined_last : (n k : ℕ) → block_start size n ≤ k → joined size values (suc n) k ≡ values n (k - block_start size n)
    unfolding joined
    joined_last n k from =
        cond-true {A = ℕ} (leb (block_start size n) k) (values n (k - block_start size n)) (joined size values n k)
        (le-leb (block_start size n) k from)

    joined_before : (n k : ℕ) → k < block_start size n → joined size values (suc n) k ≡ joined size values n k
    unfolding joined
    joined_before n k before =
        cond-false {A = ℕ} (leb (block_start size n) k) (values n (k - block_start size n)) (joined size values n k)
        (lt-leb (block_start size n) k before)

    pub joined_at : (n b i : ℕ) → b < n → i < size b → joined size values n (block_start size b + i) ≡ values b i
    joined_at zero b i below inside = absurd (omega arith)
    joined_at (suc n) b i below inside = elim (cases_eq b n) [
      | inl last ↦
          let start : block_start size n ≡ block_start size b = ap (block_start size) (sym last) in
          let rest : (block_start size b + i) - block_start size n ≡ i = omega (arith, start) in
          joined_last n (block_start size b + i) (omega (arith, start)) ∙ ap₂ (λ c j. values c j) (sym last) rest
      | inr other ↦
          joined_before n (block_start size b + i) (within_blocks n b i (omega arith) inside)
          ∙ joined_at n b i (omega arith) inside
    ]

    -- what holds of 0 and of each block's numbers holds of the joined ones, past the last block too
    pub joined_each : (P : ℕ → Type 0) (n : ℕ) → P 0 → ((b i : ℕ) → b < n → P (values b i)) →
        (k : ℕ) → P (joined size values n k)
    unfolding joined
    joined_each P zero none each k = none
    joined_each P (suc n) none each k =
        elim (leb (block_start size n) k) as
        (λ t. P (cond t (values n (k - block_start size n)) (joined size values n k))) [
          | true ↦ each n (k - block_start size n) (omega arith)
          | false ↦ joined_each P n none (λ b i below. each b i (omega arith)) k
        ]

    -- the number at a place is its block's
    pub joined_is : (n k : ℕ) (in_block : InBlock size n k) →
        joined size values n k ≡ values in_block.block in_block.place
    joined_is n k in_block = ap (joined size values n) in_block.is
        ∙ joined_at n in_block.block in_block.place in_block.below in_block.inside

  -- a fact of each place of each block is one of each place
  pub each_place : (P : ℕ → Type 0) (n : ℕ) → ((b i : ℕ) → b < n → i < size b → P (block_start size b + i)) →
      (k : ℕ) → k < block_start size n → P k
  each_place P n each k below =
      let in_block : InBlock size n k = block_of n k below in
      subst P (sym in_block.is) (each in_block.block in_block.place in_block.below in_block.inside)

  -- a relation of the numbers, block by block
  pub joined_related : (R : ℕ → ℕ → Type 0) (f g : ℕ → ℕ → ℕ) (n : ℕ) →
      ((b i : ℕ) → b < n → i < size b → R (f b i) (g b i)) → (k : ℕ) → k < block_start size n →
      R (joined size f n k) (joined size g n k)
  joined_related R f g n each =
      each_place (λ k. R (joined size f n k) (joined size g n k)) n
      (λ b i below inside. subst (λ x. R x (joined size g n (block_start size b + i)))
      (sym (joined_at f n b i below inside))
      (subst (R (f b i)) (sym (joined_at g n b i below inside)) (each b i below inside)))

  pub joined_same : (f g : ℕ → ℕ → ℕ) (n : ℕ) → ((b i : ℕ) → b < n → i < size b → f b i ≡ g b i) →
      (k : ℕ) → k < block_start size n → joined size f n k ≡ joined size g n k
  joined_same = joined_related (λ x y. x ≡ y)

  -- numbers that agree as they are joined agree in each block
  pub blocks_same : (f g : ℕ → ℕ → ℕ) (n : ℕ) →
      ((k : ℕ) → k < block_start size n → joined size f n k ≡ joined size g n k) → (b i : ℕ) → b < n → i < size b →
      f b i ≡ g b i
  blocks_same f g n same b i below inside =
      sym (joined_at f n b i below inside) ∙ same (block_start size b + i) (within_blocks n b i below inside)
      ∙ joined_at g n b i below inside

  -- a sum over all places goes block by block
  pub sum_joined : (f : ℕ → ℕ) (n : ℕ) →
      sum_below f (block_start size n) ≡ sum_below (λ b. sum_below (λ i. f (block_start size b + i)) (size b)) n
  unfolding sum_below
  sum_joined f zero = refl
  sum_joined f (suc n) = sum_below_joined f (block_start size n) (size n)
      ∙ ap (λ x. x + sum_below (λ i. f (block_start size n + i)) (size n)) (sum_joined f n)

  -- maps that are linear, joined block by block
  pub joined_is_linear : (p m n : ℕ) (map : ℕ → (ℕ → ℕ) → ℕ → ℕ) → ((b : ℕ) → b < n → IsLinear p m (size b) (map b)) →
      IsLinear p m (block_start size n) (λ v. joined size (λ b. map b v) n)
  joined_is_linear p m n map linear = record {
    respects = λ u v same. joined_related (λ x y. SameMod p x y) (λ b. map b u) (λ b. map b v) n
        (λ b i below inside. (linear b below).respects u v same i inside);
    sums = λ u v. each_place
        (λ k. SameMod p (joined size (λ b. map b (λ j. u j + v j)) n k)
        (joined size (λ b. map b u) n k + joined size (λ b. map b v) n k)) n
        (λ b i below inside.
        ap (λ x. x % p) (joined_at (λ b. map b (λ j. u j + v j)) n b i below inside)
        ∙ (linear b below).sums u v i inside
        ∙ ap (λ x. x % p)
        (sym (ap₂ (λ x y. x + y) (joined_at (λ b. map b u) n b i below inside)
        (joined_at (λ b. map b v) n b i below inside))));
    multiples = λ c v. each_place
        (λ k. SameMod p (joined size (λ b. map b (λ j. c * v j)) n k) (c * joined size (λ b. map b v) n k)) n
        (λ b i below inside.
        ap (λ x. x % p) (joined_at (λ b. map b (λ j. c * v j)) n b i below inside)
        ∙ (linear b below).multiples c v i inside
        ∙ ap (λ x. (c * x) % p) (sym (joined_at (λ b. map b v) n b i below inside)));
  }
