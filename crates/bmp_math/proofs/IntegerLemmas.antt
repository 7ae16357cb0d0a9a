-- Laws of products of integers, which `omega` does not know by itself.
use Rattle.std.proofs.Common.{◌≡◌, ℕ, suc, ◌+◌, ◌*◌, ◌≤◌, negsuc, arith, sym, ap, ◌∙◌, ℤ, pos, negsuc, ◌+ℤ◌, ◌-ℤ◌, ◌*ℤ◌, neg_ℤ}
use Rattle.std.proofs.lemmas.Int.{ints}
use Rattle.std.proofs.Math.IntN.{*ℤ_comm}
use Rattle.std.proofs.Math.Nat.{mul-le-mul}
use Rattle.bmp_math.specs.Integers.{IsWithin}
use borrow.Author.Differences.{up, down}

sum_parts : (a b : ℤ) → up (a +ℤ b) + (down a + down b) ≡ up a + up b + down (a +ℤ b)
sum_parts a b = omega (arith, ints)

product_parts : (a b : ℤ) → up (a *ℤ b) + (up a * down b + down a * up b) ≡ up a * up b + down a * down b + down
    (a *ℤ b)
product_parts a b = omega (arith, ints)

pub mul-add : (a b c : ℤ) → a *ℤ (b +ℤ c) ≡ a *ℤ b +ℤ a *ℤ c
mul-add a b c = omega (arith, ints, ap (λ x. up a * x) (sum_parts b c), ap (λ x. down a * x) (sum_parts b c))

pub add-mul : (a b c : ℤ) → (a +ℤ b) *ℤ c ≡ a *ℤ c +ℤ b *ℤ c
add-mul a b c = omega (arith, ints, ap (λ x. x * up c) (sum_parts a b), ap (λ x. x * down c) (sum_parts a b))

pub mul-neg : (a b : ℤ) → a *ℤ neg_ℤ b ≡ neg_ℤ (a *ℤ b)
mul-neg a b =
    let s : up (neg_ℤ b) + up b ≡ down (neg_ℤ b) + down b = omega (arith, ints) in
    omega (arith, ints, ap (λ x. up a * x) s, ap (λ x. down a * x) s)

pub neg-mul : (a b : ℤ) → neg_ℤ a *ℤ b ≡ neg_ℤ (a *ℤ b)
neg-mul a b = *ℤ_comm (neg_ℤ a) b ∙ mul-neg b a ∙ ap neg_ℤ (*ℤ_comm b a)

pub mul-sub : (a b c : ℤ) → a *ℤ (b -ℤ c) ≡ a *ℤ b -ℤ a *ℤ c
mul-sub a b c = mul-add a b (neg_ℤ c) ∙ ap (λ x. a *ℤ b +ℤ x) (mul-neg a c)

pub sub-mul : (a b c : ℤ) → (a -ℤ b) *ℤ c ≡ a *ℤ c -ℤ b *ℤ c
sub-mul a b c = add-mul a (neg_ℤ b) c ∙ ap (λ x. a *ℤ c +ℤ x) (neg-mul b c)

pub mul_assoc : (a b c : ℤ) → (a *ℤ b) *ℤ c ≡ a *ℤ (b *ℤ c)
mul_assoc a b c =
    omega (
      arith,
      ints,
      ap (λ x. x * up c) (product_parts a b),
      ap (λ x. x * down c) (product_parts a b),
      ap (λ x. up a * x) (product_parts b c),
      ap (λ x. down a * x) (product_parts b c),
    )

pub mul_swap : (a b c : ℤ) → a *ℤ (b *ℤ c) ≡ b *ℤ (a *ℤ c)
mul_swap a b c = sym (mul_assoc a b c) ∙ ap (λ x. x *ℤ c) (*ℤ_comm a b) ∙ mul_assoc b a c

pub one-mul : (a : ℤ) → pos 1 *ℤ a ≡ a
one-mul a = omega (arith, ints)

pub mul-one : (a : ℤ) → a *ℤ pos 1 ≡ a
mul-one a = omega (arith, ints)

pub zero-mul : (a : ℤ) → pos 0 *ℤ a ≡ pos 0
zero-mul a = omega (arith, ints)

pub mul-zero : (a : ℤ) → a *ℤ pos 0 ≡ pos 0
mul-zero a = omega (arith, ints)

-- what opens products of sums, for `simp`
pub ruleset opened = (mul-add, add-mul, mul-sub, sub-mul)

-- a product's size is at most the product of the sizes
pub product_within : (m n : ℕ) (a b : ℤ) → IsWithin m a → IsWithin n b → IsWithin (m * n) (a *ℤ b)
product_within m n (pos a) (pos b) h k =
    let x : a ≤ m = omega (arith, ints, h.1) in let y : b ≤ n = omega (arith, ints, k.1) in
    (omega (arith, ints, mul-le-mul x y), omega (arith, ints, mul-le-mul x y))
product_within m n (pos a) (negsuc b) h k =
    let x : a ≤ m = omega (arith, ints, h.1) in let y : suc b ≤ n = omega (arith, ints, k.0) in
    (omega (arith, ints, mul-le-mul x y), omega (arith, ints, mul-le-mul x y))
product_within m n (negsuc a) (pos b) h k =
    let x : suc a ≤ m = omega (arith, ints, h.0) in let y : b ≤ n = omega (arith, ints, k.1) in
    (omega (arith, ints, mul-le-mul x y), omega (arith, ints, mul-le-mul x y))
product_within m n (negsuc a) (negsuc b) h k =
    let x : suc a ≤ m = omega (arith, ints, h.0) in let y : suc b ≤ n = omega (arith, ints, k.0) in
    (omega (arith, ints, mul-le-mul x y), omega (arith, ints, mul-le-mul x y))
