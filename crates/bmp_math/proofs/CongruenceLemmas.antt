-- Numbers that are the same modulo p.
use Rattle.std.proofs.Common.{◌≡◌, ℕ, zero, suc, ◌+◌, ◌*◌, ◌%◌, ◌<◌, arith, refl, sym, ap, ap₂, ◌∙◌}
use Rattle.std.proofs.Math.Nat.{add-mod, mod-zero, mod-mod, mod-eq_of_lt, add-mul-mod_self_left}
use Rattle.std.proofs.lemmas.Nat.{mul-mod}
use Rattle.bmp_math.specs.Congruences.{SameMod}

pub same_add : (p a b c d : ℕ) → SameMod p a b → SameMod p c d → SameMod p (a + c) (b + d)
same_add p a b c d e h = add-mod a c p ∙ ap₂ (λ x y. (x + y) % p) e h ∙ sym (add-mod b d p)

pub same_mul : (p a b c d : ℕ) → SameMod p a b → SameMod p c d → SameMod p (a * c) (b * d)
same_mul p a b c d e h = mul-mod a c p ∙ ap₂ (λ x y. (x * y) % p) e h ∙ sym (mul-mod b d p)

-- a multiple of p adds nothing
pub same_past : (p a k : ℕ) → SameMod p (a + p * k) a
same_past p a k = add-mul-mod_self_left a p k

-- what is the same after the same number was added was the same before
pub same_cancel : (p a b c : ℕ) → SameMod p (a + c) (b + c) → SameMod p a b
same_cancel zero a b c h =
    let whole : a + c ≡ b + c = sym (mod-zero (a + c)) ∙ h ∙ mod-zero (b + c) in
    let parts : a ≡ b = omega arith in
    ap (λ x. x % 0) parts
same_cancel (suc q) a b c h =
    let padded : SameMod (suc q) ((a + c) + q * c) ((b + c) + q * c) =
    same_add (suc q) (a + c) (b + c) (q * c) (q * c) h refl in
    let left : (a + c) + q * c ≡ a + suc q * c = omega arith in
    let right : (b + c) + q * c ≡ b + suc q * c = omega arith in
    sym (same_past (suc q) a c) ∙ sym (ap (λ x. x % suc q) left) ∙ padded ∙ ap (λ x. x % suc q) right
    ∙ same_past (suc q) b c

-- a sum of remainders, as a field adds them, is the remainder of the sum
pub reduced_add : (p a b x y r s : ℕ) → a ≡ x % p → b ≡ y % p → r ≡ (a + b) % p → s ≡ x + y → r ≡ s % p
reduced_add p a b x y r s ea eb er es = er ∙ ap₂ (λ m n. (m + n) % p) ea eb ∙ sym (add-mod x y p)
    ∙ ap (λ n. n % p) (sym es)

-- minus one, as a factor: adding q * x is taking x away, where p is q + 1
module _ (q : ℕ) where
  -- a number and its negative cancel
  pub same_minus : (x y : ℕ) → SameMod (suc q) (x + q * y) 0 → SameMod (suc q) x y
  same_minus x y h =
      let more : SameMod (suc q) ((x + q * y) + y) (0 + y) = same_add (suc q) (x + q * y) 0 y y h refl in
      let left : (x + q * y) + y ≡ x + suc q * y = omega arith in
      let right : 0 + y ≡ y = omega arith in
      sym (same_past (suc q) x y) ∙ sym (ap (λ z. z % suc q) left) ∙ more ∙ ap (λ z. z % suc q) right

  pub minus_same : (x y : ℕ) → SameMod (suc q) x y → SameMod (suc q) (x + q * y) 0
  minus_same x y h =
      let moved : SameMod (suc q) (x + q * y) (y + q * y) = same_add (suc q) x y (q * y) (q * y) h refl in
      let whole : y + q * y ≡ 0 + suc q * y = omega arith in
      moved ∙ ap (λ z. z % suc q) whole ∙ same_past (suc q) 0 y

-- what is congruent to a factor times 0, and to a factor times 1
pub mul_zero : (p c x : ℕ) → SameMod p x 0 → SameMod p (c * x) 0
mul_zero p c x h = let e : c * 0 ≡ 0 = omega arith in same_mul p c c x 0 refl h ∙ ap (λ z. z % p) e

pub zero_mul : (p x c : ℕ) → SameMod p x 0 → SameMod p (x * c) 0
zero_mul p x c h = let e : 0 * c ≡ 0 = omega arith in same_mul p x 0 c c h refl ∙ ap (λ z. z % p) e

pub mul_one : (p c x : ℕ) → SameMod p x 1 → SameMod p (c * x) c
mul_one p c x h = let e : c * 1 ≡ c = omega arith in same_mul p c c x 1 refl h ∙ ap (λ z. z % p) e

pub one_mul : (p x c : ℕ) → SameMod p x 1 → SameMod p (x * c) c
one_mul p x c h = let e : 1 * c ≡ c = omega arith in same_mul p x 1 c c h refl ∙ ap (λ z. z % p) e

-- numbers below p that are the same modulo p are equal
pub same_below : (p a b : ℕ) → a < p → b < p → SameMod p a b → a ≡ b
same_below p a b a_below b_below h = sym (mod-eq_of_lt a_below) ∙ h ∙ mod-eq_of_lt b_below

-- and so are remainders
pub same_remainders : (p a b x y : ℕ) → a ≡ x % p → b ≡ y % p → SameMod p a b → a ≡ b
same_remainders p a b x y e f h = e ∙ sym (mod-mod x p) ∙ ap (λ z. z % p) (sym e) ∙ h ∙ ap (λ z. z % p) f ∙ mod-mod y p
    ∙ sym f
