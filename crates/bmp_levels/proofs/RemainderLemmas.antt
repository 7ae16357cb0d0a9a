-- A remainder by a reciprocal of 16 bits, which gives the quotient or one less.
use Rattle.std.proofs.Common.{◌≡◌, ℕ, ◌+◌, ◌-◌, ◌*◌, ◌/◌, ◌%◌, ◌<◌, ◌≤◌, sym, ap, ◌∙◌, arith}
use Rattle.std.proofs.Math.Nat.{div-mul-le_self, mul-le-mul_left, mul-le-mul_right, mod-lt}
use Rattle.std.proofs.lemmas.Nat.{div-add-mod', mod-mul-add}

module _ (p n : ℕ) (some : 1 ≤ p) (below : n < 65536) where
  abbrev quotient : ℕ
  quotient = n * (65536 / p) / 65536

  pub quotient_fits : n * (65536 / p) / 65536 * p ≤ n
  quotient_fits =
      let a = 65536 / p in
      let whole : n * (65536 / p) / 65536 * 65536 ≤ n * (65536 / p) = div-mul-le_self (n * a) 65536 in
      omega (
        arith,
        mul-le-mul_right p whole,
        mul-le-mul_left n (div-mul-le_self 65536 p),
      )

  -- one less at most: with r and b as the remainders of the two divisions
  rest_small : n - n * (65536 / p) / 65536 * p < 2 * p
  rest_small =
      let a = 65536 / p in
      let b = 65536 % p in
      let r = n * (65536 / p) % 65536 in
      let b_small : 65536 % p < p = mod-lt 65536 (omega (arith, some)) in
      let r_small : n * (65536 / p) % 65536 < 65536 = mod-lt (n * a) (omega arith) in
      let one : 65536 / p * p + 65536 % p ≡ 65536 = div-add-mod' 65536 p in
      let two : quotient * 65536 + n * (65536 / p) % 65536 ≡ n * (65536 / p) = div-add-mod' (n * a) 65536 in
      let three : n * (65536 / p * p + 65536 % p) ≡ n * 65536 = ap (λ z. n * z) one in
      let four : (quotient * 65536 + n * (65536 / p) % 65536) * p ≡ n * (65536 / p) * p = ap (λ z. z * p) two in
      let five : n * (65536 % p) ≤ 65535 * (65536 % p) = mul-le-mul_right b (omega (arith, below)) in
      let six : n * (65536 / p) % 65536 * p ≤ 65535 * p = mul-le-mul_right p (omega (arith, r_small)) in
      omega (arith, three, four, five, six, b_small)

  module _ (rest : ℕ) (is : rest ≡ n - n * (65536 / p) / 65536 * p) where
    pub remainder_low : rest < p → rest ≡ n % p
    remainder_low low =
        let split : n ≡ quotient * p + rest = omega (arith, is, quotient_fits) in
        sym (ap (λ z. z % p) split ∙ mod-mul-add quotient p rest low)

    pub remainder_high : p ≤ rest → rest - p ≡ n % p
    remainder_high high =
        let split : n ≡ (quotient + 1) * p + (rest - p) = omega (arith, is, quotient_fits, high) in
        sym (ap (λ z. z % p) split ∙ mod-mul-add (quotient + 1) p (rest - p) (omega (arith, is, rest_small, high)))
