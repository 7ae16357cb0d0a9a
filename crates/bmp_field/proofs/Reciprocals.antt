-- A quotient by a reciprocal is the quotient.
use Rattle.std.proofs.Common.{◌≡◌, ℕ, ◌+◌, ◌-◌, ◌*◌, ◌/◌, ◌%◌, ◌<◌, ◌≤◌, ◌⊎◌, refl, ap, ◌∙◌, inl, inr, arith, mod-eq_of_lt, mul-le-mul_left, mul-le-mul, lt_of_mul-lt-mul_right}
use Rattle.std.proofs.lemmas.Bool.{cases_eq}
use Rattle.bmp_math.proofs.CongruenceLemmas.{same_past}
use Rattle.bmp_field.specs.Tables.{IsReciprocal}

module _ (p m q r : ℕ) (small : p ≤ 61) (m_is : IsReciprocal p m) (rest : r < p) (below : p * q + r ≤ 3600) where
  not_above : q * 262144 ≤ (p * q + r) * m
  not_above =
      let scaled : q * 262144 ≤ q * (p * m) = mul-le-mul_left q (omega (arith, m_is.above)) in
      omega (arith, scaled)

  within : (p * q + r) * m < (q + 1) * 262144
  within =
      let scaled : (p * q + r) * (p * m) ≤ (p * q + r) * (262144 + p) = mul-le-mul_left (p * q + r) m_is.within in
      let slack : (p * q + r) * p ≤ 3600 * 61 = mul-le-mul below small in
      let whole : ((p * q + r) * m) * p < ((q + 1) * 262144) * p = omega (arith, scaled, slack, rest) in
      lt_of_mul-lt-mul_right p whole

  quotient_is : ((p * q + r) * m) / 262144 ≡ q
  quotient_is = omega (arith, not_above, within)

-- x m / 2^18 is x / p, where x is at most 60 * 60
pub quotient_by_reciprocal : (p m x : ℕ) → 0 < p → p ≤ 61 → IsReciprocal p m → x ≤ 3600 → (x * m) / 262144 ≡ x / p
quotient_by_reciprocal p m x some small m_is below =
    let parts : p * (x / p) + x % p ≡ x = omega arith in
    let rest : x % p < p = omega arith in
    let q : ((p * (x / p) + x % p) * m) / 262144 ≡ x / p =
    quotient_is p m (x / p) (x % p) small m_is rest (omega arith) in
    rw parts at q

-- what the product of two numbers below p is, less p times the quotient
pub remainder_by_reciprocal : (p m a b : ℕ) → p ≤ 61 → IsReciprocal p m → a < p → b < p →
    (a * b) - ((a * b) * m) / 262144 * p ≡ (a * b) % p
remainder_by_reciprocal p m a b small m_is a_below b_below =
    let a_small : a ≤ 60 = omega arith in
    let b_small : b ≤ 60 = omega arith in
    let product : a * b ≤ 60 * 60 = mul-le-mul a_small b_small in
    let quotient : ((a * b) * m) / 262144 ≡ (a * b) / p =
    quotient_by_reciprocal p m (a * b) (omega arith) small m_is (omega arith) in
    let some : 0 < p = omega arith in
    rw quotient (omega arith)

-- A reciprocal of 16 bits, a quarter of one of 18, gives a quotient that is right or one too low.
module _ (p m s q r : ℕ) (small : p ≤ 61) (some : 0 < p) (m_is : IsReciprocal p m) (s_is : s ≡ m / 4) (rest : r < p)
    (below : p * q + r ≤ 3660) where
  short_above : (p * q + r) * s < (q + 1) * 65536
  short_above =
      let quarter : 4 * s ≤ m = omega arith in
      let less : (p * q + r) * p * (4 * s) ≤ (p * q + r) * p * m = mul-le-mul_left ((p * q + r) * p) quarter in
      let scaled : (p * q + r) * (p * m) ≤ (p * q + r) * (262144 + p) = mul-le-mul_left (p * q + r) m_is.within in
      let slack : (p * q + r) * p ≤ 3660 * 61 = mul-le-mul below small in
      let whole : ((p * q + r) * s) * (4 * p) < ((q + 1) * 65536) * (4 * p) =
      omega (arith, less, scaled, slack, rest) in
      lt_of_mul-lt-mul_right (4 * p) whole

  short_below : q * 65536 < (p * q + r) * s + 65536 + 1
  short_below =
      let quarter : m ≤ 4 * s + 3 = omega arith in
      let more : (p * q + r) * p * m ≤ (p * q + r) * p * (4 * s + 3) = mul-le-mul_left ((p * q + r) * p) quarter in
      let scaled : (p * q + r) * 262144 ≤ (p * q + r) * (p * m) =
      mul-le-mul_left (p * q + r) (omega (arith, m_is.above)) in
      let slack : p * (p * q + r) ≤ p * 3660 = mul-le-mul_left p below in
      let whole : (q * 65536) * (4 * p) < ((p * q + r) * s + 65536 + 1) * (4 * p) =
      omega (arith, more, scaled, slack, some) in
      lt_of_mul-lt-mul_right (4 * p) whole

-- x less p times that quotient is the remainder of x, or p more
near_remainder : (p m x : ℕ) → 2 ≤ p → p ≤ 61 → IsReciprocal p m → x ≤ 3660 → (x ≡ (x * (m / 4)) / 65536 * p + x % p) ⊎
    (x ≡ (x * (m / 4)) / 65536 * p + (x % p + p * 1))
near_remainder p m x two small m_is below =
    let parts : p * (x / p) + x % p ≡ x = omega arith in
    let rest : x % p < p = omega arith in
    let least : p * (x / p) + x % p ≤ 3660 = omega arith in
    let above : x * (m / 4) < (x / p + 1) * 65536 =
    rw parts at (short_above p m (m / 4) (x / p) (x % p) small (omega arith) m_is refl rest least) in
    let not_below : (x / p) * 65536 < x * (m / 4) + 65536 + 1 =
    rw parts at (short_below p m (m / 4) (x / p) (x % p) small (omega arith) m_is refl rest least) in
    elim (cases_eq ((x * (m / 4)) / 65536) (x / p)) [
      | inl same ↦ inl (rw same (omega arith))
      | inr other ↦
          let less : (x * (m / 4)) / 65536 + 1 ≡ x / p = omega arith in
          let product : ((x * (m / 4)) / 65536 + 1) * p ≡ (x / p) * p = ap (λ k. k * p) less in
          inr (omega arith)
    ]

module _ (p m x : ℕ) (two : 2 ≤ p) (small : p ≤ 61) (m_is : IsReciprocal p m) (below : x ≤ 3660) where
  pub short_fits : (x * (m / 4)) / 65536 * p ≤ x
  short_fits = elim (near_remainder p m x two small m_is below)
      [ inl even ↦ omega (arith, even) | inr more ↦ omega (arith, more) ]

  pub short_left : x - (x * (m / 4)) / 65536 * p < 2 * p
  short_left =
      let rest : x % p < p = omega arith in
      elim (near_remainder p m x two small m_is below)
      [ inl even ↦ omega (arith, even) | inr more ↦ omega (arith, more) ]

  pub short_same : (x - (x * (m / 4)) / 65536 * p) % p ≡ x % p
  short_same =
      let rest : x % p < p = omega arith in
      elim (near_remainder p m x two small m_is below) [
        | inl even ↦ let left : x - (x * (m / 4)) / 65536 * p ≡ x % p = omega (arith, even) in
            ap (λ z. z % p) left ∙ mod-eq_of_lt rest
        | inr more ↦ let left : x - (x * (m / 4)) / 65536 * p ≡ x % p + p * 1 = omega (arith, more) in
            ap (λ z. z % p) left ∙ same_past p (x % p) 1 ∙ mod-eq_of_lt rest
      ]
