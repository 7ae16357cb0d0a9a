-- A function that makes normal forms. How it makes them is of no account: the law `normal_forms_are_normal`
-- says that what it makes is a normal form, and a polynomial has only one.
--   HasInverses p             each number below p but 0 has an inverse modulo p
--   inverse_below p x n       a number below n whose product with x is 1 modulo p, and 0 where there is none
--   pass p r l c d a n        a after the first n monomials of degree d were replaced where they hold the l-th variable
--   normal_by p r l c d a     the normal form of a, of degree d, by the linear form c whose leading variable is the
--                             l-th
use Rattle.std.specs.Prelude.{◌≡◌, ◌≢◌, ◌<◌, ℕ, zero, suc, ◌+◌, ◌-◌, ◌*◌, ◌%◌, cond, slice_index}
use Rattle.std.proofs.Common.{eqb}
use Rattle.bmp_poly.specs.Exponents.{count, exponents}
use Rattle.bmp_poly.specs.Forms.{Form, times_label, unit_form, lowered}

abbrev pub HasInverses : ℕ → Type 0
HasInverses p = (n : ℕ) → n < p → n ≢ 0 → (m : ℕ) × (m < p) × ((n * m) % p ≡ 1)

unfoldable pub inverse_below : ℕ → ℕ → ℕ → ℕ
inverse_below p x zero = 0
inverse_below p x (suc n) = cond (eqb ((x * n) % p) 1) n (inverse_below p x n)

unfoldable pub pass : ℕ → ℕ → ℕ → (ℕ → ℕ) → ℕ → Form → ℕ → Form
pass p r l c d a zero = a
pass p r l c d a (suc n) =
    let e = exponents 6 r d n in
    let b = pass p r l c d a n in
    cond (eqb (slice_index e l) 0) b
    (λ m. b m + ((p - 1) * (b e * inverse_below p (c l) p)) * times_label r c (unit_form r (lowered l e)) m)

abbrev pub normal_by : ℕ → ℕ → ℕ → (ℕ → ℕ) → ℕ → Form → Form
normal_by p r l c d a = pass p r l c d a (count r d)
