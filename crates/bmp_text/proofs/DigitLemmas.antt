-- The value of digits, from the left.
use Rattle.std.proofs.Common.{◌≡◌, ℕ, zero, suc, ◌+◌, ◌*◌, ◌<◌, ◌≤◌, true, List, [], ◌∷◌, length, take, get_or, arith, rules}
use Rattle.std.specs.Int.{IsInRange}
use Rattle.std.specs.List.{list_all}
use Rattle.std.specs.Char.{is_ascii_digit}
use Rattle.bmp_text.specs.Numerals.{is_positive_numeral}
use Rattle.std.specs.Str.Parse.{digits_value}
use Rattle.std.proofs.lemmas.Str.{digit_value_digit}
use Rattle.std.proofs.lemmas.Str.Parse.{IsDigitsTest, digits_value-take-le}
use Rattle.std.proofs.lemmas.Int.Digits.{digits_value_more}

tells : IsDigitsTest (λ ds. list_all is_ascii_digit ds ≡ true)
tells = search rules

pub digit_in : (ds : List ℕ) (i : ℕ) → list_all is_ascii_digit ds ≡ true → i < length ds →
    IsInRange 48 57 (get_or ds i 0)
digit_in [] i h le = absurd (omega arith)
digit_in (d ∷ ds) zero h le = (tells.parts d ds h).0
digit_in (d ∷ ds) (suc i) h le = digit_in ds i (tells.parts d ds h).1 (omega arith)

-- one digit more
pub value_more : (ds : List ℕ) (i : ℕ) → list_all is_ascii_digit ds ≡ true → i < length ds →
    digits_value 10 (take (i + 1) ds) + 48 ≡ digits_value 10 (take i ds) * 10 + get_or ds i 0
value_more ds i h le =
    omega (arith, digits_value_more 10 ds i le, digit_value_digit (get_or ds i 0) (digit_in ds i h le))

-- a front's value is no larger
pub front_le : (ds : List ℕ) (i : ℕ) → digits_value 10 (take i ds) ≤ digits_value 10 ds
front_le ds i = digits_value-take-le 10 ds i (omega arith)

-- a number whose first digit isn't 0 isn't 0
pub nonzero_value : (ds : List ℕ) → is_positive_numeral ds ≡ true → 0 < digits_value 10 ds
nonzero_value [] h = cc
nonzero_value (d ∷ ds) h =
    let low : 49 ≤ d = search rules in
    let high : d ≤ 57 = search rules in
    omega (arith, front_le (d ∷ ds) 1, digit_value_digit d (omega arith, omega arith))
