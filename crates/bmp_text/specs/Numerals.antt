-- Canonical decimal numbers: `0`, or an optional `-`, a digit from 1 to 9 and further digits.
--   numeral_value w      the number that a word spells, None for a word with no such form
--   within low high z    low <= z <= high
--   fits_i64 z           z is a signed number of 64 bits
--   InRange low high z   z fits 64 bits and lies from low to high
--   HasOneForm           each number of 64 bits is spelled by exactly one word
--   Spells r v           r is the answer of a reader to a word of the value v
use Rattle.std.specs.Prelude.{◌≡◌, ◌↔◌, ℕ, ℤ, pos, negsuc, Bool, true, false, ◌&&◌, ◌==◌, ◌-◌, List, [], ◌∷◌, length, Option, Some, None, Result, Ok, Err, nat_le, int_le, if◌then◌else◌}
use Rattle.std.specs.List.{list_all}
use Rattle.std.specs.Char.{is_ascii_digit}
use Rattle.std.specs.Fmt.{signed_decimal}
use Rattle.std.specs.Str.Parse.{digits_value}
use Rattle.bmp_text.specs.declared.fault.NumberFault.{NumberFault}
use Rattle.bmp_text.specs.declared.fault.NumberFault.TheVariants.{NotANumber, TooBig}

-- a digit from 1 to 9, and further digits
abbrev pub is_positive_numeral : List ℕ → Bool
is_positive_numeral [] = false
is_positive_numeral (d ∷ ds) = nat_le 49 d && (nat_le d 57 && list_all is_ascii_digit ds)

-- the number of a sign and digits that begin with none of 0
abbrev pub signed_value : Bool → List ℕ → Option ℤ
signed_value minus ds = if is_positive_numeral ds
    then Some (if minus then negsuc (digits_value 10 ds - 1) else pos (digits_value 10 ds))
    else None

unfoldable pub numeral_value : List ℕ → Option ℤ
numeral_value [] = None
numeral_value (b ∷ bs) = if b == 48 then (if length bs == 0 then Some (pos 0) else None)
    else (if b == 45 then signed_value true bs else signed_value false (b ∷ bs))

abbrev pub within : ℤ → ℤ → ℤ → Bool
within low high z = int_le low z && int_le z high

abbrev pub fits_i64 : ℤ → Bool
fits_i64 z = within (negsuc 9223372036854775807) (pos 9223372036854775807) z

abbrev pub InRange : ℤ → ℤ → ℤ → Type 0
InRange low high z = (fits_i64 z ≡ true) × (within low high z ≡ true)

abbrev pub IsTooBig : Option ℤ → Type 0
IsTooBig None = ⊥
IsTooBig (Some z) = fits_i64 z ≡ false

-- the number that the word spells, where that fits; else why there is none
abbrev pub Spells : Result ℤ NumberFault → Option ℤ → Type 0
Spells (Ok n) value = value ≡ Some n
Spells (Err NotANumber) value = value ≡ None
Spells (Err TooBig) value = IsTooBig value

abbrev pub HasOneForm : Type 0
HasOneForm = (w : List ℕ) (z : ℤ) → fits_i64 z ≡ true → (numeral_value w ≡ Some z) ↔ (w ≡ signed_decimal z)
