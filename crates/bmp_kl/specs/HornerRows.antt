-- One product with v - v^-1 on a row of 145 coefficients, from the exponent -72 to 72.
--   before row i, after row i        the coefficients before and after the i-th, and 0 outside
--   IsMultiplied part n old new      the first n coefficients are those of part and of v - v^-1 times old, and the
--                                    others are old
--   steps_sum m parts j              the parts at the powers from m down to m + 1 - j, by one product for each
use Rattle.std.specs.Prelude.{◌≡◌, ℕ, zero, suc, ◌+◌, ◌-◌, ◌<◌, ◌≤◌, nat_lt, if◌then◌else◌, List, length, slice_index_or, ℤ, pos, ◌+ℤ◌, ◌-ℤ◌}
use Rattle.bmp_hecke.specs.Laurents.{Laurent, times_difference}

abbrev pub before : List ℤ → ℕ → ℤ
before row zero = pos 0
before row (suc i) = slice_index_or row i (pos 0)

abbrev pub after : List ℤ → ℕ → ℤ
after row i = if nat_lt i 144 then slice_index_or row (i + 1) (pos 0) else pos 0

pub record IsMultiplied (part : Laurent) (n : ℕ) (old new : List ℤ) : Type 0 where
  pub as_long : length new ≡ length old
  pub done : (i : ℕ) → i < n → slice_index_or new i (pos 0) ≡ part (pos i -ℤ pos 72) +ℤ (before old i -ℤ after old i)
  pub kept : (i : ℕ) → n ≤ i → slice_index_or new i (pos 0) ≡ slice_index_or old i (pos 0)

unfoldable pub steps_sum : ℕ → (ℕ → Laurent) → ℕ → Laurent
steps_sum m parts zero e = pos 0
steps_sum m parts (suc j) e = parts (m - j) e +ℤ times_difference (steps_sum m parts j) e
