-- The parts of the sums q_x in memory: 1,369 numbers for each vertex x, 37 powers of v - v^-1 at each exponent from 0
-- to -36.
--   part_place x a d             the place of the part at the exponent -a and the power d
--   lower_value f                the Laurent polynomial with f a at the exponent -a, for a from 0 to 36
--   part_value ps x d            the part of q_x at the power d
--   IsRowAdded start gap n c row old new    the places start + gap - 2 j got c times row j, for each j below n
--   IsTermAdded a n c counts old new        the parts of the vertices below n at the exponent -a got c times their
--                                           counts
--   IsBarAdded n y tops counts old new      the same for the vertices below y at each a below n, with tops a for c
use Rattle.std.specs.Prelude.{◌≡◌, ◌≢◌, ℕ, zero, suc, ◌+◌, ◌*◌, ◌<◌, ◌≤◌, ◌⊎◌, nat_le, if◌then◌else◌, List, length, slice_index_or, ℤ, pos, negsuc, ◌+ℤ◌, ◌*ℤ◌}
use Rattle.bmp_hecke.specs.Laurents.{Laurent}

abbrev pub part_place : ℕ → ℕ → ℕ → ℕ
part_place x a d = x * 1369 + a * 37 + d

abbrev pub lower_value : (ℕ → ℤ) → Laurent
lower_value f (pos zero) = f 0
lower_value f (pos (suc e)) = pos 0
lower_value f (negsuc a) = if nat_le (suc a) 36 then f (suc a) else pos 0

abbrev pub part_at : List ℤ → ℕ → ℕ → ℕ → ℤ
part_at ps x d a = slice_index_or ps (part_place x a d) (pos 0)

abbrev pub part_value : List ℤ → ℕ → ℕ → Laurent
part_value ps x d = lower_value (part_at ps x d)

pub record IsRowAdded (start gap n : ℕ) (c : ℤ) (row : ℕ → ℕ) (old new : List ℤ) : Type 0 where
  pub as_long : length new ≡ length old
  pub added : (j i : ℕ) → j < n → i + 2 * j ≡ start + gap
      → slice_index_or new i (pos 0) ≡ slice_index_or old i (pos 0) +ℤ pos (row j) *ℤ c
  pub kept : (i : ℕ) → ((j : ℕ) → j < n → i + 2 * j ≢ start + gap) →
      slice_index_or new i (pos 0) ≡ slice_index_or old i (pos 0)

pub record IsTermAdded (a n : ℕ) (c : ℤ) (counts : ℕ → ℕ → ℕ) (old new : List ℤ) : Type 0 where
  pub as_long : length new ≡ length old
  pub added : (x d : ℕ) → x < n → d < 37 → part_at new x d a ≡ part_at old x d a +ℤ pos (counts x d) *ℤ c
  pub kept : (x b d : ℕ) → b < 37 → d < 37 → (b ≢ a) ⊎ (n ≤ x) → part_at new x d b ≡ part_at old x d b

pub record IsBarAdded (n y : ℕ) (tops : List ℤ) (counts : ℕ → ℕ → ℕ) (old new : List ℤ) : Type 0 where
  pub as_long : length new ≡ length old
  pub added : (x a d : ℕ) → x < y → a < n → d < 37
      → part_at new x d a ≡ part_at old x d a +ℤ pos (counts x d) *ℤ slice_index_or tops a (pos 0)
  pub kept : (x a d : ℕ) → x < y → n ≤ a → a < 37 → d < 37 → part_at new x d a ≡ part_at old x d a
