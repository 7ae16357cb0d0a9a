-- The linear forms on the edges, and what they are modulo a number.
--   root_form q            the root itself, by its coordinates
--   weight_form m q        the values of the simple coroots on the root: its coordinates by the fundamental weights
--   form_in m weight q     the second where `weight` holds, else the first
--   IsResidue p z n        n is the integer z modulo p, from 0 to p - 1
--   IsLabelOf p r b a      the first r coordinates of the linear form a are those of the vector b modulo p
--   IsZeroForm p r b       the first r coordinates of the vector b are zero modulo p
--   IsFormLabel p r b l    the label l has the rank r, the prime p and the coordinates of the vector b modulo p
use Rattle.std.specs.Prelude.{◌≡◌, ℕ, ◌<◌, Bool, true, false, pos, ◌-ℤ◌, ℤ}
use Rattle.bmp_math.specs.Integers.{Divides}
use Rattle.bmp_math.specs.IntegerSums.{integer_unit}
use Rattle.bmp_poly.specs.Labels.{rank_of, prime_of, coordinate_of}
use Rattle.bmp_poly.specs.declared.label.Label.{Label}
use Rattle.bmp_roots.specs.RootPairs.{CartanMatrix, Vector, RootPair, pairing}

abbrev pub root_form : RootPair → Vector
root_form q = q.root

-- coordinate i is the value of the simple coroot i on the root
abbrev pub weight_form : CartanMatrix → RootPair → Vector
weight_form m q i = pairing m (integer_unit i) q.root

abbrev pub form_in : CartanMatrix → Bool → RootPair → Vector
form_in m true = weight_form m
form_in m false = root_form

-- n is below p, and p divides z less n
abbrev pub IsResidue : ℕ → ℤ → ℕ → Type 0
IsResidue p z n = (n < p) × Divides p (z -ℤ pos n)

abbrev pub IsLabelOf : ℕ → ℕ → Vector → (ℕ → ℕ) → Type 0
IsLabelOf p r b a = (j : ℕ) → j < r → IsResidue p (b j) (a j)

abbrev pub IsZeroForm : ℕ → ℕ → Vector → Type 0
IsZeroForm p r b = (j : ℕ) → j < r → Divides p (b j)

pub record IsFormLabel (p r : ℕ) (b : Vector) (l : Label) : Type 0 where
  pub rank : rank_of l ≡ r
  pub prime : prime_of l ≡ p
  pub residues : IsLabelOf p r b (coordinate_of l)
