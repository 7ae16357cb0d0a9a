-- Products with one simple reflection on the right, as functions of an element. Simple reflections count from 0. In the order to
-- read:
--   tabulated n f              the list of f 0, .., f (n - 1)
--   identity_element m         the identity
--   times_cell m x k i j       the entry at row i and column j less the value of the coroot k on the simple root j times the entry at
--                              row i and column k
--   times_simple m x k         the product of x with the simple reflection k
--   has_negative_column m x k  column k has an entry below 0: the product with the simple reflection k is shorter
use Rattle.std.specs.Prelude.{ℕ, zero, suc, ◌/◌, ◌%◌, Bool, List, [], ◌∷◌, ◌++◌, ℤ, ◌-ℤ◌, ◌*ℤ◌}
use Rattle.bmp_math.specs.IntegerSums.{integer_unit}
use Rattle.bmp_roots.specs.RootPairs.{CartanMatrix, pairing}
use Rattle.bmp_roots.specs.PositiveRoots.{has_negative}
use Rattle.bmp_weyl.specs.Matrices.{cell}
use Rattle.bmp_weyl.specs.declared.elem.Elem.{Elem}

unfoldable pub tabulated : {X : Type 0} → ℕ → (ℕ → X) → List X
tabulated zero f = []
tabulated (suc n) f = tabulated n f ++ f n ∷ []

abbrev pub identity_element : CartanMatrix → Elem
identity_element m = record { rank = m.rank; entries = tabulated 36 (λ p. integer_unit (p % 6) (p / 6)) }

abbrev pub times_cell : CartanMatrix → List ℤ → ℕ → ℕ → ℕ → ℤ
times_cell m entries k i j =
    cell entries i j -ℤ pairing m (integer_unit k) (integer_unit j) *ℤ cell entries i k

abbrev pub times_simple : CartanMatrix → Elem → ℕ → Elem
times_simple m x k = record { rank = x.rank; entries = tabulated 36 (λ p. times_cell m x.entries k (p / 6) (p % 6)) }

abbrev pub has_negative_column : CartanMatrix → Elem → ℕ → Bool
has_negative_column m x k = has_negative m.rank (λ i. cell x.entries i k)
