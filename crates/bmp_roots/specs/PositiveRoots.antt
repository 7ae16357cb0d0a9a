-- Positive roots, as a list.
--   has_negative n v          some coordinate of v below n is below 0
--   positive_pairs m list     the pairs of the list whose root is positive, in its order
--   positive_roots m list     their roots
--   ArePositiveRoots m roots  the roots are the positive roots of m, each once
use Rattle.std.specs.Prelude.{◌≡◌, ℕ, zero, suc, List, Bool, false, not, ◌||◌, map, filter, pos, int_lt}
use Rattle.bmp_math.specs.Lists.{Member, HasEachOnce}
use Rattle.bmp_roots.specs.RootPairs.{CartanMatrix, Vector, RootPair, IsRootPair, IsPositive}

-- some coordinate below n is below 0
unfoldable pub has_negative : ℕ → Vector → Bool
has_negative zero v = false
has_negative (suc n) v = has_negative n v || int_lt (v n) (pos 0)

-- the pairs of a list whose root is positive, in its order
abbrev pub positive_pairs : CartanMatrix → List RootPair → List RootPair
positive_pairs m list = filter (λ q. not (has_negative m.rank q.root)) list

abbrev pub positive_roots : CartanMatrix → List RootPair → List Vector
positive_roots m list = map (λ q. q.root) (positive_pairs m list)

-- the list of the positive roots, each once
pub record ArePositiveRoots (m : CartanMatrix) (roots : List Vector) : Type 0 where
  pub once : HasEachOnce roots
  pub each : (b : Vector) → Member b roots → (q : RootPair) × IsRootPair m q × (q.root ≡ b) × IsPositive m b
  pub all : (q : RootPair) → IsRootPair m q → IsPositive m q.root → Member q.root roots
