-- The laws of root pairs, as statements.
--   RootsHaveOneCoroot            in a finite system two root pairs with one root are the same
--   RootsArePrimitive             no number from 2 on divides every coordinate of a root: so no root is 0 modulo a
--                                 prime
--   ReflectionsKeepRootPairs      the reflection of a root pair sends root pairs to root pairs
--   SimpleReflectionsPermute      a simple reflection permutes the positive root pairs other than its own
--   RootsHaveOneSign              in a finite system each root is positive or the negative of a positive vector, and
--                                 not both
--   AtMost36ArePositive           a finite system has at most 36 positive roots
use Rattle.std.specs.Prelude.{◌≡◌, ℕ, ◌<◌, ◌≤◌, ◌⊎◌, List, length, neg_ℤ}
use Rattle.bmp_math.specs.Integers.{Divides}
use Rattle.bmp_math.specs.IntegerSums.{integer_unit}
use Rattle.bmp_roots.specs.RootPairs.{CartanMatrix, Vector, RootPair, mirrored, simple_pair, IsRootPair, IsPositive, HasCartanForm, HasFiniteSystem}
use Rattle.bmp_roots.specs.PositiveRoots.{ArePositiveRoots}

abbrev pub RootsHaveOneCoroot : Type 0
RootsHaveOneCoroot = (m : CartanMatrix) → HasCartanForm m → HasFiniteSystem m
    → (q p : RootPair) → IsRootPair m q → IsRootPair m p → q.root ≡ p.root → q.coroot ≡ p.coroot

abbrev pub RootsArePrimitive : Type 0
RootsArePrimitive = (m : CartanMatrix) → HasCartanForm m
    → (n : ℕ) → 2 ≤ n → (q : RootPair) → IsRootPair m q → ((j : ℕ) → j < m.rank → Divides n (q.root j)) → ⊥

abbrev pub ReflectionsKeepRootPairs : Type 0
ReflectionsKeepRootPairs = (m : CartanMatrix) → HasCartanForm m
    → (q : RootPair) → IsRootPair m q → (p : RootPair) → IsRootPair m p → IsRootPair m (mirrored m q p)

abbrev pub SimpleReflectionsPermute : Type 0
SimpleReflectionsPermute = (m : CartanMatrix) → HasCartanForm m → HasFiniteSystem m → (k : ℕ) → k < m.rank
    → (q : RootPair) → IsRootPair m q → IsPositive m q.root → (q.root ≡ integer_unit k → ⊥)
    → let p : RootPair = mirrored m (simple_pair k) q in
    IsRootPair m p × IsPositive m p.root × (p.root ≡ integer_unit k → ⊥) × (mirrored m (simple_pair k) p ≡ q)

abbrev pub RootsHaveOneSign : Type 0
RootsHaveOneSign = (m : CartanMatrix) → HasCartanForm m → HasFiniteSystem m → (q : RootPair) → IsRootPair m q
    → let minus : Vector = λ j. neg_ℤ (q.root j) in
    (IsPositive m q.root ⊎ IsPositive m minus) × (IsPositive m q.root → IsPositive m minus → ⊥)

abbrev pub AtMost36ArePositive : Type 0
AtMost36ArePositive = (m : CartanMatrix) → HasCartanForm m → HasFiniteSystem m
    → (roots : List Vector) → ArePositiveRoots m roots → length roots ≤ 36
