-- The laws of words and length, as statements.
--   LengthChangesByOne        a simple reflection on the right makes a product one longer or one shorter
--   LengthAtMostLetters       a product is at most as long as its word, and of the same parity
--   LengthZeroIsIdentity      a product of length 0 is the identity
--   DescentIsNegativeColumn   a product is shorter with a simple reflection behind it where it makes that simple root
--                             negative
--   NoDescentIsIdentity       a product without a right descent is the identity
--   LengthOfInverse           a product and its inverse, the product of the word backwards, are equally long
--   Exchange                  where the letter k makes a product shorter, some other letter can go in its place
--   Deletion                  a word that is longer than its product can lose two letters
--   ReducedSubsequence        each word has a reduced subsequence of the same product
--   SubsequenceIsShorter      a subsequence of a reduced word that leaves a letter out has a shorter product
--   PrefixIsReduced           each prefix of a reduced word is reduced
--   ReducedAtMost36           a reduced word has at most 36 letters
--   ReflectionIsElement       the reflection of a root pair is the product of a word of odd length
--   ReflectionKnowsRoot       two positive root pairs with one reflection are the same
--   ReflectionChangesLength   a reflection on the left changes the length
use Rattle.std.specs.Prelude.{◌≡◌, ◌≢◌, ◌↔◌, IsTrue, ℕ, ◌+◌, ◌%◌, ◌<◌, ◌≤◌, ◌⊎◌, List, [], ◌∷◌, ◌++◌, length, take, reverse, Bool}
use Rattle.bmp_math.specs.IntegerSums.{integer_unit}
use Rattle.bmp_roots.specs.RootPairs.{CartanMatrix, Vector, RootPair, across, IsRootPair, IsPositive}
use Rattle.bmp_roots.specs.PositiveRoots.{has_negative}
use Rattle.bmp_weyl.specs.Words.{IsWord, acts, IsRootSystem, length_of, IsReduced, IsRightDescent, less_place, kept}

abbrev pub LengthChangesByOne : Type 0
LengthChangesByOne = (m : CartanMatrix) (roots : List Vector) → IsRootSystem m roots
    → (u : List ℕ) (k : ℕ) → IsWord m u → k < m.rank
    → (length_of m roots (u ++ k ∷ []) ≡ length_of m roots u + 1)
    ⊎ (length_of m roots (u ++ k ∷ []) + 1 ≡ length_of m roots u)

abbrev pub LengthAtMostLetters : Type 0
LengthAtMostLetters = (m : CartanMatrix) (roots : List Vector) → IsRootSystem m roots
    → (u : List ℕ) → IsWord m u
    → (length_of m roots u ≤ length u) × (length_of m roots u % 2 ≡ length u % 2)

abbrev pub LengthZeroIsIdentity : Type 0
LengthZeroIsIdentity = (m : CartanMatrix) (roots : List Vector) → IsRootSystem m roots
    → (u : List ℕ) → IsWord m u → length_of m roots u ≡ 0 → acts m u ≡ acts m []

abbrev pub DescentIsNegativeColumn : Type 0
DescentIsNegativeColumn = (m : CartanMatrix) (roots : List Vector) → IsRootSystem m roots
    → (u : List ℕ) (k : ℕ) → IsWord m u → k < m.rank
    → IsRightDescent m roots u k ↔ IsTrue (has_negative m.rank (acts m u (integer_unit k)))

abbrev pub NoDescentIsIdentity : Type 0
NoDescentIsIdentity = (m : CartanMatrix) (roots : List Vector) → IsRootSystem m roots
    → (u : List ℕ) → IsWord m u → ((k : ℕ) → k < m.rank → IsRightDescent m roots u k → ⊥) → acts m u ≡ acts m []

abbrev pub LengthOfInverse : Type 0
LengthOfInverse = (m : CartanMatrix) (roots : List Vector) → IsRootSystem m roots
    → (u : List ℕ) → IsWord m u
    → (acts m (u ++ reverse u) ≡ acts m []) × (length_of m roots (reverse u) ≡ length_of m roots u)

abbrev pub Exchange : Type 0
Exchange = (m : CartanMatrix) (roots : List Vector) → IsRootSystem m roots
    → (u : List ℕ) (k : ℕ) → IsWord m u → k < m.rank → IsRightDescent m roots u k
    → (i : ℕ) × (i < length u) × (acts m (u ++ k ∷ []) ≡ acts m (less_place u i))

abbrev pub Deletion : Type 0
Deletion = (m : CartanMatrix) (roots : List Vector) → IsRootSystem m roots
    → (u : List ℕ) → IsWord m u → length_of m roots u < length u
    → (i j : ℕ) × (i < j) × (j < length u) × (acts m u ≡ acts m (less_place (less_place u j) i))

abbrev pub ReducedSubsequence : Type 0
ReducedSubsequence = (m : CartanMatrix) (roots : List Vector) → IsRootSystem m roots
    → (u : List ℕ) → IsWord m u
    → (choices : List Bool) × (length choices ≡ length u)
    × IsReduced m roots (kept choices u) × (acts m (kept choices u) ≡ acts m u)

abbrev pub SubsequenceIsShorter : Type 0
SubsequenceIsShorter = (m : CartanMatrix) (roots : List Vector) → IsRootSystem m roots
    → (u : List ℕ) → IsWord m u → IsReduced m roots u
    → (choices : List Bool) → length choices ≡ length u → length (kept choices u) ≢ length u
    → length_of m roots (kept choices u) < length_of m roots u

abbrev pub PrefixIsReduced : Type 0
PrefixIsReduced = (m : CartanMatrix) (roots : List Vector) → IsRootSystem m roots
    → (u : List ℕ) → IsWord m u → IsReduced m roots u → (n : ℕ) → IsReduced m roots (take n u)

abbrev pub ReducedAtMost36 : Type 0
ReducedAtMost36 = (m : CartanMatrix) (roots : List Vector) → IsRootSystem m roots
    → (u : List ℕ) → IsWord m u → IsReduced m roots u → length u ≤ 36

abbrev pub ReflectionIsElement : Type 0
ReflectionIsElement = (m : CartanMatrix) (roots : List Vector) → IsRootSystem m roots
    → (q : RootPair) → IsRootPair m q
    → (u : List ℕ) × IsWord m u × (length u % 2 ≡ 1) × (acts m u ≡ across m q)

abbrev pub ReflectionKnowsRoot : Type 0
ReflectionKnowsRoot = (m : CartanMatrix) (roots : List Vector) → IsRootSystem m roots
    → (p q : RootPair) → IsRootPair m p → IsRootPair m q → IsPositive m p.root → IsPositive m q.root
    → across m p ≡ across m q → p ≡ q

abbrev pub ReflectionChangesLength : Type 0
ReflectionChangesLength = (m : CartanMatrix) (roots : List Vector) → IsRootSystem m roots
    → (q : RootPair) → IsRootPair m q → (u w : List ℕ) → IsWord m u → IsWord m w
    → ((v : Vector) → acts m w v ≡ across m q (acts m u v))
    → length_of m roots w ≢ length_of m roots u
