-- Cartan matrices, vectors, the reflections of pairs (root, coroot), and root pairs. Numbers count from 0.
--   CartanMatrix            a square matrix, its rows one after another
--   entry m i j             the value of the simple coroot i on the simple root j
--   HasCartanForm m         rank 1 to 6, 2 on the diagonal, -32 to 0 elsewhere, zeros in pairs
--   Vector                  coordinates by the simple roots, or by the simple coroots: 0 from the rank on
--   pairing m c b           the value of the coroot c on the root b
--   minus_times v t b       the vector v less t times b
--   RootPair                a root and a coroot
--   simple_pair k           the simple root k and its coroot: both the unit vector k
--   across, coacross m q    the reflection of the pair q, on roots and on coroots
--   mirrored m q p          the reflection of the pair q, on both parts of p
--   walk m word q           the simple reflections of a word on q, the last letter first
--   IsRootPair m q          q is in the least set with the simple pairs that the simple reflections keep
--   IsPositive m b          no coordinate of b is below 0
--   IsZeroPast n q          the root and the coroot are 0 from place n on
--   IsSmall q               each coordinate of the root and of the coroot is from -32 to 32
--   HasOneSign q            the root has not coordinates of both signs
--   AreRootPairs m list     the list has each root pair once, and nothing else
--   HasFiniteSystem m       at most 72 root pairs, each small, each of one sign
use Rattle.std.specs.Prelude.{◌≡◌, ◌≢◌, ℕ, ◌+◌, ◌*◌, ◌<◌, ◌≤◌, List, [], ◌∷◌, length, ℤ, pos, negsuc, ◌-ℤ◌, ◌*ℤ◌, ◌≤ℤ◌, ◌<ℤ◌, slice_index_or}
use Rattle.std.specs.List.{All}
use Rattle.bmp_math.specs.Integers.{IsWithin}
use Rattle.bmp_math.specs.IntegerSums.{integer_sum, integer_unit}
use Rattle.bmp_math.specs.Lists.{Member, HasEachOnce}

pub record CartanMatrix : Type 0 where
  pub rank : ℕ
  pub rows : List ℤ

-- the value of the simple coroot i on the simple root j
abbrev pub entry : CartanMatrix → ℕ → ℕ → ℤ
entry m i j = slice_index_or m.rows (i * m.rank + j) (pos 0)

pub record HasCartanForm (m : CartanMatrix) : Type 0 where
  pub at_least_one : 1 ≤ m.rank
  pub at_most_six : m.rank ≤ 6
  pub diagonal : (i : ℕ) → i < m.rank → entry m i i ≡ pos 2
  pub others : (i j : ℕ) → i < m.rank → j < m.rank → i ≢ j → (negsuc 31 ≤ℤ entry m i j) × (entry m i j ≤ℤ pos 0)
  pub zeros : (i j : ℕ) → i < m.rank → j < m.rank → entry m i j ≡ pos 0 → entry m j i ≡ pos 0

-- a vector is a function that is 0 from the rank on
abbrev pub Vector : Type 0
Vector = ℕ → ℤ

-- the value of the coroot c on the root b
unfoldable pub pairing : CartanMatrix → Vector → Vector → ℤ
pairing m c b = integer_sum (λ i. c i *ℤ integer_sum (λ j. entry m i j *ℤ b j) m.rank) m.rank

-- the vector v less t times b
abbrev pub minus_times : Vector → ℤ → Vector → Vector
minus_times v t b j = v j -ℤ t *ℤ b j

pub record RootPair : Type 0 where
  pub root : Vector
  pub coroot : Vector

-- the two halves of the reflection of the pair q
abbrev pub across : CartanMatrix → RootPair → Vector → Vector
across m q v = minus_times v (pairing m q.coroot v) q.root

abbrev pub coacross : CartanMatrix → RootPair → Vector → Vector
coacross m q d = minus_times d (pairing m d q.root) q.coroot

abbrev pub mirrored : CartanMatrix → RootPair → RootPair → RootPair
mirrored m q p = record { root = across m q p.root; coroot = coacross m q p.coroot }

abbrev pub simple_pair : ℕ → RootPair
simple_pair k = record { root = integer_unit k; coroot = integer_unit k }

-- the simple reflections of a word, the last letter first
abbrev pub walk : CartanMatrix → List ℕ → RootPair → RootPair
walk m [] q = q
walk m (k ∷ u) q = mirrored m (simple_pair k) (walk m u q)

-- some word of simple reflections makes q of a simple pair
pub record IsRootPair (m : CartanMatrix) (q : RootPair) : Type 0 where
  pub word : List ℕ
  pub letters : All (λ k. k < m.rank) word
  pub first : ℕ
  pub first_below : first < m.rank
  pub reached : walk m word (simple_pair first) ≡ q

abbrev pub IsPositive : CartanMatrix → Vector → Type 0
IsPositive m b = (j : ℕ) → j < m.rank → pos 0 ≤ℤ b j

abbrev pub IsNegative : CartanMatrix → Vector → Type 0
IsNegative m b = (j : ℕ) × (j < m.rank) × (b j <ℤ pos 0)

abbrev pub IsZeroPast : ℕ → RootPair → Type 0
IsZeroPast n q = (j : ℕ) → n ≤ j → (q.root j ≡ pos 0) × (q.coroot j ≡ pos 0)

-- each coordinate is from -32 to 32
abbrev pub IsSmall : RootPair → Type 0
IsSmall q = (j : ℕ) → IsWithin 32 (q.root j) × IsWithin 32 (q.coroot j)

-- no coordinate of the root is below 0 where another is above
abbrev pub HasOneSign : RootPair → Type 0
HasOneSign q = (i j : ℕ) → q.root i <ℤ pos 0 → pos 0 <ℤ q.root j → ⊥

-- the list of the root pairs, each once
pub record AreRootPairs (m : CartanMatrix) (list : List RootPair) : Type 0 where
  pub once : HasEachOnce list
  pub each : (q : RootPair) → Member q list → IsRootPair m q
  pub all : (q : RootPair) → IsRootPair m q → Member q list

pub record HasFiniteSystem (m : CartanMatrix) : Type 0 where
  pub pairs : List RootPair
  pub at_most_72 : length pairs ≤ 72
  pub each_pair : (q : RootPair) → IsRootPair m q → Member q pairs
  pub small : (q : RootPair) → IsRootPair m q → IsSmall q
  pub one_sign : (q : RootPair) → IsRootPair m q → HasOneSign q
