-- Words of simple reflections. Letters count from 0, and the last letter acts first.
--   IsWord m u                    each letter of u is below the rank
--   acts m u v                    what the product of u makes of the vector v
--   IsRootSystem m roots          m is a Cartan matrix of a finite system with these positive roots
--   length_of m roots u           how many positive roots the product of u makes negative
--   IsReduced m roots u           the length of the product is the number of letters
--   IsRightDescent m roots u k    the product of u with the simple reflection k is shorter
--   IsLeastDescent m roots u k    k is the least right descent of the product of u
--   IsDescentWord m roots u       each letter is the least right descent of the product up to it
--   less_place u i                u without its letter at place i
--   kept choices u                the subsequence of u that a list of choices keeps
use Rattle.std.specs.Prelude.{◌≡◌, ℕ, zero, suc, ◌+◌, ◌<◌, List, [], ◌∷◌, ◌++◌, length, take, Bool, if◌then◌else◌, slice_index}
use Rattle.std.specs.List.{All, count_by}
use Rattle.bmp_roots.specs.RootPairs.{CartanMatrix, Vector, across, simple_pair, HasCartanForm, HasFiniteSystem}
use Rattle.bmp_roots.specs.PositiveRoots.{has_negative, ArePositiveRoots}

abbrev pub IsWord : CartanMatrix → List ℕ → Type 0
IsWord m u = All (λ k. k < m.rank) u

-- what the product of a word makes of a vector
abbrev pub acts : CartanMatrix → List ℕ → Vector → Vector
acts m [] v = v
acts m (k ∷ u) v = across m (simple_pair k) (acts m u v)

-- a Cartan matrix with finitely many roots, and its positive roots
pub record IsRootSystem (m : CartanMatrix) (roots : List Vector) : Type 0 where
  pub form : HasCartanForm m
  pub finite : HasFiniteSystem m
  pub positive : ArePositiveRoots m roots

-- how many positive roots the product of a word makes negative
abbrev pub length_of : CartanMatrix → List Vector → List ℕ → ℕ
length_of m roots u = count_by (λ b. has_negative m.rank (acts m u b)) roots

abbrev pub IsReduced : CartanMatrix → List Vector → List ℕ → Type 0
IsReduced m roots u = length_of m roots u ≡ length u

-- the product with the simple reflection k is shorter
abbrev pub IsRightDescent : CartanMatrix → List Vector → List ℕ → ℕ → Type 0
IsRightDescent m roots u k = length_of m roots (u ++ k ∷ []) < length_of m roots u

pub record IsLeastDescent (m : CartanMatrix) (roots : List Vector) (u : List ℕ) (k : ℕ) : Type 0 where
  pub descent : IsRightDescent m roots u k
  pub least : (j : ℕ) → j < k → IsRightDescent m roots u j → ⊥

-- the last letter is the least right descent of the product, and so on from the right
abbrev pub IsDescentWord : CartanMatrix → List Vector → List ℕ → Type 0
IsDescentWord m roots u = (i : ℕ) → i < length u → IsLeastDescent m roots (take (i + 1) u) (slice_index u i)

-- the word without the letter at place i
abbrev pub less_place : List ℕ → ℕ → List ℕ
less_place [] i = []
less_place (k ∷ u) zero = u
less_place (k ∷ u) (suc i) = k ∷ less_place u i

-- the letters that a list of choices keeps
abbrev pub kept : List Bool → List ℕ → List ℕ
kept [] u = []
kept (b ∷ choices) [] = []
kept (b ∷ choices) (k ∷ u) = if b then k ∷ kept choices u else kept choices u
