-- Elements, as the machine has them. The matrix of an element has in column j, from 0, what the element makes of the
-- simple root j; past the rank it is the identity.
--   rank_of e                   the rank of the root system of e
--   IsProduct m word e          e is the product of the word
--   IsElement m e               e is the product of some word
--   IsElementOfOne e            e is an element of some finite root system
--   AreElementsOfOne x y        x and y are elements of one finite root system
--   element_length roots e      how many of the roots e makes negative
--   IsReflection m q e          e is the reflection of the pair q
--   word_of letters             the word of letters that count from 1
--   IsLetter rank letter        the letter is from 1 to the rank
--   IsFirstBadLetter rank letters place    the place, from 0, of the first letter that is not
use Rattle.std.specs.Prelude.{◌≡◌, ℕ, ◌-◌, ◌<◌, ◌≤◌, List, length, map, slice_index}
use Rattle.std.specs.List.{count_by}
use Rattle.bmp_roots.specs.RootPairs.{CartanMatrix, Vector, RootPair, across, HasCartanForm, HasFiniteSystem}
use Rattle.bmp_roots.specs.PositiveRoots.{has_negative}
use Rattle.bmp_weyl.specs.Words.{IsWord, acts}
use Rattle.bmp_weyl.specs.Matrices.{image, HasColumns}
use Rattle.bmp_weyl.specs.declared.elem.Elem.{Elem}

abbrev pub rank_of : Elem → ℕ
rank_of e = e.rank

-- the element is the product of the word, whose letters count from 0
pub record IsProduct (m : CartanMatrix) (word : List ℕ) (e : Elem) : Type 0 where
  pub rank : e.rank ≡ m.rank
  pub letters : IsWord m word
  pub places : length e.entries ≡ 36
  pub columns : HasColumns (acts m word) e.entries

abbrev pub IsElement : CartanMatrix → Elem → Type 0
IsElement m e = (word : List ℕ) × IsProduct m word e

pub record IsElementOfOne (e : Elem) : Type 0 where
  pub matrix : CartanMatrix
  pub form : HasCartanForm matrix
  pub finite : HasFiniteSystem matrix
  pub element : IsElement matrix e

pub record AreElementsOfOne (x y : Elem) : Type 0 where
  pub matrix : CartanMatrix
  pub form : HasCartanForm matrix
  pub finite : HasFiniteSystem matrix
  pub first : IsElement matrix x
  pub second : IsElement matrix y

-- how many of the roots have an image with a coordinate below 0
abbrev pub element_length : List Vector → Elem → ℕ
element_length roots e = count_by (λ b. has_negative e.rank (image e.entries b)) roots

-- the element sends the simple root j to itself less the value of the coroot on it times the root
pub record IsReflection (m : CartanMatrix) (q : RootPair) (e : Elem) : Type 0 where
  pub rank : e.rank ≡ m.rank
  pub places : length e.entries ≡ 36
  pub columns : HasColumns (across m q) e.entries

abbrev pub word_of : List ℕ → List ℕ
word_of letters = map (λ letter. letter - 1) letters

abbrev pub IsLetter : ℕ → ℕ → Type 0
IsLetter rank letter = (1 ≤ letter) × (letter ≤ rank)

pub record IsFirstBadLetter (rank : ℕ) (letters : List ℕ) (place : ℕ) : Type 0 where
  pub inside : place < length letters
  pub bad : IsLetter rank (slice_index letters place) → ⊥
  pub good_before : (i : ℕ) → i < place → IsLetter rank (slice_index letters i)
