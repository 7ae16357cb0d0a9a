-- The interval below a word.
--   IsInterval m roots word list     the word is reduced, and the list has its vertices in order
--   IsIntervalOf roots word list     the same for a word in letters that count from 1 to the rank
--   IsFault m roots word fault       why the word has no interval
use Rattle.std.specs.Prelude.{◌≡◌, ◌≢◌, ℕ, ◌+◌, ◌-◌, ◌<◌, ◌≤◌, List, [], length, slice_index_or}
use Rattle.std.specs.List.{All}
use Rattle.bmp_roots.specs.RootPairs.{CartanMatrix, Vector}
use Rattle.bmp_roots.specs.RootSystems.{matrix_of, positive_roots_of}
use Rattle.bmp_roots.specs.declared.root_system.Roots.{Roots}
use Rattle.bmp_weyl.specs.Words.{length_of, IsReduced}
use Rattle.bmp_weyl.specs.Elements.{IsProduct, IsLetter, element_length, word_of}
use Rattle.bmp_weyl.specs.declared.elem.Elem.{Elem}
use Rattle.bmp_interval.specs.Limits.{max_vertices}
use Rattle.bmp_interval.specs.Vertices.{HasVertices, HasMoreVertices, number_of}
use Rattle.bmp_interval.specs.declared.fault.IntervalFault.{IntervalFault}
use Rattle.bmp_interval.specs.declared.fault.IntervalFault.TheVariants.{NotReduced, TooMany, Memory}

pub record IsInterval (m : CartanMatrix) (roots : List Vector) (word : List ℕ) (list : List Elem)
    : Type 0 where
  pub reduced : IsReduced m roots word
  pub few : length list ≤ max_vertices
  pub vertices : HasVertices m word list
  -- the number of a vertex, which is its place, is how many vertices come before it
  pub numbered : (x : ℕ) (d : Elem) → x < length list
      → number_of roots list (slice_index_or list x d) ≡ x
  -- lengths never fall along the numbers, the first vertex is the identity, and the last is the
  -- product of the word
  pub rising : (x y : ℕ) (d : Elem) → x ≤ y → y < length list
      → element_length roots (slice_index_or list x d)
      ≤ element_length roots (slice_index_or list y d)
  pub bottom : (d : Elem) → IsProduct m [] (slice_index_or list 0 d)
  pub top : (d : Elem) → IsProduct m word (slice_index_or list (length list - 1) d)

-- for a word in letters that count from 1 to the rank
pub record IsIntervalOf (roots : Roots) (word : List ℕ) (list : List Elem) : Type 0 where
  pub letters : All (IsLetter (matrix_of roots).rank) word
  pub interval : IsInterval (matrix_of roots) (positive_roots_of roots) (word_of word) list

-- a word that is not reduced, then too many vertices; memory is wanted only for a reduced word
abbrev pub IsFault : CartanMatrix → List Vector → List ℕ → IntervalFault → Type 0
IsFault m roots word (NotReduced n) = (n ≡ length_of m roots word) × (n ≢ length word)
IsFault m roots word (TooMany n) = IsReduced m roots word × (n ≡ max_vertices + 1) × HasMoreVertices m word max_vertices
IsFault m roots word Memory = IsReduced m roots word
