-- The vertices of a word, and their order. Letters count from 0.
--   IsVertex m word e             e is the product of a subsequence of the word
--   HasVertices m word list       the list has the vertices of the word, each once
--   HasMoreVertices m word n      the word has more than n vertices
--   vertex_order roots x y        by length, and then by the matrices, row by row, entry by entry
--   comes_before roots x y        x comes before y in that order
--   number_of roots list e        how many of the list come before e
use Rattle.std.specs.Prelude.{◌≡◌, ℕ, ◌<◌, List, length, Bool}
use Rattle.std.specs.List.{count_by}
use Rattle.std.specs.Ordering.{ordering_then, nat_cmp, int_cmp, is_lt}
use Rattle.std.specs.Cmp.Lexicographic.{slice_cmp}
use Rattle.std.specs.declared.cmp.Ordering.{Ordering}
use Rattle.bmp_math.specs.Lists.{Member, HasEachOnce}
use Rattle.bmp_roots.specs.RootPairs.{CartanMatrix, Vector}
use Rattle.bmp_weyl.specs.Words.{kept}
use Rattle.bmp_weyl.specs.Elements.{IsProduct, element_length}
use Rattle.bmp_weyl.specs.declared.elem.Elem.{Elem}

-- the choices say of each letter whether the subsequence keeps it
pub record IsVertex (m : CartanMatrix) (word : List ℕ) (e : Elem) : Type 0 where
  pub choices : List Bool
  pub as_long : length choices ≡ length word
  pub product : IsProduct m (kept choices word) e

pub record HasVertices (m : CartanMatrix) (word : List ℕ) (list : List Elem) : Type 0 where
  pub once : HasEachOnce list
  pub each : (e : Elem) → Member e list → IsVertex m word e
  pub all : (choices : List Bool) → length choices ≡ length word
      → (e : Elem) × Member e list × IsProduct m (kept choices word) e

-- there are more than n different vertices
pub record HasMoreVertices (m : CartanMatrix) (word : List ℕ) (n : ℕ) : Type 0 where
  pub some : List Elem
  pub once : HasEachOnce some
  pub each : (e : Elem) → Member e some → IsVertex m word e
  pub more : n < length some

abbrev pub vertex_order : List Vector → Elem → Elem → Ordering
vertex_order roots x y =
    ordering_then (nat_cmp (element_length roots x) (element_length roots y))
    (slice_cmp int_cmp x.entries y.entries)

abbrev pub comes_before : List Vector → Elem → Elem → Bool
comes_before roots x y = is_lt (vertex_order roots x y)

abbrev pub number_of : List Vector → List Elem → Elem → ℕ
number_of roots list e = count_by (λ x. comes_before roots x e) list
