-- The laws of intervals, as statements.
--   WordIsOnlyLongest     a vertex of a reduced word is the product of the whole word, or shorter
--   IntervalIsOne         a word has one interval, whatever the order of the positive roots
--   IntervalOfIsOne       the same for two root systems of one matrix
use Rattle.std.specs.Prelude.{◌≡◌, ℕ, ◌<◌, ◌⊎◌, List, length}
use Rattle.bmp_roots.specs.RootPairs.{CartanMatrix, Vector}
use Rattle.bmp_roots.specs.PositiveRoots.{ArePositiveRoots}
use Rattle.bmp_roots.specs.RootSystems.{matrix_of}
use Rattle.bmp_roots.specs.declared.root_system.Roots.{Roots}
use Rattle.bmp_weyl.specs.Words.{IsWord, IsRootSystem, IsReduced}
use Rattle.bmp_weyl.specs.Elements.{IsProduct, element_length}
use Rattle.bmp_weyl.specs.declared.elem.Elem.{Elem}
use Rattle.bmp_interval.specs.Vertices.{IsVertex}
use Rattle.bmp_interval.specs.Intervals.{IsInterval, IsIntervalOf}

abbrev pub WordIsOnlyLongest : Type 0
WordIsOnlyLongest = (m : CartanMatrix) (roots : List Vector) → IsRootSystem m roots
    → (word : List ℕ) → IsWord m word → IsReduced m roots word → (e : Elem) → IsVertex m word e
    → IsProduct m word e ⊎ (element_length roots e < length word)

abbrev pub IntervalIsOne : Type 0
IntervalIsOne = (m : CartanMatrix) (roots others : List Vector) → ArePositiveRoots m roots → ArePositiveRoots m others
    → (word : List ℕ) (list other : List Elem) → IsInterval m roots word list → IsInterval m others word other →
    list ≡ other

abbrev pub IntervalOfIsOne : Type 0
IntervalOfIsOne = (roots others : Roots) → matrix_of roots ≡ matrix_of others
    → (word : List ℕ) (list other : List Elem) → IsIntervalOf roots word list → IsIntervalOf others word other →
    list ≡ other
