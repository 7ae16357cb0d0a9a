-- What a `Steps` is of an interval.
--   AreSteps roots letters list steps    it has the lengths of the vertices and the table of their products
use Rattle.std.specs.Prelude.{◌≡◌, ℕ, ◌*◌, ◌<◌, List, length, map}
use Rattle.bmp_roots.specs.RootSystems.{matrix_of, positive_roots_of}
use Rattle.bmp_roots.specs.declared.root_system.Roots.{Roots}
use Rattle.bmp_weyl.specs.Elements.{element_length, word_of}
use Rattle.bmp_weyl.specs.declared.elem.Elem.{Elem}
use Rattle.bmp_interval.specs.Intervals.{IsIntervalOf}
use Rattle.bmp_kl.specs.VertexProducts.{IsProductAt, partner}
use Rattle.bmp_kl.specs.declared.steps.Steps.{Steps}

pub record AreSteps (roots : Roots) (letters : List ℕ) (list : List Elem) (steps : Steps) : Type 0 where
  pub interval : IsIntervalOf roots letters list
  pub rank : steps.rank ≡ (matrix_of roots).rank
  pub lengths : steps.lengths.items ≡ map (element_length (positive_roots_of roots)) list
  pub places : length steps.products.items ≡ length list * 6
  pub products : (x k : ℕ) → x < length list → k < 6
      → IsProductAt (matrix_of roots) (word_of letters) list x k (partner steps.products.items k x)
