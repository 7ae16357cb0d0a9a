-- What a `Filling` is of an interval.
--   IsFilling roots letters list limit low f    f has the interval's steps, and its sums and parts are filled from low
--                                               on
use Rattle.std.specs.Prelude.{◌≡◌, ℕ, List, length}
use Rattle.bmp_roots.specs.RootSystems.{matrix_of, positive_roots_of}
use Rattle.bmp_roots.specs.declared.root_system.Roots.{Roots}
use Rattle.bmp_weyl.specs.declared.elem.Elem.{Elem}
use Rattle.bmp_kl.specs.VertexSteps.{AreSteps}
use Rattle.bmp_kl.specs.BarRows.{HasLiveRows}
use Rattle.bmp_kl.specs.Filled.{IsFilled}
use Rattle.bmp_kl.specs.declared.filling.Filling.{Filling}

pub record IsFilling (roots : Roots) (letters : List ℕ) (list : List Elem) (limit low : ℕ) (f : Filling) : Type 0 where
  pub steps : AreSteps roots letters list f.steps
  pub rows : HasLiveRows (length list) f.rows.values.items f.rows.live.items
  pub row : length f.row.items ≡ 145
  pub tops : length f.tops.items ≡ 37
  pub filled : IsFilled (matrix_of roots) (positive_roots_of roots) list limit low f.sums.items f.parts.items
