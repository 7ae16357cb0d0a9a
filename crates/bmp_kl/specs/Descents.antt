-- The least right descent of a vertex, by numbers.
--   IsFirstDescent rank partners y d    d has the first simple reflection whose product with vertex y is a smaller
--                                       vertex, and that
use Rattle.std.specs.Prelude.{◌≡◌, ℕ, ◌<◌, ◌≤◌, Option, Some}
use Rattle.bmp_kl.specs.declared.steps.Descent.{Descent}

pub record IsFirstDescent (rank : ℕ) (partners : ℕ → Option ℕ) (y : ℕ) (d : Descent) : Type 0 where
  pub letter : d.letter < rank
  pub product : partners d.letter ≡ Some d.below
  pub lower : d.below < y
  pub first : (k z : ℕ) → k < d.letter → partners k ≡ Some z → y ≤ z
