-- Two rows of numbers that are compared place by place.
--   IsFirstDifference left right n d    d is the first of n places where they differ, with the two numbers
use Rattle.std.specs.Prelude.{◌≡◌, ◌≢◌, ℕ, ◌<◌}
use Rattle.bmp_cover.specs.declared.compare.Difference.{Difference}

pub record IsFirstDifference (left right : ℕ → ℕ) (n : ℕ) (d : Difference) : Type 0 where
  pub below : d.place < n
  pub left_is : d.left ≡ left d.place
  pub right_is : d.right ≡ right d.place
  pub differs : d.left ≢ d.right
  pub earlier : (k : ℕ) → k < d.place → left k ≡ right k
