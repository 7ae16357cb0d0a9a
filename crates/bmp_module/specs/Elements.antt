-- Elements of a graded module as lists of coordinates.
--   IsElement is_value M d numbers    the numbers are coordinates of an element of degree d of M: values of the field,
--                                     as many as the dimension; d is at most 6
use Rattle.std.specs.Prelude.{◌≡◌, ℕ, ◌≤◌, List, length, All}
use Rattle.bmp_graded.specs.Graded.{Graded}

pub record IsElement {E : Type 0} (is_value : E → Type 0) (M : Graded) (d : ℕ) (numbers : List E) : Type 0 where
  pub small : d ≤ 6
  pub sized : length numbers ≡ M.dim d
  pub values : All is_value numbers
