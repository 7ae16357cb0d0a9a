-- Lists of all monomials of a degree.
--   IsListing r d ms    ms is the monomials of degree d in r variables, each at its place,
--                       where r is from 1 to 6 and d at most 6
use Rattle.std.specs.Prelude.{◌≡◌, ℕ, ◌<◌, ◌≤◌, List, [], length}
use Rattle.std.specs.List.{slice_index_or}
use Rattle.bmp_poly.specs.Exponents.{count, exponents}

pub record IsListing (r d : ℕ) (ms : List (List ℕ)) : Type 0 where
  pub some : 0 < r
  pub rank : r ≤ 6
  pub degree : d ≤ 6
  pub sized : length ms ≡ count r d
  pub each : (i : ℕ) → i < count r d → slice_index_or ms i [] ≡ exponents 6 r d i
