-- Labels: linear forms that are not zero, by their coordinates modulo a prime.
--   prime_of x             the prime of the label x
--   rank_of x              the number of variables
--   coordinates_of x       the six coordinates, 0 past the rank
--   coordinate_of x k      the coordinate at place k, counted from 0
--   leading_of x           the place of the first coordinate that is not 0, counted from 0
--   IsLabelOf p r cs x     x is the label with this prime, rank and coordinates
--   IsFault p r cs e       why there is no such label: e names the first coordinate that does not fit,
--                          or says that all of them fit and are 0
--   DividesForm x d a          x divides a, of degree d
--   IsNormalFormBy x d a b     b is the normal form of a: no monomial of b holds the leading variable,
--                              and x divides a less b
use Rattle.std.specs.Prelude.{◌≡◌, ℕ, List, slice_index}
use Rattle.bmp_poly.specs.Forms.{Form, Congruent, LabelDivides, IsNormalForm}
use Rattle.bmp_poly.specs.Coordinates.{EachFits, IsZero, IsFirstMisfit}
use Rattle.bmp_poly.specs.declared.label.Label.{Label}
use Rattle.bmp_poly.specs.declared.label.LabelFault.{LabelFault}
use Rattle.bmp_poly.specs.declared.label.LabelFault.TheVariants.{Value, Zero}

abbrev pub prime_of : Label → ℕ
prime_of x = x.prime

abbrev pub rank_of : Label → ℕ
rank_of x = x.rank

abbrev pub coordinates_of : Label → List ℕ
coordinates_of x = x.coords

abbrev pub coordinate_of : Label → ℕ → ℕ
coordinate_of x k = slice_index x.coords k

abbrev pub leading_of : Label → ℕ
leading_of x = x.leading

pub record IsLabelOf (p r : ℕ) (coords : List ℕ) (x : Label) : Type 0 where
  pub prime : prime_of x ≡ p
  pub rank : rank_of x ≡ r
  pub coordinates : coordinates_of x ≡ coords

abbrev pub IsFault : ℕ → ℕ → List ℕ → LabelFault → Type 0
IsFault p r coords (Value place) = IsFirstMisfit p r coords place
IsFault p r coords Zero = EachFits p r coords × IsZero coords

abbrev pub DividesForm : Label → ℕ → Form → Type 0
DividesForm x d a = LabelDivides (prime_of x) 6 (rank_of x) d (coordinate_of x) a

abbrev pub IsNormalFormBy : Label → ℕ → Form → Form → Type 0
IsNormalFormBy x d a b = IsNormalForm (prime_of x) 6 (rank_of x) d (coordinate_of x) (leading_of x) a b
