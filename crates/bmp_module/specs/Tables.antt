-- Tables of normal forms by a linear form c in r variables whose leading variable is the l-th, modulo p. In the order
-- to read:
--   normal_number p r c l s a i            coefficient i of the normal form of a, of degree s: that of the i-th
--                                          monomial without the l-th variable
--   IsNormalColumn p r c l s t numbers     the numbers of the normal form of the t-th monomial of degree s
--   HasNormalColumns p r c l s n numbers   those of the first n monomials of degree s, one after another
--   HasNormalForms p r c l tables          those of all monomials, for each degree below the number of tables
--   combined p r c l s places v n i        the sum of v k times number i of the normal form of the monomial at place
--                                          `places k`, for k below n
--   ArePlaces r l k m n places             the places of m times the first n monomials of degree k without the l-th of
--                                          r variables
use Rattle.std.specs.Prelude.{◌≡◌, ℕ, ◌+◌, ◌-◌, ◌*◌, ◌%◌, ◌<◌, List, [], length, slice_index, slice_index_or}
use Rattle.bmp_math.specs.Sums.{sum_below}
use Rattle.bmp_poly.specs.Exponents.{count, place, exponents}
use Rattle.bmp_poly.specs.Forms.{Form, unit_form}
use Rattle.bmp_poly.specs.Shifts.{joined}
use Rattle.bmp_graded.specs.NormalForms.{normal_by}
use Rattle.bmp_graded.specs.Quotients.{insert}

abbrev pub normal_number : ℕ → ℕ → (ℕ → ℕ) → ℕ → ℕ → Form → ℕ → ℕ
normal_number p r c l s a i = normal_by p r l c s a (insert l (exponents 5 (r - 1) s i)) % p

module _ (p r : ℕ) (c : ℕ → ℕ) (l : ℕ) where
  pub record IsNormalColumn (s t : ℕ) (numbers : List ℕ) : Type 0 where
    pub sized : length numbers ≡ count (r - 1) s
    pub each : (i : ℕ) → i < count (r - 1) s →
        slice_index numbers i ≡ normal_number p r c l s (unit_form r (exponents 6 r s t)) i

  pub record HasNormalColumns (s n : ℕ) (numbers : List ℕ) : Type 0 where
    pub sized : length numbers ≡ n * count (r - 1) s
    pub each :
        (t i : ℕ) → t < n → i < count (r - 1) s →
        slice_index numbers (t * count (r - 1) s + i) ≡ normal_number p r c l s (unit_form r (exponents 6 r s t)) i

  abbrev pub HasNormalForms : List (List ℕ) → Type 0
  HasNormalForms tables = (s : ℕ) → s < length tables → HasNormalColumns s (count r s) (slice_index_or tables s [])

  abbrev pub combined : ℕ → (ℕ → ℕ) → (ℕ → ℕ) → ℕ → ℕ → ℕ
  combined s places v n i =
      sum_below (λ k. v k * normal_number p r c l s (unit_form r (exponents 6 r s (places k))) i) n

pub record ArePlaces (r l k : ℕ) (m : List ℕ) (n : ℕ) (places : List ℕ) : Type 0 where
  pub sized : length places ≡ n
  pub each : (j : ℕ) → j < n → slice_index places j ≡ place r (joined m (insert l (exponents 5 (r - 1) k j)))
