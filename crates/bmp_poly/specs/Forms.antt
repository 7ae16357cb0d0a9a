-- Homogeneous polynomials as functions of exponents, and the multiples of a linear form.
-- A function is asked only at the monomials of the degree that is meant, and its numbers count modulo p.
-- A linear form in r variables is the function c of its coordinates, at places from 0.
--   Form                           a number for each exponents
--   raised k m, lowered k m        one exponent at place k more, and one less
--   times_variable k q             the k-th variable times q
--   times_label r c q              the linear form c times q
--   unit_form r f                  the monomial f as a polynomial: 1 at f, 0 elsewhere
--   IsLabel p r c l                l is the first place where c is not 0, and c l has an inverse modulo p
--   SameForm p w r d a b           a and b are the same polynomial of degree d
--   IsPure p w r d l a             no monomial of a holds the l-th variable
--   Congruent p w r d c a b        the linear form divides a less b: a is b plus the linear form times
--                                  some polynomial
--   LabelDivides p w r d c a       a is the linear form times some polynomial; in degree 0 only 0 is
--   IsNormalForm p w r d c l a b   b is pure, and the linear form divides a less b
use Rattle.std.specs.Prelude.{◌≡◌, ℕ, ◌+◌, ◌-◌, ◌*◌, ◌<◌, ◌==◌, if◌then◌else◌, List, slice_index, slice_set}
use Rattle.bmp_math.specs.Sums.{sum_below}
use Rattle.bmp_math.specs.Congruences.{SameMod}
use Rattle.bmp_poly.specs.Exponents.{IsMonomial, place}

abbrev pub Form : Type 0
Form = List ℕ → ℕ

abbrev pub raised : ℕ → List ℕ → List ℕ
raised k m = slice_set m k (slice_index m k + 1)

abbrev pub lowered : ℕ → List ℕ → List ℕ
lowered k m = slice_set m k (slice_index m k - 1)

-- no monomial of a multiple of the variable lacks the variable
abbrev pub times_variable : ℕ → Form → Form
times_variable k q m = if slice_index m k == 0 then 0 else q (lowered k m)

-- c 0 times the first variable + .. + c (r - 1) times the r-th, times q
unfoldable pub times_label : ℕ → (ℕ → ℕ) → Form → Form
times_label r c q m = sum_below (λ k. c k * times_variable k q m) r

-- 1 at f, 0 elsewhere
abbrev pub unit_form : ℕ → List ℕ → Form
unit_form r f m = if place r m == place r f then 1 else 0

-- a linear form in r variables whose l-th coordinate is its first that is not 0
pub record IsLabel (p r : ℕ) (c : ℕ → ℕ) (l : ℕ) : Type 0 where
  pub here : l < r
  pub before : (k : ℕ) → k < l → c k ≡ 0
  pub inverse : (m : ℕ) × SameMod p (m * c l) 1

module _ (p w r d : ℕ) where
  -- the same polynomial of degree d
  abbrev pub SameForm : Form → Form → Type 0
  SameForm a b = (m : List ℕ) → IsMonomial w r d m → SameMod p (a m) (b m)

  -- no monomial holds the l-th variable
  abbrev pub IsPure : ℕ → Form → Type 0
  IsPure l a = (m : List ℕ) → IsMonomial w r d m → 0 < slice_index m l → SameMod p (a m) 0

  -- the linear form divides a less b
  pub record Congruent (c : ℕ → ℕ) (a b : Form) : Type 0 where
    pub quotient : Form
    pub sums : (m : List ℕ) → IsMonomial w r d m → SameMod p (a m) (b m + times_label r c quotient m)

  -- the linear form divides a
  abbrev pub LabelDivides : (ℕ → ℕ) → Form → Type 0
  LabelDivides c a = Congruent c a (λ m. 0)

  -- b is the normal form of a
  pub record IsNormalForm (c : ℕ → ℕ) (l : ℕ) (a b : Form) : Type 0 where
    pub pure : IsPure l b
    pub congruent : Congruent c a b
