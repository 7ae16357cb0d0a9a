-- A coefficient of a monomial times a polynomial.
use Rattle.std.proofs.Common.{◌≡◌, ℕ, ◌+◌, ◌-◌, ◌<◌, ◌≤◌, true, false, leb, List, length, get_or, sym, ap, ◌∙◌, inl, inr, arith}
use Rattle.std.proofs.lemmas.Bool.{cases_Bool, cases_lt, cond-true, cond-false, lt-leb, le-leb}
use Rattle.std.specs.List.{sum}
use Rattle.bmp_poly.specs.Exponents.{IsMonomial, count, place, exponents}
use Rattle.bmp_poly.specs.Coefficients.{coefficient}
use Rattle.bmp_poly.proofs.PlaceLemmas.{exponents_stand, place_below, StandsAt}
use Rattle.bmp_poly.proofs.CoefficientLemmas.{coefficient_read}
use Rattle.bmp_poly.specs.Shifts.{contains, less, shift}
use Rattle.bmp_graded.specs.Modules.{polynomials, moved}
use Rattle.bmp_poly.proofs.ShiftLemmas.{sum-less, less_monomial}
use Rattle.bmp_graded.proofs.CopiesLemmas.{moved_dim, polynomials_dim}

-- what is left of the monomial at place i when it is divided by m
pub record IsRest (r degree : ℕ) (m rest : List ℕ) : Type 0 where
  pub fits : sum m ≤ degree
  pub monomial : IsMonomial 6 r (degree - sum m) rest
  pub below : place r rest < count r (degree - sum m)

pub rest_is : (r degree i : ℕ) (e m rest : List ℕ) → r ≤ 6 → i < count r degree → e ≡ exponents 6 r degree i →
    IsMonomial 6 r (sum m) m → (contains e m ≡ true) × (rest ≡ less e m) → IsRest r degree m rest
rest_is r degree i e m rest wide inside e_is is_m division =
    let stands : StandsAt 6 r degree i (exponents 6 r degree i) = exponents_stand 6 r degree i wide inside in
    let is_e : IsMonomial 6 r degree e = rw e_is stands.monomial in
    let total : sum (less e m) + sum m ≡ sum e = sum-less e m (is_e.long ∙ sym is_m.long) division.0 in
    let fits : sum m ≤ degree = omega (arith, is_e.size) in
    let is_rest : IsMonomial 6 r (degree - sum m) rest =
    rw division.1 (less_monomial 6 r (degree - sum m) (sum m) degree e m is_e is_m (omega arith) division.0) in
    record { fits = fits; monomial = is_rest; below = place_below 6 r (degree - sum m) rest wide is_rest }

pub multiple_read : {E : Type 0} (num : E → ℕ) (r degree i index : ℕ) (e m rest : List ℕ) (block : List E) (x : E) →
    e ≡ exponents 6 r degree i → (contains e m ≡ true) × (rest ≡ less e m) → index ≡ place r rest →
    index < length block → x ≡ get_or block index x →
    num x ≡ shift m (λ e. coefficient num block (place r e)) (exponents 6 r degree i)
multiple_read num r degree i index e m rest block x e_is division index_is inside x_is =
    sym (ap (shift m (λ e. coefficient num block (place r e))) (sym e_is)
    ∙ cond-true {A = ℕ} (contains e m) (coefficient num block (place r (less e m))) 0 division.0
    ∙ ap (λ z. coefficient num block (place r z)) (sym division.1) ∙ ap (coefficient num block) (sym index_is)
    ∙ coefficient_read num block index x inside x_is)

-- a monomial of lower degree is not divisible
contains_short : (e m : List ℕ) → length e ≡ length m → sum e < sum m → contains e m ≡ false
contains_short e m same short = elim (cases_Bool (contains e m)) [
  | inl holds ↦ absurd (let whole = sum-less e m same holds in omega arith)
  | inr fails ↦ fails
]

pub moved_act : (r g d i : ℕ) (m : List ℕ) (v : ℕ → ℕ) → r ≤ 6 → IsMonomial 6 r (sum m) m → g ≤ d + sum m →
    i < count r ((d + sum m) - g) → shift m (λ e. v (place r e)) (exponents 6 r ((d + sum m) - g) i)
    ≡ (moved g (polynomials r)).act m d (d + sum m) v i
unfolding moved polynomials
moved_act r g d i m v wide is_m from inside = elim (cases_lt d g) [
  | inl early ↦
      let stands : StandsAt 6 r ((d + sum m) - g) i (exponents 6 r ((d + sum m) - g) i) =
      exponents_stand 6 r ((d + sum m) - g) i wide inside in
      let short : sum (exponents 6 r ((d + sum m) - g) i) < sum m = omega (arith, stands.monomial.size) in
      cond-false {A = ℕ} (contains (exponents 6 r ((d + sum m) - g) i) m)
      (v (place r (less (exponents 6 r ((d + sum m) - g) i) m))) 0
      (contains_short (exponents 6 r ((d + sum m) - g) i) m (stands.monomial.long ∙ sym is_m.long) short)
      ∙ sym (cond-false {A = ℕ} (leb g d) (shift m (λ e. v (place r e)) (exponents 6 r ((d + sum m) - g) i)) 0
      (lt-leb g d early))
  | inr late ↦ sym (cond-true {A = ℕ} (leb g d) (shift m (λ e. v (place r e)) (exponents 6 r ((d + sum m) - g) i)) 0
      (le-leb g d late))
]

-- a block has the size that its polynomial's degree asks
pub block_sized : (r g d s e n : ℕ) → g ≤ d + s → n ≡ (moved g (polynomials r)).dim d → e + s ≡ (d + s) - g →
    n ≡ count r e
block_sized r g d s e n from n_is e_is =
    let le : g ≤ d = omega arith in
    let same : d - g ≡ e = omega arith in
    n_is ∙ moved_dim (polynomials r) g d le ∙ polynomials_dim r (d - g) ∙ ap (count r) same
