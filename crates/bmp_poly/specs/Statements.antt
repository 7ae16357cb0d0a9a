-- The main laws, as statements. The modulus p is not 0, and r variables are at most the width w of exponents.
--   ListingIsInOrder         the places of the monomials of a degree are the numbers below their count,
--                            in the order of the listing
--   NormalFormExistsOnce     each polynomial has one normal form by a label
--   EqualNormalForms         normal forms are the same exactly where the label divides the difference
--   CongruenceIsKept         congruence by a linear form is an equivalence, which sums, multiples,
--                            monomials and products keep
--   ConstantsAreNotDivided   in degree 0 a linear form divides zero alone
--   ProductsCommute          a b is b a
--   ProductsAssociate        (a b) c is a (b c)
--   OneIsNeutral             the constant 1 times a is a
use Rattle.std.specs.Prelude.{◌≡◌, ℕ, ◌+◌, ◌*◌, ◌<◌, ◌≤◌, ◌↔◌, List}
use Rattle.bmp_poly.specs.Exponents.{IsMonomial, ComesBefore, count, place, exponents}
use Rattle.bmp_poly.specs.Forms.{Form, IsLabel, SameForm, Congruent, LabelDivides, IsNormalForm}
use Rattle.bmp_poly.specs.Shifts.{shift}
use Rattle.bmp_poly.specs.Products.{product}

-- each place below the count has one monomial, and the order of places is that of the listing
pub record IsListedInOrder (w r d : ℕ) : Type 0 where
  pub below : (m : List ℕ) → IsMonomial w r d m → place r m < count r d
  pub monomial : (i : ℕ) → i < count r d → IsMonomial w r d (exponents w r d i)
  pub stands : (i : ℕ) → i < count r d → place r (exponents w r d i) ≡ i
  pub once : (m : List ℕ) → IsMonomial w r d m → exponents w r d (place r m) ≡ m
  pub order :
      (m n : List ℕ) → IsMonomial w r d m → IsMonomial w r d n → ComesBefore m n ↔ place r m < place r n

abbrev pub ListingIsInOrder : Type 0
ListingIsInOrder = (w r d : ℕ) → r ≤ w → IsListedInOrder w r d

pub record HasOneNormalForm (p w r d : ℕ) (c : ℕ → ℕ) (l : ℕ) (a : Form) : Type 0 where
  pub normal : Form
  pub is : IsNormalForm p w r d c l a normal
  pub only : (b : Form) → IsNormalForm p w r d c l a b → SameForm p w r d normal b

abbrev pub NormalFormExistsOnce : Type 0
NormalFormExistsOnce =
    (p w r d l : ℕ) (c : ℕ → ℕ) → 0 < p → r ≤ w → IsLabel p r c l → (a : Form) → HasOneNormalForm p w r d c l a

abbrev pub EqualNormalForms : Type 0
EqualNormalForms =
    (p w r d l : ℕ) (c : ℕ → ℕ) → 0 < p → r ≤ w → IsLabel p r c l →
    (a a' b b' : Form) → IsNormalForm p w r d c l a b → IsNormalForm p w r d c l a' b' →
    SameForm p w r d b b' ↔ Congruent p w r d c a a'

-- polynomials of degree d, congruent by the linear form c
pub record IsCongruence (p r d : ℕ) (c : ℕ → ℕ) : Type 0 where
  pub same : (a b : Form) → SameForm p 6 r d a b → Congruent p 6 r d c a b
  pub turned : (a b : Form) → Congruent p 6 r d c a b → Congruent p 6 r d c b a
  pub chained :
      (a b e : Form) → Congruent p 6 r d c a b → Congruent p 6 r d c b e → Congruent p 6 r d c a e
  pub sums :
      (a b e f : Form) → Congruent p 6 r d c a b → Congruent p 6 r d c e f →
      Congruent p 6 r d c (λ m. a m + e m) (λ m. b m + f m)
  pub multiples :
      (x : ℕ) (a b : Form) → Congruent p 6 r d c a b → Congruent p 6 r d c (λ m. x * a m) (λ m. x * b m)
  pub shifts :
      (k : ℕ) (n : List ℕ) (a b : Form) → IsMonomial 6 r k n → Congruent p 6 r d c a b →
      Congruent p 6 r (d + k) c (shift n a) (shift n b)
  pub products :
      (k : ℕ) (e a b : Form) → Congruent p 6 r d c a b →
      Congruent p 6 r (d + k) c (product 6 r k e a) (product 6 r k e b)

abbrev pub CongruenceIsKept : Type 0
CongruenceIsKept = (p r d : ℕ) (c : ℕ → ℕ) → 0 < p → r ≤ 6 → IsCongruence p r d c

abbrev pub ConstantsAreNotDivided : Type 0
ConstantsAreNotDivided =
    (p w r : ℕ) (c : ℕ → ℕ) (a : Form) → r ≤ w → LabelDivides p w r 0 c a ↔ SameForm p w r 0 a (λ m. 0)

abbrev pub ProductsCommute : Type 0
ProductsCommute =
    (r d e : ℕ) (a b : Form) (h : List ℕ) → r ≤ 6 → IsMonomial 6 r (d + e) h →
    product 6 r d a b h ≡ product 6 r e b a h

abbrev pub ProductsAssociate : Type 0
ProductsAssociate =
    (r d e k : ℕ) (a b c : Form) (h : List ℕ) → r ≤ 6 → IsMonomial 6 r ((d + e) + k) h →
    product 6 r (d + e) (product 6 r d a b) c h ≡ product 6 r d a (product 6 r e b c) h

abbrev pub OneIsNeutral : Type 0
OneIsNeutral =
    (r d : ℕ) (a : Form) (h : List ℕ) → r ≤ 6 → IsMonomial 6 r d h → product 6 r 0 (λ m. 1) a h ≡ a h
