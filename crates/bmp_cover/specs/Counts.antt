-- The number of generators, and that it is a dimension: modulo positive-degree multiples of boundaries of lower degree,
-- the boundaries of the generators of degree d are a basis of the boundaries of sections. In the order to read:
--   generators_in F x d            how many generators of degree d the stalk at x has
--   LowTerm, low_sum                 a monomial of positive degree and a section that it takes to degree d; a sum of
--                                    such multiples
--   generator_boundary G F x d c     the sum of c g times the boundary of the generator g, over the generators g of
--                                    degree d
--   CountIsDimension G F x d         such sums and low sums give all boundaries of sections; such a sum that is a low
--                                    sum's boundary has only coefficients 0
--   LowMultiple, low_polynomial      the same at the top, where the boundary of an element is its one polynomial
--   TopCountIsDimension G F top d    the count at the top, where all polynomials are boundaries
--   CountsAreDimensions G F most top the counts of all vertices, in each degree up to most
-- Boundaries are compared edge by edge modulo the labels, so the statements are true of representatives.
use Rattle.std.specs.Prelude.{◌≡◌, ◌≢◌, ℕ, ◌+◌, ◌*◌, ◌<◌, ◌≤◌, ◌==◌, if◌then◌else◌, List, [], ◌∷◌, length, slice_index, count_by}
use Rattle.bmp_math.specs.Sums.{sum_below}
use Rattle.bmp_math.specs.Congruences.{SameMod}
use Rattle.bmp_poly.specs.Exponents.{IsMonomial}
use Rattle.bmp_poly.specs.Forms.{Form, SameForm}
use Rattle.bmp_poly.specs.Shifts.{shift}
use Rattle.bmp_graph.specs.Graph.{Graph, vertex_count}
use Rattle.bmp_sheaf.specs.Elements.{monomial_times}
use Rattle.bmp_sheaf.specs.Sheaves.{SheafData, Tuple, Boundary, boundary_of_tuple, SameBoundary}
use Rattle.bmp_sections.specs.Sections.{IsSection, above}

abbrev pub generators_in : SheafData → ℕ → ℕ → ℕ
generators_in F x d = count_by (λ e. e == d) (F.degrees x)

module _ (G : Graph) (F : SheafData) (x d : ℕ) where
  -- the degree of the section and that of the monomial make d
  pub record LowTerm : Type 0 where
    pub degree : ℕ
    pub size : ℕ
    pub positive : 0 < size
    pub sizes : degree + size ≡ d
    pub monomial : List ℕ
    pub is_monomial : IsMonomial 6 G.rank size monomial
    pub values : Tuple
    pub is_section : IsSection G F (above G x) degree values

  -- the coefficient of each multiple is 1, since a section may be multiplied by any number
  unfoldable pub low_sum : List LowTerm → Tuple
  low_sum [] y g m = 0
  low_sum (t ∷ ts) y g m = monomial_times t.monomial (t.values y) g m + low_sum ts y g m

  abbrev pub generator_boundary : (ℕ → ℕ) → Boundary
  generator_boundary c e h m =
      sum_below (λ g. if slice_index (F.degrees x) g == d then c g * F.lift e g h m else 0) (length (F.degrees x))

  pub record CountIsDimension : Type 0 where
    pub spanned :
        (s : Tuple) → IsSection G F (above G x) d s →
        (c : ℕ → ℕ) × (low : List LowTerm)
        × SameBoundary G F x d (boundary_of_tuple G s)
        (λ e h m. generator_boundary c e h m + boundary_of_tuple G (low_sum low) e h m)
    pub independent :
        (c : ℕ → ℕ) (low : List LowTerm) →
        SameBoundary G F x d (generator_boundary c) (boundary_of_tuple G (low_sum low)) →
        (g : ℕ) → g < length (F.degrees x) → slice_index (F.degrees x) g ≡ d → SameMod G.prime (c g) 0

module _ (G : Graph) (F : SheafData) (top d : ℕ) where
  pub record LowMultiple : Type 0 where
    pub degree : ℕ
    pub size : ℕ
    pub positive : 0 < size
    pub sizes : degree + size ≡ d
    pub monomial : List ℕ
    pub is_monomial : IsMonomial 6 G.rank size monomial
    pub polynomial : Form

  unfoldable pub low_polynomial : List LowMultiple → Form
  low_polynomial [] m = 0
  low_polynomial (t ∷ ts) m = shift t.monomial t.polynomial m + low_polynomial ts m

  -- the boundary of a generator of the top, of degree d, is the number 1
  abbrev pub generator_polynomial : (ℕ → ℕ) → Form
  generator_polynomial c m =
      sum_below (λ g. if slice_index (F.degrees top) g == d then c g else 0) (length (F.degrees top))

  pub record TopCountIsDimension : Type 0 where
    pub spanned :
        (f : Form) → (c : ℕ → ℕ) × (low : List LowMultiple) ×
        SameForm G.prime 6 G.rank d f (λ m. generator_polynomial c m + low_polynomial low m)
    pub independent :
        (c : ℕ → ℕ) (low : List LowMultiple) → SameForm G.prime 6 G.rank d (generator_polynomial c) (low_polynomial low)
        →
        (g : ℕ) → g < length (F.degrees top) → slice_index (F.degrees top) g ≡ d → SameMod G.prime (c g) 0

pub record CountsAreDimensions (G : Graph) (F : SheafData) (most top : ℕ) : Type 0 where
  pub at_vertices : (x d : ℕ) → x < vertex_count G → x ≢ top → d ≤ most → CountIsDimension G F x d
  pub at_top : (d : ℕ) → d ≤ most → TopCountIsDimension G F top d
