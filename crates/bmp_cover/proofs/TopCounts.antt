-- At the top the one generator, of degree 0, is a basis modulo multiples by monomials of positive degree; and all
-- counts together.
use Rattle.std.proofs.Common.{◌≡◌, ℕ, zero, suc, ◌+◌, ◌*◌, ◌%◌, ◌<◌, ◌≤◌, cond, eqb, ne_eqb, List, [], ◌∷◌, length, refl, sym, ap, ◌∙◌, arith}
use Rattle.std.specs.Prelude.{slice_index}
use Rattle.std.proofs.lemmas.Bool.{cond-false}
use Rattle.bmp_math.specs.Sums.{sum_below}
use Rattle.bmp_math.proofs.SumLemmas.{sum_below-zero, sum_below-suc}
use Rattle.bmp_poly.specs.Exponents.{IsMonomial, count, exponents, zeros}
use Rattle.bmp_poly.specs.Forms.{Form}
use Rattle.bmp_poly.specs.Shifts.{shift}
use Rattle.bmp_poly.specs.Products.{product}
use Rattle.bmp_poly.proofs.PlaceLemmas.{exponents_stand, StandsAt}
use Rattle.bmp_poly.proofs.ProductLemmas.{constant_is_one}
use Rattle.bmp_graph.specs.Graph.{Graph}
use Rattle.bmp_sheaf.specs.Sheaves.{SheafData}
use Rattle.bmp_sheaf.proofs.ShiftLaws.{shift-times}
use Rattle.bmp_sheaf.proofs.ProductLemmas.{product-one}
use Rattle.bmp_cover.specs.Counts.{LowMultiple, low_polynomial, generator_polynomial, TopCountIsDimension}
use Rattle.bmp_cover.specs.Laws.{CountsOfAllAreDimensions}
use Rattle.bmp_cover.proofs.ExampleLemmas.{one_monomial}
use Rattle.bmp_cover.proofs.Counting.{count_is_dimension}

module _ (G : Graph) (F : SheafData) (top : ℕ) (wide : G.rank ≤ 6) (one : F.degrees top ≡ 0 ∷ []) where
  -- the generator has degree 0
  polynomial_is : (d : ℕ) (c : ℕ → ℕ) (m : List ℕ) → generator_polynomial G F top d c m ≡ cond (eqb 0 d) (c 0) 0
  polynomial_is d c m =
      ap (λ (l : List ℕ). sum_below (λ g. cond (eqb (slice_index l g) d) (c g) 0) (length l)) one
      ∙ sum_below-suc (λ g. cond (eqb (slice_index (0 ∷ []) g) d) (c g) 0) 0
      ∙ first
    where
      first : sum_below (λ g. cond (eqb (slice_index (0 ∷ []) g) d) (c g) 0) 0 + cond (eqb 0 d) (c 0) 0
          ≡ cond (eqb 0 d) (c 0) 0
      first = omega (arith, sum_below-zero (λ g. cond (eqb (slice_index (0 ∷ []) g) d) (c g) 0))

  polynomial_above : (k : ℕ) (c : ℕ → ℕ) (m : List ℕ) → generator_polynomial G F top (suc k) c m ≡ 0
  polynomial_above k c m =
      polynomial_is (suc k) c m ∙ cond-false {A = ℕ} (eqb 0 (suc k)) (c 0) 0 (ne_eqb 0 (suc k) (omega arith))

  only_generator : (d g : ℕ) → g < length (F.degrees top) → slice_index (F.degrees top) g ≡ d → (g ≡ 0) × (d ≡ 0)
  only_generator d g below is_new =
      let single : length (F.degrees top) ≡ 1 = ap (λ (l : List ℕ). length l) one in
      let first : g ≡ 0 = omega arith in
      (first, sym is_new ∙ ap (slice_index (F.degrees top)) first ∙ ap (λ (l : List ℕ). slice_index l 0) one)

  -- nothing has a degree below 0
  no_multiple : (low : List (LowMultiple G F top 0)) (m : List ℕ) → low_polynomial G F top 0 low m ≡ 0
  unfolding low_polynomial
  no_multiple [] m = refl
  no_multiple (t ∷ ts) m = absurd (omega (arith, t.positive, t.sizes))

  -- a polynomial of positive degree is the sum of its coefficients times their monomials
  module _ (k : ℕ) (f : Form) where
    at : ℕ → List ℕ
    at i = exponents 6 G.rank (suc k) i

    multiple : (i : ℕ) → i < count G.rank (suc k) → LowMultiple G F top (suc k)
    unfolding at
    multiple i below =
        let stands : StandsAt 6 G.rank (suc k) i (exponents 6 G.rank (suc k) i) =
        exponents_stand 6 G.rank (suc k) i wide below in
        record {
          degree = 0;
          size = suc k;
          positive = omega arith;
          sizes = omega arith;
          monomial = at i;
          is_monomial = stands.monomial;
          polynomial = λ e. f (at i) * 1;
        }

    multiples : (n : ℕ) → n ≤ count G.rank (suc k) → List (LowMultiple G F top (suc k))
    multiples zero within = []
    multiples (suc n) within = multiple n (omega arith) ∷ multiples n (omega arith)

    multiples_sum : (n : ℕ) (within : n ≤ count G.rank (suc k)) (m : List ℕ) →
        low_polynomial G F top (suc k) (multiples n within) m ≡ sum_below (λ i. f (at i) * shift (at i) (λ e. 1) m) n
    unfolding low_polynomial multiples multiple sum_below
    multiples_sum zero within m = refl
    multiples_sum (suc n) within m =
        omega (arith, shift-times (f (at n)) (λ e. 1) (at n) m, multiples_sum n (omega arith) m)

    all_multiples : List (LowMultiple G F top (suc k))
    all_multiples = multiples (count G.rank (suc k)) (omega arith)

    all_is : (m : List ℕ) → IsMonomial 6 G.rank (suc k) m → low_polynomial G F top (suc k) all_multiples m ≡ f m
    unfolding all_multiples product at
    all_is m is = multiples_sum (count G.rank (suc k)) (omega arith) m
        ∙ product-one G.rank (suc k) f (λ e. 1) m wide is (λ n. refl)

  pub top_count_is_dimension : (d : ℕ) → TopCountIsDimension G F top d
  top_count_is_dimension zero = record {
    spanned = λ f. (
      (λ g. f (zeros 6)),
      [],
      λ m is. ap (λ z. z % G.prime) (ap f (constant_is_one G.rank m wide is)
          ∙ omega (arith, polynomial_is 0 (λ g. f (zeros 6)) m, no_multiple [] m)),
    );
    independent = λ c low same g below is_new.
        let own = only_generator 0 g below is_new in
        ap (λ i. c i % G.prime) own.0 ∙ ap (λ z. z % G.prime) (sym (polynomial_is 0 c (zeros 6)))
        ∙ same (zeros 6) (one_monomial G.rank) ∙ ap (λ z. z % G.prime) (no_multiple low (zeros 6));
  }
  top_count_is_dimension (suc k) = record {
    spanned = λ f. (
      (λ g. 0),
      all_multiples k f,
      λ m is. ap (λ z. z % G.prime) (sym (all_is k f m is) ∙ omega (arith, polynomial_above k (λ g. 0) m)),
    );
    independent = λ c low same g below is_new. absurd (let own = only_generator (suc k) g below is_new in omega arith);
  }

pub counts_are_dimensions : CountsOfAllAreDimensions
counts_are_dimensions G F most top some wide is = record {
  at_vertices = λ x d below other up.
      count_is_dimension G F x d wide some (λ e within. is.lifted x e below other (omega arith))
      (λ e less. is.reached x e below other (omega arith)) (is.minimal x d below other up);
  at_top = λ d up. top_count_is_dimension G F top wide is.top_stalk d;
}
