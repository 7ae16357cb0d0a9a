-- The extension of images, term by term.
use Rattle.std.specs.Prelude.{slice_index}
use Rattle.std.proofs.Common.{◌≡◌, ℕ, ◌+◌, ◌-◌, cond, leb, List, [], ◌∷◌, ap, ◌∙◌, arith}
use Rattle.std.proofs.lemmas.Bool.{cond-true, le-leb}
use Rattle.bmp_math.proofs.SumLemmas.{sum_below-zero, sum_below-suc}
use Rattle.bmp_poly.specs.Forms.{Form}
use Rattle.bmp_poly.specs.Products.{product}
use Rattle.bmp_sheaf.specs.Elements.{Element, extension}

-- the part of a generator of degree 0
term_of_least : (r d : ℕ) (a b : Form) (m : List ℕ) → cond (leb 0 d) (product 6 r (d - 0) a b m) 0 ≡ product 6 r d a b m
term_of_least r d a b m =
    let whole : d - 0 ≡ d = omega arith in
    cond-true {A = ℕ} (leb 0 d) (product 6 r (d - 0) a b m) 0 (le-leb 0 d (omega arith))
    ∙ ap (λ k. product 6 r k a b m) whole

-- from one generator of degree 0
pub extension_one : (r d : ℕ) (images : ℕ → Element) (u : Element) (h : ℕ) (m : List ℕ) →
    extension r (0 ∷ []) images d u h m ≡ product 6 r d (u 0) (images 0 h) m
unfolding extension
extension_one r d images u h m =
    let f : ℕ → ℕ = λ g. cond (leb (slice_index (0 ∷ []) g) d)
    (product 6 r (d - slice_index (0 ∷ []) g) (u g) (images g h) m) 0 in
    let first : f 0 ≡ product 6 r d (u 0) (images 0 h) m = term_of_least r d (u 0) (images 0 h) m in
    sum_below-suc f 0 ∙ omega (arith, sum_below-zero f, first)

-- from two generators of degree 0
pub extension_two : (r d : ℕ) (images : ℕ → Element) (u : Element) (h : ℕ) (m : List ℕ) →
    extension r (0 ∷ 0 ∷ []) images d u h m ≡ product 6 r d (u 0) (images 0 h) m + product 6 r d (u 1) (images 1 h) m
unfolding extension
extension_two r d images u h m =
    let f : ℕ → ℕ = λ g. cond (leb (slice_index (0 ∷ 0 ∷ []) g) d)
    (product 6 r (d - slice_index (0 ∷ 0 ∷ []) g) (u g) (images g h) m) 0 in
    let first : f 0 ≡ product 6 r d (u 0) (images 0 h) m = term_of_least r d (u 0) (images 0 h) m in
    let second : f 1 ≡ product 6 r d (u 1) (images 1 h) m = term_of_least r d (u 1) (images 1 h) m in
    sum_below-suc f 1 ∙ omega (arith, sum_below-suc f 0, sum_below-zero f, first, second)
