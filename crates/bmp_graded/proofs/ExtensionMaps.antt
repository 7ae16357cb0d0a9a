-- The linear extension of a list of lifts is a module map.
use Rattle.std.proofs.Common.{◌≡◌, ℕ, suc, ◌+◌, ◌-◌, ◌*◌, ◌%◌, ◌≤◌, true, false, leb, List, [], ◌∷◌, sym, ap, subst, ◌∙◌, inl, inr, arith}
use Rattle.std.proofs.lemmas.Bool.{cases_lt, cond-true, cond-false, lt-leb, le-leb}
use Rattle.bmp_math.specs.Sums.{sum_below}
use Rattle.bmp_math.specs.Matrices.{Matrix, image}
use Rattle.bmp_math.proofs.MatrixLemmas.{image_is_linear}
use Rattle.bmp_poly.specs.Exponents.{IsMonomial, count, exponents}
use Rattle.bmp_math.specs.Vectors.{SameVector, IsLinear}
use Rattle.bmp_graded.specs.Graded.{Graded, IsModule, IsModuleMap}
use Rattle.bmp_graded.specs.Modules.{polynomials, moved, copies, free}
use Rattle.bmp_graded.proofs.GradedLemmas.{linear_zero, cond_linear, narrower_module}
use Rattle.bmp_graded.proofs.ExtensionLaws.{multiple_acts}
use Rattle.bmp_graded.specs.Maps.{multiples, extension}
use Rattle.bmp_graded.proofs.ModuleMaps.{nothing_map, sum_of_maps}

module _ (p r g : ℕ) (wide : r ≤ 6) (M : Graded) (laws : IsModule p r M) (w : ℕ → ℕ) where
  one_linear : (d : ℕ) → IsLinear p ((moved g (polynomials r)).dim d) (M.dim d) (multiples r M g w d)
  unfolding moved polynomials multiples
  one_linear d =
      let a : Matrix = record {
        rows = M.dim d;
        cols = count r (d - g);
        entry = λ j i. M.act (exponents 6 r (d - g) i) g d w j;
      } in
      cond_linear (leb g d) p a.cols a.rows (image a) (λ on. image_is_linear p a)

  -- the law of the act, where both degrees are the generator's and a number
  at_degrees : (m : List ℕ) (k a b d t : ℕ) (u : ℕ → ℕ) → IsMonomial 6 r k m → a + k ≡ b → g + a ≡ d → g + b ≡ t →
      SameVector p (M.dim t)
      (λ j. sum_below (λ i. (polynomials r).act m a b u i * M.act (exponents 6 r b i) g t w j) (count r b))
      (M.act m d t (λ j. sum_below (λ i. u i * M.act (exponents 6 r a i) g d w j) (count r a)))
  at_degrees m k a b d t u is total is_d is_t =
      let Q : ℕ → Type 0 =
      λ y. SameVector p (M.dim y)
      (λ j. sum_below (λ i. (polynomials r).act m a b u i * M.act (exponents 6 r b i) g y w j) (count r b))
      (M.act m d y (λ j. sum_below (λ i. u i * M.act (exponents 6 r a i) g d w j) (count r a))) in
      let P : ℕ → Type 0 =
      λ z. SameVector p (M.dim (g + b))
      (λ j. sum_below (λ i. (polynomials r).act m a b u i * M.act (exponents 6 r b i) g (g + b) w j) (count r b))
      (M.act m z (g + b) (λ j. sum_below (λ i. u i * M.act (exponents 6 r a i) g z w j) (count r a))) in
      subst Q is_t (subst P is_d (multiple_acts r a k b m wide is total p g M laws w u))

  pub one_map : IsModuleMap p r (moved g (polynomials r)) M (multiples r M g w)
  unfolding moved multiples
  one_map = record {
    linear = one_linear;
    acts = λ m k d t v is e j l. elim (cases_lt d g) [
      | inl before ↦
          let off : leb g d ≡ false = lt-leb g d before in
          linear_zero p ((moved g (polynomials r)).dim t) (M.dim t) (multiples r M g w t) (one_linear t)
          ((moved g (polynomials r)).act m d t v)
          (λ i b. ap (λ z. z % p) (cond-false {A = ℕ} (leb g d) ((polynomials r).act m (d - g) (t - g) v i) 0 off))
          j l
          ∙ sym (linear_zero p (M.dim d) (M.dim t) (M.act m d t) (laws.linear m k d t is e) (multiples r M g w d v)
          (λ i b. ap (λ z. z % p)
          (cond-false {A = ℕ} (leb g d)
          (sum_below (λ a. v a * M.act (exponents 6 r (d - g) a) g d w i) (count r (d - g))) 0 off)) j l)
      | inr from ↦
          let on : leb g d ≡ true = le-leb g d from in
          let on_t : leb g t ≡ true = le-leb g t (omega arith) in
          (one_linear t).respects ((moved g (polynomials r)).act m d t v) ((polynomials r).act m (d - g) (t - g) v)
          (λ i b. ap (λ z. z % p) (cond-true {A = ℕ} (leb g d) ((polynomials r).act m (d - g) (t - g) v i) 0 on)) j
          l
          ∙ ap (λ z. z % p)
          (cond-true {A = ℕ} (leb g t)
          (sum_below (λ i. (polynomials r).act m (d - g) (t - g) v i * M.act (exponents 6 r (t - g) i) g t w j)
          (count r (t - g))) 0 on_t)
          ∙ at_degrees m k (d - g) (t - g) d t v is (omega arith) (omega arith) (omega arith) j l
          ∙ sym ((laws.linear m k d t is e).respects (multiples r M g w d v)
          (λ i. sum_below (λ a. v a * M.act (exponents 6 r (d - g) a) g d w i) (count r (d - g)))
          (λ i b. ap (λ z. z % p)
          (cond-true {A = ℕ} (leb g d)
          (sum_below (λ a. v a * M.act (exponents 6 r (d - g) a) g d w i) (count r (d - g))) 0 on)) j l)
    ];
  }

pub extension_map : (p r : ℕ) (M : Graded) (degrees : List ℕ) (ws : ℕ → ℕ → ℕ) → r ≤ 6 → IsModule p r M →
    IsModuleMap p r (free r degrees) M (extension r M degrees ws)
unfolding copies extension
extension_map p r M [] ws wide laws = nothing_map p r M laws
extension_map p r M (g ∷ gs) ws wide laws =
    sum_of_maps p r (moved g (polynomials r)) (free r gs) M (multiples r M g (ws 0))
    (extension r M gs (λ h. ws (suc h))) laws
    (one_map p r g wide M laws (ws 0)) (extension_map p r M gs (λ h. ws (suc h)) wide laws)

-- into a module over these variables and further ones
pub extension_over : (p r r' : ℕ) (M : Graded) (degrees : List ℕ) (ws : ℕ → ℕ → ℕ) → r ≤ r' → r ≤ 6 → IsModule p r' M →
    IsModuleMap p r (free r degrees) M (extension r M degrees ws)
extension_over p r r' M degrees ws fewer wide laws =
    extension_map p r M degrees ws wide (narrower_module p r r' M fewer laws)
