-- The extension of images is linear, takes out monomials, and reads an element's components alone.
use Rattle.std.proofs.Common.{◌≡◌, ℕ, zero, suc, ◌+◌, ◌-◌, ◌*◌, ◌%◌, ◌<◌, ◌≤◌, ◌⊎◌, true, false, cond, eqb, leb, leb-true, List, length, refl, sym, ap, ap₂, ◌∙◌, inl, inr, arith, eq-eqb, ne_eqb}
use Rattle.std.specs.Prelude.{slice_index}
use Rattle.std.proofs.Math.Path.{fun_ext}
use Rattle.std.proofs.lemmas.Bool.{cases_Bool, cases_lt, cond-true, cond-false, lt-leb, le-leb}
use Rattle.bmp_math.specs.Sums.{sum_below}
use Rattle.bmp_math.specs.Congruences.{SameMod}
use Rattle.bmp_math.proofs.SumLemmas.{sum_below_same, sum_below-add, sum_below-mul, sum_below_only, sum_same_mod}
use Rattle.bmp_poly.specs.Exponents.{IsMonomial}
use Rattle.bmp_poly.specs.Forms.{Form}
use Rattle.bmp_poly.specs.Shifts.{shift}
use Rattle.bmp_poly.specs.Products.{product}
use Rattle.bmp_poly.proofs.ProductLemmas.{product-shift, product-one}
use Rattle.bmp_sheaf.specs.Elements.{Element, SameElement, zero_element, monomial_times, extension}
use Rattle.bmp_sheaf.specs.Units.{unit_element}
use Rattle.bmp_sheaf.proofs.ShiftLaws.{shift-zero, shift-sum_below, shift_below}
use Rattle.bmp_sheaf.proofs.FactorLaws.{product-plus, product-times, product_none, product_same}

module _ (r : ℕ) (degrees : List ℕ) (images : ℕ → Element) where
  abbrev degree : ℕ → ℕ
  degree g = slice_index degrees g

  -- what the generator g gives
  abbrev part : ℕ → Element → ℕ → List ℕ → ℕ → ℕ
  part d u h m g = cond (leb (degree g) d) (product 6 r (d - degree g) (u g) (images g h) m) 0

  pub extension-plus : (d : ℕ) (u v : Element) (h : ℕ) (m : List ℕ) →
      extension r degrees images d (λ g n. u g n + v g n) h m ≡ extension r degrees images d u h m + extension r degrees
      images d v h m
  unfolding extension
  extension-plus d u v h m =
      sum_below_same (part d (λ g n. u g n + v g n) h m) (λ g. part d u h m g + part d v h m g) (length degrees)
      (λ g below. elim (leb (degree g) d) as
      (λ b. cond b (product 6 r (d - degree g) (λ n. u g n + v g n) (images g h) m) 0
      ≡ cond b (product 6 r (d - degree g) (u g) (images g h) m) 0 + cond b
      (product 6 r (d - degree g) (v g) (images g h) m) 0) [
        | true ↦ product-plus r (d - degree g) (images g h) m (u g) (v g)
        | false ↦ refl
      ])
      ∙ sum_below-add (part d u h m) (part d v h m) (length degrees)

  pub extension-times : (d x : ℕ) (u : Element) (h : ℕ) (m : List ℕ) →
      extension r degrees images d (λ g n. x * u g n) h m ≡ x * extension r degrees images d u h m
  unfolding extension
  extension-times d x u h m =
      sum_below_same (part d (λ g n. x * u g n) h m) (λ g. x * part d u h m g) (length degrees)
      (λ g below. elim (leb (degree g) d) as (λ b. cond b (product 6 r (d - degree g) (λ n. x * u g n) (images g h) m) 0
      ≡ x * cond b (product 6 r (d - degree g) (u g) (images g h) m) 0) [
        | true ↦ product-times r (d - degree g) (images g h) m x (u g)
        | false ↦ omega arith
      ])
      ∙ sum_below-mul x (part d u h m) (length degrees)

  pub extension-zero : (d h : ℕ) (m : List ℕ) → extension r degrees images d zero_element h m ≡ 0
  extension-zero d h m = extension-times d 0 (λ g n. 0 * 0) h m
      ∙ nothing (extension r degrees images d (λ g n. 0 * 0) h m)
    where
      nothing : (x : ℕ) → 0 * x ≡ 0
      nothing x = omega arith

  pub extension-combination : (d : ℕ) (c : ℕ → ℕ) (u : ℕ → Element) (n h : ℕ) (m : List ℕ) →
      extension r degrees images d (λ g e. sum_below (λ j. c j * u j g e) n) h m
      ≡ sum_below (λ j. c j * extension r degrees images d (u j) h m) n
  unfolding sum_below
  extension-combination d c u zero h m = extension-zero d h m
  extension-combination d c u (suc n) h m =
      extension-plus d (λ g e. sum_below (λ j. c j * u j g e) n) (λ g e. c n * u n g e) h m
      ∙ ap₂ (λ x y. x + y) (extension-combination d c u n h m) (extension-times d (c n) (u n) h m)

  pub extension_same : (p d : ℕ) (u v : Element) → r ≤ 6 → SameElement p r degrees d u v → (h : ℕ) (m : List ℕ) →
      SameMod p (extension r degrees images d u h m) (extension r degrees images d v h m)
  unfolding extension
  extension_same p d u v wide same h m =
      sum_same_mod p (part d u h m) (part d v h m) (length degrees) (λ g below. elim (cases_Bool (leb (degree g) d)) [
        | inl held ↦
            let within : degree g ≤ d = leb-true (degree g) d held in
            ap (λ z. z % p) (cond-true {A = ℕ} (leb (degree g) d) (product 6 r (d - degree g) (u g) (images g h) m) 0
            held)
            ∙ product_same r (d - degree g) (images g h) m p (u g) (v g) wide
            (same g (d - degree g) (below, omega arith))
            ∙ ap (λ z. z % p)
            (sym (cond-true {A = ℕ} (leb (degree g) d) (product 6 r (d - degree g) (v g) (images g h) m) 0 held))
        | inr past ↦ ap (λ z. z % p)
            (cond-false {A = ℕ} (leb (degree g) d) (product 6 r (d - degree g) (u g) (images g h) m) 0 past
            ∙ sym (cond-false {A = ℕ} (leb (degree g) d) (product 6 r (d - degree g) (v g) (images g h) m) 0 past))
      ])

  -- a generator of degree above d has no part in degree d, and none in the monomial's multiple either
  part-monomial : (d k t : ℕ) (n : List ℕ) (u : Element) (h : ℕ) (m : List ℕ) (g : ℕ) → r ≤ 6 → IsMonomial 6 r k n →
      d + k ≡ t → length m ≡ 6 → part t (monomial_times n u) h m g ≡ shift n (λ e. part d u h e g) m
  part-monomial d k t n u h m g wide is_n total long = elim (cases_lt d (degree g)) [
    | inl past ↦
        none (cases_lt t (degree g)) past
        ∙ sym (ap (λ b. shift n (λ e. cond b (product 6 r (d - degree g) (u g) (images g h) e) 0) m)
        (lt-leb (degree g) d past) ∙ shift-zero n m)
    | inr within ↦
        let sizes : t - degree g ≡ k + (d - degree g) = omega arith in
        cond-true {A = ℕ} (leb (degree g) t) (product 6 r (t - degree g) (shift n (u g)) (images g h) m) 0
        (le-leb (degree g) t (omega arith))
        ∙ ap (λ z. product 6 r z (shift n (u g)) (images g h) m) sizes
        ∙ product-shift r k (d - degree g) n m (u g) (images g h) wide is_n long
        ∙ sym (ap (λ b. shift n (λ e. cond b (product 6 r (d - degree g) (u g) (images g h) e) 0) m)
        (le-leb (degree g) d within))
  ]
    where
      none : (t < degree g) ⊎ (degree g ≤ t) → d < degree g → part t (monomial_times n u) h m g ≡ 0
      none (inl above) past =
          cond-false {A = ℕ} (leb (degree g) t) (product 6 r (t - degree g) (shift n (u g)) (images g h) m) 0
          (lt-leb (degree g) t above)
      none (inr below) past =
          cond-true {A = ℕ} (leb (degree g) t) (product 6 r (t - degree g) (shift n (u g)) (images g h) m) 0
          (le-leb (degree g) t below)
          ∙ product_none r (t - degree g) (images g h) m (shift n (u g)) wide
          (λ e is_e. shift_below r k (t - degree g) n e (u g) is_n is_e (omega arith))

  pub extension-monomial : (d k t : ℕ) (n : List ℕ) (u : Element) (h : ℕ) (m : List ℕ) → r ≤ 6 → IsMonomial 6 r k n →
      d + k ≡ t → length m ≡ 6 → extension r degrees images t (monomial_times n u) h m
      ≡ monomial_times n (extension r degrees images d u) h m
  unfolding extension
  extension-monomial d k t n u h m wide is_n total long =
      sum_below_same (part t (monomial_times n u) h m) (λ g. shift n (λ e. part d u h e g) m) (length degrees)
      (λ g below. part-monomial d k t n u h m g wide is_n total long)
      ∙ sym (shift-sum_below (λ g e. part d u h e g) (length degrees) n m)

  -- a generator's own extension is its image
  pub extension-unit : (g h s : ℕ) (m : List ℕ) → r ≤ 6 → g < length degrees → IsMonomial 6 r s m →
      extension r degrees images (degree g) (unit_element g) h m ≡ images g h m
  unfolding extension
  extension-unit g h s m wide below is =
      sum_below_only (part (degree g) (unit_element g) h m) (length degrees) g below
      (λ i within other. elim (cases_Bool (leb (degree i) (degree g))) [
        | inl held ↦
            cond-true {A = ℕ} (leb (degree i) (degree g))
            (product 6 r (degree g - degree i) (unit_element g i) (images i h) m) 0 held
            ∙ product_none r (degree g - degree i) (images i h) m (unit_element g i) wide
            (λ e is_e. cond-false {A = ℕ} (eqb i g) 1 0 (ne_eqb i g other))
        | inr past ↦ cond-false {A = ℕ} (leb (degree i) (degree g))
            (product 6 r (degree g - degree i) (unit_element g i) (images i h) m) 0 past
      ])
      ∙ cond-true {A = ℕ} (leb (degree g) (degree g))
      (product 6 r (degree g - degree g) (unit_element g g) (images g h) m) 0
      (le-leb (degree g) (degree g) (omega arith))
      ∙ ap₂ (λ k (a : Form). product 6 r k a (images g h) m) own one
      ∙ product-one r s (images g h) m wide is
    where
      own : degree g - degree g ≡ 0
      own = omega arith

      one : unit_element g g ≡ (λ (n : List ℕ). 1)
      one = fun_ext (λ n. cond-true {A = ℕ} (eqb g g) 1 0 (eq-eqb g g refl))
