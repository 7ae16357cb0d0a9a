-- An element of degree d in two parts: constants at the generators of degree d, and what stands at generators of lower
-- degrees.
use Rattle.std.proofs.Common.{◌≡◌, ◌≢◌, ℕ, ◌+◌, ◌-◌, ◌*◌, ◌%◌, ◌≤◌, cond, eqb, leb, List, length, sym, ap, ap₂, subst, ◌∙◌, inl, inr, arith, eq-eqb, ne_eqb}
use Rattle.std.specs.Prelude.{slice_index}
use Rattle.std.proofs.Math.Path.{fun_ext}
use Rattle.std.proofs.lemmas.Bool.{cases_Bool, cases_eq, cond-true, cond-false, le-leb}
use Rattle.bmp_math.specs.Sums.{sum_below}
use Rattle.bmp_math.proofs.SumLemmas.{sum_below_same}
use Rattle.bmp_poly.specs.Exponents.{IsMonomial, zeros}
use Rattle.bmp_poly.specs.Forms.{Form}
use Rattle.bmp_poly.specs.Products.{product}
use Rattle.bmp_poly.proofs.ProductLemmas.{constant_is_one, product-one}
use Rattle.bmp_sheaf.specs.Elements.{Element, SameElement, extension}
use Rattle.bmp_sheaf.proofs.FactorLaws.{product-times, product_none}

module _ (degrees : List ℕ) (d : ℕ) where
  -- the number c g at each generator g of degree d, 0 at the others
  abbrev pub constants : (ℕ → ℕ) → Element
  constants c g m = cond (eqb (slice_index degrees g) d) (c g) 0

  -- 0 at the generators of degree d, and u at the others
  abbrev pub remainder : Element → Element
  remainder u g m = cond (eqb (slice_index degrees g) d) 0 (u g m)

  pub two_parts : (p r : ℕ) (u : Element) → r ≤ 6 →
      SameElement p r degrees d u (λ g m. constants (λ i. u i (zeros 6)) g m + remainder u g m)
  two_parts p r u wide g s has m is = ap (λ z. z % p) (elim (cases_eq (slice_index degrees g) d) [
    | inl own ↦
        let least : s ≡ 0 = omega (arith, has.1) in
        let one : u g m ≡ u g (zeros 6) =
        ap (u g) (constant_is_one r m wide (subst (λ k. IsMonomial 6 r k m) least is)) in
        let first : constants (λ i. u i (zeros 6)) g m ≡ u g (zeros 6) =
        cond-true {A = ℕ} (eqb (slice_index degrees g) d) (u g (zeros 6)) 0
        (eq-eqb (slice_index degrees g) d own) in
        let second : remainder u g m ≡ 0 =
        cond-true {A = ℕ} (eqb (slice_index degrees g) d) 0 (u g m) (eq-eqb (slice_index degrees g) d own) in
        joined (u g m) (u g (zeros 6)) (constants (λ i. u i (zeros 6)) g m) (remainder u g m) one first second
    | inr other ↦
        let first : constants (λ i. u i (zeros 6)) g m ≡ 0 =
        cond-false {A = ℕ} (eqb (slice_index degrees g) d) (u g (zeros 6)) 0
        (ne_eqb (slice_index degrees g) d other) in
        let second : remainder u g m ≡ u g m =
        cond-false {A = ℕ} (eqb (slice_index degrees g) d) 0 (u g m) (ne_eqb (slice_index degrees g) d other) in
        alone (u g m) (constants (λ i. u i (zeros 6)) g m) (remainder u g m) first second
  ])
    where
      joined : (x y a b : ℕ) → x ≡ y → a ≡ y → b ≡ 0 → x ≡ a + b
      joined x y a b e f h = omega arith

      alone : (x a b : ℕ) → a ≡ 0 → b ≡ x → x ≡ a + b
      alone x a b e f = omega arith

  module _ (r : ℕ) (images : ℕ → Element) (c : ℕ → ℕ) (h s : ℕ) (m : List ℕ) (wide : r ≤ 6) (is : IsMonomial 6 r s m)
    where
      -- what the generator g gives
      abbrev part : ℕ → ℕ
      part g = cond (leb (slice_index degrees g) d)
          (product 6 r (d - slice_index degrees g) (constants c g) (images g h) m) 0

      own_part : (g : ℕ) → slice_index degrees g ≡ d → part g ≡ c g * images g h m
      own_part g own =
          let none : d - slice_index degrees g ≡ 0 = omega arith in
          let constant : constants c g ≡ (λ (n : List ℕ). c g * 1) =
          fun_ext (λ n. cond-true {A = ℕ} (eqb (slice_index degrees g) d) (c g) 0
          (eq-eqb (slice_index degrees g) d own) ∙ once (c g)) in
          cond-true {A = ℕ} (leb (slice_index degrees g) d)
          (product 6 r (d - slice_index degrees g) (constants c g) (images g h) m) 0
          (le-leb (slice_index degrees g) d (omega arith))
          ∙ ap₂ (λ k (a : Form). product 6 r k a (images g h) m) none constant
          ∙ product-times r 0 (images g h) m (c g) (λ n. 1)
          ∙ ap (λ z. c g * z) (product-one r s (images g h) m wide is)
        where
          once : (x : ℕ) → x ≡ x * 1
          once x = omega arith

      other_part : (g : ℕ) → slice_index degrees g ≢ d → part g ≡ 0
      other_part g other = elim (cases_Bool (leb (slice_index degrees g) d)) [
        | inl held ↦
            cond-true {A = ℕ} (leb (slice_index degrees g) d)
            (product 6 r (d - slice_index degrees g) (constants c g) (images g h) m) 0 held
            ∙ product_none r (d - slice_index degrees g) (images g h) m (constants c g) wide
            (λ n is_n. cond-false {A = ℕ} (eqb (slice_index degrees g) d) (c g) 0
            (ne_eqb (slice_index degrees g) d other))
        | inr past ↦ cond-false {A = ℕ} (leb (slice_index degrees g) d)
            (product 6 r (d - slice_index degrees g) (constants c g) (images g h) m) 0 past
      ]

      -- constants combine the images
      pub extension-constants :
          extension r degrees images d (constants c) h m
          ≡ sum_below (λ g. cond (eqb (slice_index degrees g) d) (c g * images g h m) 0) (length degrees)
      unfolding extension
      extension-constants =
          sum_below_same part (λ g. cond (eqb (slice_index degrees g) d) (c g * images g h m) 0) (length degrees)
          (λ g below. elim (cases_eq (slice_index degrees g) d) [
            | inl own ↦ own_part g own
                ∙ sym (cond-true {A = ℕ} (eqb (slice_index degrees g) d) (c g * images g h m) 0
                (eq-eqb (slice_index degrees g) d own))
            | inr other ↦ other_part g other
                ∙ sym (cond-false {A = ℕ} (eqb (slice_index degrees g) d) (c g * images g h m) 0
                (ne_eqb (slice_index degrees g) d other))
          ])
