-- Equal in the quotient: the linear form divides the difference at each generator.
use Rattle.std.proofs.Common.{◌≡◌, ℕ, suc, ◌+◌, ◌-◌, ◌*◌, ◌%◌, ◌≤◌, true, false, cond, leb, ltb, List, [], ◌∷◌, length, get_or, ◌↔◌, zero, ◌<◌, refl, sym, ap, ◌∙◌, inl, inr, arith}
use Rattle.std.proofs.lemmas.Bool.{cases_lt, cond-true, cond-false, lt-leb, le-leb, lt-ltb, le-ltb}
use Rattle.bmp_math.specs.Congruences.{SameMod}
use Rattle.bmp_poly.specs.Exponents.{count, place, exponents}
use Rattle.bmp_poly.specs.Forms.{IsLabel}
use Rattle.bmp_math.specs.Vectors.{SameVector}
use Rattle.bmp_graded.specs.Modules.{polynomials, moved, nothing, both, copies}
use Rattle.bmp_graded.specs.Quotients.{insert, reduced, quotient}
use Rattle.bmp_graded.proofs.ReducedLaws.{projected_congruent, congruent_projected}
use Rattle.bmp_graded.specs.NormalForms.{inverse_below, normal_by}
use Rattle.bmp_graded.proofs.PassLaws.{normal_by_is, label_cases}
use Rattle.bmp_graded.specs.Maps.{blockwise, projection}
use Rattle.bmp_graded.specs.Components.{component, IsSameModulo}
use Rattle.bmp_graded.specs.Statements.{QuotientEqualityIsDivisibility}

module _ (p n m : ℕ) (x y z w : ℕ → ℕ) where
  pub split_first : SameVector p (n + m) (λ j. cond (ltb j n) (x j) (z (j - n))) (λ j. cond (ltb j n) (y j) (w (j - n)))
      → SameVector p n x y
  split_first h j l =
      let on : ltb j n ≡ true = lt-ltb j n l in
      ap (λ a. a % p) (sym (cond-true {A = ℕ} (ltb j n) (x j) (z (j - n)) on)) ∙ h j (omega arith)
      ∙ ap (λ a. a % p) (cond-true {A = ℕ} (ltb j n) (y j) (w (j - n)) on)

  pub split_second :
      SameVector p (n + m) (λ j. cond (ltb j n) (x j) (z (j - n))) (λ j. cond (ltb j n) (y j) (w (j - n))) →
      SameVector p m z w
  split_second h j l =
      let off : ltb (n + j) n ≡ false = le-ltb (n + j) n (omega arith) in
      let back : (n + j) - n ≡ j = omega arith in
      ap (λ a. a % p) (sym (cond-false {A = ℕ} (ltb (n + j) n) (x (n + j)) (z ((n + j) - n)) off ∙ ap z back))
      ∙ h (n + j) (omega arith)
      ∙ ap (λ a. a % p) (cond-false {A = ℕ} (ltb (n + j) n) (y (n + j)) (w ((n + j) - n)) off ∙ ap w back)

  pub join_same : SameVector p n x y → SameVector p m z w → SameVector p (n + m) (λ j. cond (ltb j n) (x j) (z (j - n)))
      (λ j. cond (ltb j n) (y j) (w (j - n)))
  join_same f g j l = elim (cases_lt j n) [
    | inl here ↦ rw (lt-ltb j n here) (f j here)
    | inr there ↦ rw (le-ltb j n there) (g (j - n) (omega arith))
  ]

module _ (q r l : ℕ) (c : ℕ → ℕ) (label : IsLabel (suc q) (suc r) c l) (wide : suc r ≤ 6)
    (one : SameMod (suc q) (inverse_below (suc q) (c l) (suc q) * c l) 1) where
  normal_at : ℕ → (ℕ → ℕ) → ℕ → ℕ
  normal_at d u i = normal_by (suc q) (suc r) l c d (λ e. u (place (suc r) e)) (insert l (exponents 5 r d i))

  same_congruent : (degrees : List ℕ) (d : ℕ) (u v : ℕ → ℕ) →
      SameVector (suc q) ((quotient (suc q) r l c degrees).dim d) (projection (suc q) r l c degrees d u)
      (projection (suc q) r l c degrees d v) → IsSameModulo (suc q) (suc r) c degrees d u v
  unfolding copies blockwise moved reduced both normal_at component
  same_congruent [] d u v same h inside le = absurd (let none : h < 0 = inside in omega arith)
  same_congruent (g ∷ gs) d u v same zero some le =
      let u' : ℕ → ℕ = λ i. u ((moved g (polynomials (suc r))).dim d + i) in
      let v' : ℕ → ℕ = λ i. v ((moved g (polynomials (suc r))).dim d + i) in
      let from : g ≤ d = le in
      let first = split_first (suc q) (cond (leb g d) (count r (d - g)) 0) ((quotient (suc q) r l c gs).dim d)
      (normal_at (d - g) u) (normal_at (d - g) v) (projection (suc q) r l c gs d u')
      (projection (suc q) r l c gs d v') same in
      projected_congruent q r l c label wide (normal_by (suc q) (suc r) l c) (normal_by_is q r l c label wide one)
      (d - g) u v (λ i b. let on : leb g d ≡ true = le-leb g d from in first i (rw on b))
  same_congruent (g ∷ gs) d u v same (suc h) inside le =
      let u' : ℕ → ℕ = λ i. u ((moved g (polynomials (suc r))).dim d + i) in
      let v' : ℕ → ℕ = λ i. v ((moved g (polynomials (suc r))).dim d + i) in
      let below : suc h < suc (length gs) = inside in
      let second = split_second (suc q) (cond (leb g d) (count r (d - g)) 0) ((quotient (suc q) r l c gs).dim d)
      (normal_at (d - g) u) (normal_at (d - g) v) (projection (suc q) r l c gs d u')
      (projection (suc q) r l c gs d v') same in
      same_congruent gs d u' v' second h (omega arith) le

  congruent_same : (degrees : List ℕ) (d : ℕ) (u v : ℕ → ℕ) → IsSameModulo (suc q) (suc r) c degrees d u v →
      SameVector (suc q) ((quotient (suc q) r l c degrees).dim d) (projection (suc q) r l c degrees d u)
      (projection (suc q) r l c degrees d v)
  unfolding copies blockwise moved reduced both nothing normal_at component
  congruent_same [] d u v same = λ j b. refl
  congruent_same (g ∷ gs) d u v same =
      let u' : ℕ → ℕ = λ i. u ((moved g (polynomials (suc r))).dim d + i) in
      let v' : ℕ → ℕ = λ i. v ((moved g (polynomials (suc r))).dim d + i) in
      let some : 0 < suc (length gs) = omega arith in
      join_same (suc q) (cond (leb g d) (count r (d - g)) 0) ((quotient (suc q) r l c gs).dim d) (normal_at (d - g) u)
      (normal_at (d - g) v) (projection (suc q) r l c gs d u') (projection (suc q) r l c gs d v')
      (λ i b. elim (cases_lt d g) [
        | inl before ↦ absurd (let off : leb g d ≡ false = lt-leb g d before in let none = rw off at b in omega arith)
        | inr from ↦ congruent_projected q r l c label wide (normal_by (suc q) (suc r) l c)
            (normal_by_is q r l c label wide one) (d - g) u v (same 0 some from) i
            (let on : leb g d ≡ true = le-leb g d from in rw on at b)
      ])
      (congruent_same gs d u' v' (λ h l le. let below : suc h < suc (length gs) = omega arith in same (suc h) below le))

-- equal modulo the linear form, for the numbers of a label over a field
pub same_modulo : QuotientEqualityIsDivisibility
same_modulo p r l coords degrees d u v two inverses leads =
    label_cases (λ p r. SameVector p ((quotient p (r - 1) l (λ k. get_or coords k 0) degrees).dim d)
    (projection p (r - 1) l (λ k. get_or coords k 0) degrees d u)
    (projection p (r - 1) l (λ k. get_or coords k 0) degrees d v) ↔
    IsSameModulo p r (λ k. get_or coords k 0) degrees d u v)
    p r l coords two inverses leads
    (λ q r label wide one. let less_one : suc r - 1 ≡ r = omega arith in
    rw less_one (
      same_congruent q r l (λ k. get_or coords k 0) label wide one degrees d u v,
      congruent_same q r l (λ k. get_or coords k 0) label wide one degrees d u v,
    ))
