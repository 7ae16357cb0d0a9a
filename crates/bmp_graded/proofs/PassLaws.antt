-- Free modules modulo a label are modules.
use Rattle.std.proofs.Common.{◌≡◌, ℕ, zero, suc, ◌+◌, ◌-◌, ◌*◌, ◌%◌, ◌<◌, ◌≤◌, List, get_or, refl, sym, ap, subst, ◌∙◌, inl, inr, arith, eq-eqb, ne_eqb}
use Rattle.std.proofs.lemmas.Bool.{cases_eq}
use Rattle.std.proofs.Math.Nat.{mod-eq_of_lt}
use Rattle.bmp_poly.specs.Coordinates.{IsLeading}
use Rattle.bmp_math.specs.Congruences.{SameMod}
use Rattle.bmp_math.proofs.CongruenceLemmas.{same_add, same_mul, same_past}
use Rattle.bmp_poly.specs.Exponents.{IsMonomial, count, place, exponents}
use Rattle.bmp_poly.specs.Forms.{Form, times_label, unit_form, lowered, IsLabel, SameForm, IsNormalForm}
use Rattle.bmp_poly.proofs.PlaceLemmas.{exponents_stand, StandsAt}
use Rattle.bmp_poly.proofs.LabelLemmas.{congruent_refl, congruent_sym, congruent_trans}
use Rattle.bmp_poly.proofs.NormalForms.{pure_congruent_same}
use Rattle.bmp_poly.proofs.Reducing.{ReducedBelow, reduced_start, reduced_past, reduced_more, reduced_end}
use Rattle.bmp_graded.specs.Graded.{IsModule}
use Rattle.bmp_graded.proofs.GradedLemmas.{copies_is_module}
use Rattle.bmp_graded.specs.Quotients.{reduced, quotient}
use Rattle.bmp_graded.proofs.ReducedLaws.{reduced_is_module}
use Rattle.bmp_graded.specs.NormalForms.{HasInverses, inverse_below, pass, normal_by}
use Rattle.bmp_graded.specs.Statements.{QuotientsAreModules, NormalFormsAreNormal}

inverse_found : (p x n m : ℕ) → m < n → (x * m) % p ≡ 1 → (x * inverse_below p x n) % p ≡ 1
unfolding inverse_below
inverse_found p x zero m l h = absurd (omega arith)
inverse_found p x (suc n) m l h =
    elim (cases_eq ((x * n) % p) 1) [
      | inl here ↦ rw (eq-eqb ((x * n) % p) 1 here) here
      | inr other ↦ rw (ne_eqb ((x * n) % p) 1 other) (inverse_found p x n m (below other) h)
    ]
  where
    below : ((x * n) % p ≡ 1 → ⊥) → m < n
    below other = elim (cases_eq m n)
        [ inl same ↦ absurd (other (ap (λ z. (x * z) % p) (sym same) ∙ h)) | inr apart ↦ omega arith ]

module _ (q r d l : ℕ) (c : ℕ → ℕ) (label : IsLabel (suc q) r c l) (wide : r ≤ 6)
    (one : SameMod (suc q) (inverse_below (suc q) (c l) (suc q) * c l) 1) (a : Form) where
  cleared : (t : ℕ) → SameMod (suc q) (t + ((suc q - 1) * (t * inverse_below (suc q) (c l) (suc q))) * c l) 0
  cleared t =
      let i = inverse_below (suc q) (c l) (suc q) in
      let less_one : suc q - 1 ≡ q = omega arith in
      let turned : (q * (t * i)) * c l ≡ (q * t) * (i * c l) = omega arith in
      let whole : t + (q * t) * 1 ≡ 0 + suc q * t = omega arith in
      ap (λ z. (t + (z * (t * i)) * c l) % suc q) less_one ∙ ap (λ z. (t + z) % suc q) turned
      ∙ same_add (suc q) t t ((q * t) * (i * c l)) ((q * t) * 1) refl
      (same_mul (suc q) (q * t) (q * t) (i * c l) 1 refl one) ∙ ap (λ z. z % suc q) whole ∙ same_past (suc q) 0 t

  pass_reduces : (n : ℕ) → n ≤ count r d → ReducedBelow (suc q) 6 r d c l n a (pass (suc q) r l c d a n)
  unfolding pass
  pass_reduces zero le = reduced_start q 6 r d l c label wide a
  pass_reduces (suc n) le =
      let stands : StandsAt 6 r d n (exponents 6 r d n) = exponents_stand 6 r d n wide (omega arith) in
      let so_far : ReducedBelow (suc q) 6 r d c l (place r (exponents 6 r d n)) a (pass (suc q) r l c d a n) =
      rw stands.place_is (pass_reduces n (omega arith)) in
      let next : suc n ≡ place r (exponents 6 r d n) + 1 = omega (arith, stands.place_is) in
      let s = (suc q - 1) * (pass (suc q) r l c d a n (exponents 6 r d n) * inverse_below (suc q) (c l) (suc q)) in
      let done : ReducedBelow (suc q) 6 r d c l (place r (exponents 6 r d n) + 1) a (pass (suc q) r l c d a (suc n)) =
      elim (cases_eq (get_or (exponents 6 r d n) l 0) 0) [
        | inl none ↦ rw (eq-eqb (get_or (exponents 6 r d n) l 0) 0 none)
            (reduced_past q 6 r d l c label wide a (pass (suc q) r l c d a n) (exponents 6 r d n) stands.monomial none
            so_far)
        | inr some ↦ rw (ne_eqb (get_or (exponents 6 r d n) l 0) 0 some)
            (reduced_more q 6 r d l c label wide a (pass (suc q) r l c d a n)
            (λ m. pass (suc q) r l c d a n m + s * times_label r c (unit_form r (lowered l (exponents 6 r d n))) m)
            (exponents 6 r d n) s stands.monomial (omega arith) (cleared (pass (suc q) r l c d a n (exponents 6 r d n)))
            (λ m is. refl) so_far)
      ] in
      let P : ℕ → Type 0 = λ z. ReducedBelow (suc q) 6 r d c l z a (pass (suc q) r l c d a (suc n)) in
      subst P (sym next) done

pub normal_by_is : (q r l : ℕ) (c : ℕ → ℕ) → IsLabel (suc q) (suc r) c l → suc r ≤ 6 →
    SameMod (suc q) (inverse_below (suc q) (c l) (suc q) * c l) 1 → (d : ℕ) (a : Form) →
    IsNormalForm (suc q) 6 (suc r) d c l a (normal_by (suc q) (suc r) l c d a)
normal_by_is q r l c label wide one d a =
    reduced_end q 6 (suc r) d l c label wide a (normal_by (suc q) (suc r) l c d a)
    (pass_reduces q (suc r) d l c label wide one a (count (suc r) d) (omega arith))

pub quotient_is_module : (q r l : ℕ) (c : ℕ → ℕ) (degrees : List ℕ) → IsLabel (suc q) (suc r) c l → suc r ≤ 6 →
    SameMod (suc q) (inverse_below (suc q) (c l) (suc q) * c l) 1 →
    IsModule (suc q) (suc r) (quotient (suc q) r l c degrees)
quotient_is_module q r l c degrees label wide one =
    copies_is_module (suc q) (suc r) (reduced r l (normal_by (suc q) (suc r) l c)) degrees
    (reduced_is_module q r l c label wide (normal_by (suc q) (suc r) l c) (normal_by_is q r l c label wide one))

-- what holds of p and r for each label over a field, in the form that the laws above take
pub label_cases : (P : ℕ → ℕ → Type 0) (p r l : ℕ) (coords : List ℕ) → 2 ≤ p → HasInverses p → IsLeading p r l coords →
    ((q r : ℕ) → IsLabel (suc q) (suc r) (λ k. get_or coords k 0) l → suc r ≤ 6 →
    SameMod (suc q) (inverse_below (suc q) (get_or coords l 0) (suc q) * get_or coords l 0) 1 → P (suc q) (suc r)) →
    P p r
label_cases P zero r l coords two inverses leads f = absurd (omega arith)
label_cases P (suc q) zero l coords two inverses leads f = absurd (let h : l < 0 = leads.here in omega arith)
label_cases P (suc q) (suc r) l coords two inverses leads f =
    let m = inverses (get_or coords l 0) ((leads.fits l).0 leads.here) leads.first.not_zero in
    let found : (get_or coords l 0 * inverse_below (suc q) (get_or coords l 0) (suc q)) % suc q ≡ 1 =
    inverse_found (suc q) (get_or coords l 0) (suc q) m.0 m.1 m.2 in
    let turned : inverse_below (suc q) (get_or coords l 0) (suc q) * get_or coords l 0
    ≡ get_or coords l 0 * inverse_below (suc q) (get_or coords l 0) (suc q) = omega arith in
    let one : SameMod (suc q) (inverse_below (suc q) (get_or coords l 0) (suc q) * get_or coords l 0) 1 =
    ap (λ z. z % suc q) turned ∙ found ∙ sym (mod-eq_of_lt two) in
    f q r (record {
      here = leads.here;
      before = leads.first.before;
      inverse = (inverse_below (suc q) (get_or coords l 0) (suc q), one);
    }) leads.rank one

pub quotients_are_modules : QuotientsAreModules
quotients_are_modules p r l coords degrees two inverses leads =
    label_cases (λ p r. IsModule p r (quotient p (r - 1) l (λ k. get_or coords k 0) degrees)) p r l coords two inverses
    leads
    (λ q r label wide one. let less_one : suc r - 1 ≡ r = omega arith in
    rw less_one (quotient_is_module q r l (λ k. get_or coords k 0) degrees label wide one))

pub normal_forms_are_normal : NormalFormsAreNormal
normal_forms_are_normal p r l coords d a two inverses leads =
    label_cases (λ p r. IsNormalForm p 6 r d (λ k. get_or coords k 0) l a
    (normal_by p r l (λ k. get_or coords k 0) d a)) p r l coords two inverses leads
    (λ q r label wide one. normal_by_is q r l (λ k. get_or coords k 0) label wide one d a)

-- any normal form of a has the numbers of the one that `normal_by` makes
pub normal_number : (p r l : ℕ) (coords : List ℕ) (d : ℕ) (a b : Form) → 2 ≤ p → HasInverses p →
    IsLeading p r l coords → IsNormalForm p 6 r d (λ k. get_or coords k 0) l a b →
    SameForm p 6 r d b (normal_by p r l (λ k. get_or coords k 0) d a)
normal_number p r l coords d a b two inverses leads =
    label_cases (λ p r. IsNormalForm p 6 r d (λ k. get_or coords k 0) l a b →
    SameForm p 6 r d b (normal_by p r l (λ k. get_or coords k 0) d a)) p r l coords two inverses leads
    (λ q r label wide one is.
    let made : IsNormalForm (suc q) 6 (suc r) d (λ k. get_or coords k 0) l a
    (normal_by (suc q) (suc r) l (λ k. get_or coords k 0) d a) =
    normal_by_is q r l (λ k. get_or coords k 0) label wide one d a in
    pure_congruent_same q 6 (suc r) d l (λ k. get_or coords k 0) label wide b
    (normal_by (suc q) (suc r) l (λ k. get_or coords k 0) d a) is.pure made.pure
    (congruent_trans (suc q) 6 (suc r) d (λ k. get_or coords k 0) b a
    (normal_by (suc q) (suc r) l (λ k. get_or coords k 0) d a)
    (congruent_sym q 6 (suc r) d (λ k. get_or coords k 0) a b is.congruent) made.congruent))

-- the same polynomials have the same normal forms
pub normal_respects : (p r l : ℕ) (coords : List ℕ) (d : ℕ) (a b : Form) → 2 ≤ p → HasInverses p →
    IsLeading p r l coords → SameForm p 6 r d a b → SameForm p 6 r d (normal_by p r l (λ k. get_or coords k 0) d a)
    (normal_by p r l (λ k. get_or coords k 0) d b)
normal_respects p r l coords d a b two inverses leads same =
    let made : IsNormalForm p 6 r d (λ k. get_or coords k 0) l a (normal_by p r l (λ k. get_or coords k 0) d a) =
    normal_forms_are_normal p r l coords d a two inverses leads in
    normal_number p r l coords d b (normal_by p r l (λ k. get_or coords k 0) d a) two inverses leads
    (record {
      pure = made.pure;
      congruent = congruent_trans p 6 r d (λ k. get_or coords k 0) b a (normal_by p r l (λ k. get_or coords k 0) d a)
          (congruent_refl p 6 r d (λ k. get_or coords k 0) b a (λ m is. sym (same m is))) made.congruent;
    })

-- the laws of a quotient over a field of p elements, which is the label's prime
pub quotient_over : (p s r l : ℕ) (coords degrees : List ℕ) → p ≡ s → 2 ≤ p → HasInverses p → IsLeading s r l coords →
    IsModule p r (quotient s (r - 1) l (λ k. get_or coords k 0) degrees)
quotient_over p s r l coords degrees same two inverses leads =
    rw (← same) (quotients_are_modules p r l coords degrees two inverses (rw (← same) at leads))

-- a number below p that a normal form of a has, by `normal_by`
pub normal_value : (p s r l : ℕ) (coords : List ℕ) (d : ℕ) (a b : Form) (e : List ℕ) (x : ℕ) → p ≡ s → 2 ≤ p →
    HasInverses p → IsLeading s r l coords → IsNormalForm s 6 r d (λ k. get_or coords k 0) l a b → IsMonomial 6 r d e →
    x ≡ b e → x < p → x ≡ normal_by s r l (λ k. get_or coords k 0) d a e % p
normal_value p s r l coords d a b e x same two inverses leads is is_e x_is small =
    let leads_p : IsLeading p r l coords = rw (← same) at leads in
    let is_p : IsNormalForm p 6 r d (λ k. get_or coords k 0) l a b = rw (← same) at is in
    let agree : SameMod p (b e) (normal_by p r l (λ k. get_or coords k 0) d a e) =
    normal_number p r l coords d a b two inverses leads_p is_p e is_e in
    sym (mod-eq_of_lt small) ∙ ap (λ z. z % p) x_is ∙ rw (← same) agree

-- one component modulo a label
pub reduced_over : (p s r l : ℕ) (coords : List ℕ) → p ≡ s → 2 ≤ p → HasInverses p → IsLeading s r l coords →
    IsModule p r (reduced (r - 1) l (normal_by s (suc (r - 1)) l (λ k. get_or coords k 0)))
reduced_over p s r l coords same two inverses leads =
    rw (← same) (label_cases
    (λ p r. IsModule p r (reduced (r - 1) l (normal_by p (suc (r - 1)) l (λ k. get_or coords k 0)))) p r l coords
    two inverses (rw (← same) at leads)
    (λ q r label wide one. let less_one : suc r - 1 ≡ r = omega arith in
    rw less_one (reduced_is_module q r l (λ k. get_or coords k 0) label wide
    (normal_by (suc q) (suc r) l (λ k. get_or coords k 0))
    (normal_by_is q r l (λ k. get_or coords k 0) label wide one))))
