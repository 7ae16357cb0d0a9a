-- One pass over the places makes the normal form.
use Rattle.std.proofs.Common.{◌≡◌, ◌≢◌, ℕ, zero, suc, ◌+◌, ◌*◌, ◌%◌, ◌<◌, ◌≤◌, List, length, get_or, eqb, refl, sym, ap, ◌∙◌, inl, inr, arith, eq-eqb, ne_eqb, get_or-set_same, get_or-set_other}
use Rattle.std.proofs.lemmas.Bool.{cases_eq, cases_lt, cond-true, cond-false}
use Rattle.bmp_math.specs.Congruences.{SameMod}
use Rattle.bmp_math.proofs.CongruenceLemmas.{same_add, same_mul, same_past, mul_zero}
use Rattle.bmp_math.proofs.SumLemmas.{sum_only_mod, sum_zero_mod}
use Rattle.bmp_poly.specs.Exponents.{IsMonomial, place, count, exponents}
use Rattle.bmp_poly.specs.Forms.{Form, times_variable, times_label, raised, lowered, unit_form, Congruent, IsNormalForm, IsLabel}
use Rattle.bmp_poly.specs.Steps.{IsMultipleAdded}
use Rattle.bmp_poly.proofs.PlaceLemmas.{place_below, exponents_stand, StandsAt}
use Rattle.bmp_poly.proofs.MonomialLemmas.{raised_monomial, lowered_monomial, lowered_raised, raised_lowered, exponent_le, same_place, later_place}
use Rattle.bmp_poly.proofs.LabelLemmas.{congruent_refl, congruent_sym, congruent_trans, times_label-mul}

-- as normal as a pass over the first n places makes it
pub record ReducedBelow (p w r d : ℕ) (c : ℕ → ℕ) (l n : ℕ) (a b : Form) : Type 0 where
  pub done : (m : List ℕ) → IsMonomial w r d m → place r m < n → 0 < get_or m l 0 → SameMod p (b m) 0
  pub congruent : Congruent p w r d c a b

module _ (w r d : ℕ) (wide : r ≤ w) (f : List ℕ) (is_f : IsMonomial w r d f) where
  -- the k-th variable times f is 1 at f raised and 0 elsewhere
  pub unit_at : (k : ℕ) → k < r → times_variable k (unit_form r f) (raised k f) ≡ 1
  unit_at k below =
      let long : length f ≡ w = is_f.long in
      let up : get_or (raised k f) k 0 ≡ get_or f k 0 + 1 = get_or-set_same f k (get_or f k 0 + 1) 0 (omega arith) in
      let back : place r (lowered k (raised k f)) ≡ place r f = ap (place r) (lowered_raised k f (omega arith)) in
      cond-false {A = ℕ} (eqb (get_or (raised k f) k 0) 0) 0 (unit_form r f (lowered k (raised k f)))
      (ne_eqb (get_or (raised k f) k 0) 0 (omega arith))
      ∙ cond-true {A = ℕ} (eqb (place r (lowered k (raised k f))) (place r f)) 1 0
      (eq-eqb (place r (lowered k (raised k f))) (place r f) back)

  pub unit_elsewhere : (k : ℕ) (m : List ℕ) → k < r → IsMonomial w r (suc d) m → m ≢ raised k f →
      times_variable k (unit_form r f) m ≡ 0
  unit_elsewhere k m below is other =
      elim (cases_eq (get_or m k 0) 0) [
        | inl none ↦ cond-true {A = ℕ} (eqb (get_or m k 0) 0) 0 (unit_form r f (lowered k m))
            (eq-eqb (get_or m k 0) 0 none)
        | inr some ↦
            let long : length m ≡ w = is.long in
            let down : IsMonomial w r d (lowered k m) = lowered_monomial w r d k m wide below (omega arith) is in
            let apart : place r (lowered k m) ≢ place r f =
            λ e. other (sym (raised_lowered k m (omega arith) (omega arith))
            ∙ ap (raised k) (same_place w r d (lowered k m) f wide down is_f e)) in
            cond-false {A = ℕ} (eqb (get_or m k 0) 0) 0 (unit_form r f (lowered k m)) (ne_eqb (get_or m k 0) 0 some)
            ∙ cond-false {A = ℕ} (eqb (place r (lowered k m)) (place r f)) 1 0
            (ne_eqb (place r (lowered k m)) (place r f) apart)
      ]

module _ (p w r d l : ℕ) (c : ℕ → ℕ) (label : IsLabel p r c l) (wide : r ≤ w) (f : List ℕ) (is_f : IsMonomial w r d f)
  where
    -- the label times f holds the leading coordinate at f raised
    pub label_at_leading : SameMod p (times_label r c (unit_form r f) (raised l f)) (c l)
    unfolding times_label
    label_at_leading =
        let one : c l * times_variable l (unit_form r f) (raised l f) ≡ c l = let e =
        unit_at w r d wide f is_f l label.here in rw e (omega arith) in
        sum_only_mod p (λ k. c k * times_variable k (unit_form r f) (raised l f)) r l label.here
        (λ k below other. mul_zero p (c k) (times_variable k (unit_form r f) (raised l f))
        (ap (λ z. z % p) (unit_elsewhere w r d wide f is_f k (raised l f) below
        (raised_monomial w r d l f wide label.here is_f) (λ e. apart k below other e))))
        ∙ ap (λ z. z % p) one
      where
        apart : (k : ℕ) → k < r → k ≢ l → raised l f ≡ raised k f → ⊥
        apart k below other e =
            let long : length f ≡ w = is_f.long in
            let here : l < r = label.here in
            let at : get_or (raised l f) l 0 ≡ get_or f l 0 + 1 =
            get_or-set_same f l (get_or f l 0 + 1) 0 (omega arith) in
            let at_other : get_or (raised k f) l 0 ≡ get_or f l 0 =
            get_or-set_other f k l (get_or f k 0 + 1) 0 (λ i. other (sym i)) in
            let same : get_or (raised l f) l 0 ≡ get_or (raised k f) l 0 = ap (λ (z : List ℕ). get_or z l 0) e in
            omega arith

    -- and nothing before it
    pub label_before : (m : List ℕ) → IsMonomial w r (suc d) m → place r m < place r (raised l f) →
        SameMod p (times_label r c (unit_form r f) m) 0
    unfolding times_label
    label_before m is before =
        sum_zero_mod p (λ k. c k * times_variable k (unit_form r f) m) r (λ k below. elim (cases_lt k l) [
          | inl early ↦ let none : c k * times_variable k (unit_form r f) m ≡ 0 = let e = label.before k early in
              rw e (omega arith) in ap (λ z. z % p) none
          | inr late ↦ mul_zero p (c k) (times_variable k (unit_form r f) m)
              (ap (λ z. z % p) (unit_elsewhere w r d wide f is_f k m below is (λ e. elim (cases_eq k l) [
                | inl same ↦ let place_e : place r m ≡ place r (raised k f) = ap (place r) e in
                    let at_l : place r (raised k f) ≡ place r (raised l f) = ap (λ j. place r (raised j f)) same in
                    omega arith
                | inr other ↦ let place_e : place r m ≡ place r (raised k f) = ap (place r) e in
                    omega (arith, later_place w r d l k f wide (omega arith) below is_f)
              ])))
        ])

module _ (p w r l : ℕ) (c : ℕ → ℕ) (label : IsLabel p r c l) (wide : r ≤ w) where
  back : (d : ℕ) (e : List ℕ) → IsMonomial w r d e → 0 < get_or e l 0 → raised l (lowered l e) ≡ e
  back d e is some = let long : length e ≡ w = is.long in let here : l < r = label.here in
      raised_lowered l e (omega arith) some

  at_leading : (d : ℕ) (e : List ℕ) → IsMonomial w r d e → 0 < get_or e l 0 →
      SameMod p (times_label r c (unit_form r (lowered l e)) e) (c l)
  at_leading zero e is some = absurd (omega (arith, exponent_le w r 0 l e wide label.here is))
  at_leading (suc d) e is some =
      rw (back (suc d) e is some) at
      (label_at_leading p w r d l c label wide (lowered l e) (lowered_monomial w r d l e wide label.here some is))

  before_it : (d : ℕ) (e m : List ℕ) → IsMonomial w r d e → 0 < get_or e l 0 → IsMonomial w r d m →
      place r m < place r e → SameMod p (times_label r c (unit_form r (lowered l e)) m) 0
  before_it zero e m is some is_m early = absurd (omega (arith, exponent_le w r 0 l e wide label.here is))
  before_it (suc d) e m is some is_m early =
      label_before p w r d l c label wide (lowered l e) (lowered_monomial w r d l e wide label.here some is) m is_m
      (rw (back (suc d) e is some) early)

module _ (q w r d l : ℕ) (c : ℕ → ℕ) (label : IsLabel (suc q) r c l) (wide : r ≤ w) where
  -- one place without the leading variable
  pub reduced_past : (a b : Form) (e : List ℕ) → IsMonomial w r d e → get_or e l 0 ≡ 0 →
      ReducedBelow (suc q) w r d c l (place r e) a b → ReducedBelow (suc q) w r d c l (place r e + 1) a b
  reduced_past a b e is none h = record {
    done = λ m is_m before some. elim (cases_eq (place r m) (place r e)) [
      | inl same ↦ let at : get_or m l 0 ≡ get_or e l 0 =
          ap (λ (z : List ℕ). get_or z l 0) (same_place w r d m e wide is_m is same) in absurd (omega arith)
      | inr other ↦ h.done m is_m (omega arith) some
    ];
    congruent = h.congruent;
  }

  -- one place with it: the multiple of the label that makes it 0 is added
  pub reduced_more : (a b b' : Form) (e : List ℕ) (s : ℕ) → IsMonomial w r d e → 0 < get_or e l 0 →
      SameMod (suc q) (b e + s * c l) 0 → IsMultipleAdded (suc q) w r d c s (lowered l e) b b' →
      ReducedBelow (suc q) w r d c l (place r e) a b → ReducedBelow (suc q) w r d c l (place r e + 1) a b'
  reduced_more a b b' e s is some cleared added h =
      record {
        done = λ m is_m before holds. elim (cases_eq (place r m) (place r e)) [
          | inl same ↦ let m_is : m ≡ e = same_place w r d m e wide is_m is same in
              rw m_is (added e is ∙ same_add (suc q) (b e) (b e) (s * times_label r c (unit_form r (lowered l e)) e)
              (s * c l) refl (same_mul (suc q) s s (times_label r c (unit_form r (lowered l e)) e) (c l) refl
              (at_leading (suc q) w r l c label wide d e is some)) ∙ cleared)
          | inr other ↦
              let earlier : place r m < place r e = omega arith in
              let nothing : s * 0 ≡ 0 = omega arith in
              let alone : b m + 0 ≡ b m = omega arith in
              added m is_m ∙ same_add (suc q) (b m) (b m) (s * times_label r c (unit_form r (lowered l e)) m) 0 refl
              (same_mul (suc q) s s (times_label r c (unit_form r (lowered l e)) m) 0 refl
              (before_it (suc q) w r l c label wide d e m is some is_m earlier) ∙ ap (λ z. z % suc q) nothing)
              ∙ ap (λ z. z % suc q) alone ∙ h.done m is_m earlier holds
        ];
        congruent = congruent_trans (suc q) w r d c a b b' h.congruent (congruent_sym q w r d c b' b (record {
          quotient = λ m. s * unit_form r (lowered l e) m;
          sums = λ m is_m. let turned : b m + s * times_label r c (unit_form r (lowered l e)) m
              ≡ b m + times_label r c (λ k. s * unit_form r (lowered l e) k) m =
              ap (λ z. b m + z) (sym (times_label-mul r c s (unit_form r (lowered l e)) m)) in
              added m is_m ∙ ap (λ z. z % suc q) turned;
        }));
      }

  pub reduced_start : (a : Form) → ReducedBelow (suc q) w r d c l 0 a a
  reduced_start a =
      record {
        done = λ m is before some. absurd (omega arith);
        congruent = congruent_refl (suc q) w r d c a a (λ m is. refl);
      }

  pub reduced_end : (a b : Form) → ReducedBelow (suc q) w r d c l (count r d) a b → IsNormalForm (suc q) w r d c l a b
  reduced_end a b h =
      record { pure = λ m is some. h.done m is (place_below w r d m wide is) some; congruent = h.congruent }

  -- the pass, on functions
  reduce_below : (a : Form) (n : ℕ) → n ≤ count r d → (b : Form) × ReducedBelow (suc q) w r d c l n a b
  reduce_below a zero le = (a, reduced_start a)
  reduce_below a (suc n) le =
      let before = reduce_below a n (omega arith) in
      let b = before.0 in
      let e = exponents w r d n in
      let stands : StandsAt w r d n (exponents w r d n) = exponents_stand w r d n wide (omega arith) in
      let so_far : ReducedBelow (suc q) w r d c l (place r e) a b = rw stands.place_is before.1 in
      let next : suc n ≡ place r e + 1 = omega (arith, stands.place_is) in
      elim (cases_eq (get_or e l 0) 0) [
        | inl none ↦ (b, rw next (reduced_past a b e stands.monomial none so_far))
        | inr some ↦
            let s : ℕ = q * (b e * label.inverse.0) in (
              (λ m. b m + s * times_label r c (unit_form r (lowered l e)) m),
              rw next (reduced_more a b (λ m. b m + s * times_label r c (unit_form r (lowered l e)) m) e s
                  stands.monomial (omega arith) (cleared (b e)) (λ m is. refl) so_far),
            )
      ]
    where
      cleared : (t : ℕ) → SameMod (suc q) (t + (q * (t * label.inverse.0)) * c l) 0
      cleared t =
          let turned : (q * (t * label.inverse.0)) * c l ≡ (q * t) * (label.inverse.0 * c l) = omega arith in
          let one : SameMod (suc q) ((q * t) * (label.inverse.0 * c l)) ((q * t) * 1) =
          same_mul (suc q) (q * t) (q * t) (label.inverse.0 * c l) 1 refl label.inverse.1 in
          let whole : t + (q * t) * 1 ≡ 0 + suc q * t = omega arith in
          ap (λ z. (t + z) % suc q) turned ∙ same_add (suc q) t t ((q * t) * (label.inverse.0 * c l)) ((q * t) * 1) refl
          one ∙ ap (λ z. z % suc q) whole ∙ same_past (suc q) 0 t

  pub normal_form : (a : Form) → (b : Form) × IsNormalForm (suc q) w r d c l a b
  normal_form a = let h = reduce_below a (count r d) (omega arith) in (h.0, reduced_end a h.0 h.1)
