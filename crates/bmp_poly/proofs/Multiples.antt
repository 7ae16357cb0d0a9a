-- A multiple of a label is added at one place after another.
use Rattle.std.proofs.Common.{◌≡◌, ◌≢◌, ℕ, zero, suc, ◌+◌, ◌*◌, ◌%◌, ◌<◌, ◌≤◌, List, length, get_or, set, refl, sym, ap, ◌∙◌, inl, inr, arith, length-set}
use Rattle.std.specs.List.{All}
use Rattle.std.proofs.lemmas.Bool.{cases_eq}
use Rattle.std.proofs.lemmas.List.Elements.{All-set}
use Rattle.std.proofs.Math.Nat.{mod-mod}
use Rattle.bmp_math.specs.Sums.{sum_below}
use Rattle.bmp_math.specs.Congruences.{SameMod}
use Rattle.bmp_math.proofs.CongruenceLemmas.{same_add}
use Rattle.bmp_math.proofs.SumLemmas.{sum_below_more, sum_below_same, sum_below-zeros}
use Rattle.bmp_poly.specs.Exponents.{IsMonomial, place, count}
use Rattle.bmp_poly.specs.Forms.{times_variable, times_label, unit_form, raised, lowered}
use Rattle.bmp_poly.specs.Steps.{IsTermReplaced}
use Rattle.bmp_poly.specs.Coefficients.{coefficient, form}
use Rattle.bmp_poly.proofs.MonomialLemmas.{raised_monomial, lowered_monomial, raised_lowered, exponent_le, same_place}
use Rattle.bmp_poly.proofs.PlaceLemmas.{place_below}
use Rattle.bmp_poly.proofs.Reducing.{unit_at, unit_elsewhere}
use Rattle.bmp_poly.proofs.CoefficientLemmas.{coefficient_read, coefficient_set_same, coefficient_set_other}

pub as_degree : (w r d e : ℕ) (m : List ℕ) → d ≡ e → IsMonomial w r d m → IsMonomial w r e m
as_degree w r d e m same h = record { long = h.long; size = h.size ∙ same; past = h.past }

times_label_more : (k : ℕ) (c : ℕ → ℕ) (q : List ℕ → ℕ) (m : List ℕ) →
    times_label (k + 1) c q m ≡ times_label k c q m + c k * times_variable k q m
unfolding times_label
times_label_more k c q m = sum_below_more (λ j. c j * times_variable j q m) k

-- s times the first k terms of the label, times the monomial low, is added
pub record AddingMultiple {E : Type 0} (is_value : E → Type 0) (num : E → ℕ) (p w r d : ℕ) (c : ℕ → ℕ) (s : ℕ)
    (low : List ℕ) (old now : List E) (k : ℕ) : Type 0 where
  pub sized : length now ≡ length old
  pub values : All is_value now
  pub sums : (m : List ℕ) → IsMonomial w r d m →
      SameMod p (form num r now m) (form num r old m + s * times_label k c (unit_form r low) m)

-- nothing is added by the coordinates before the leading one
pub adding_none : {E : Type 0} (is_value : E → Type 0) (num : E → ℕ) (p w r d : ℕ) (c : ℕ → ℕ) (s : ℕ) (low : List ℕ)
    (old : List E) (l : ℕ) → All is_value old → ((k : ℕ) → k < l → c k ≡ 0) →
    AddingMultiple is_value num p w r d c s low old old l
unfolding times_label
adding_none is_value num p w r d c s low old l v before = record {
  sized = refl;
  values = v;
  sums = λ m is.
      let terms : sum_below (λ k. c k * times_variable k (unit_form r low) m) l ≡ 0 =
      sum_below_same (λ k. c k * times_variable k (unit_form r low) m) (λ k. 0) l
      (λ k below. let e = before k below in rw e (omega arith)) ∙ sum_below-zeros l in
      let none : s * times_label l c (unit_form r low) m ≡ s * 0 = ap (λ z. s * z) terms in
      let alone : form num r old m ≡ form num r old m + s * times_label l c (unit_form r low) m = omega arith in
      ap (λ z. z % p) alone;
}

-- one term of the label more, at the place where it stands
pub adding_more : {E : Type 0} (is_value : E → Type 0) (num : E → ℕ) (p w r d d' : ℕ) (c : ℕ → ℕ) (s : ℕ) (low : List ℕ)
    (old now : List E) (k i : ℕ) (a x : E) → r ≤ w → k < r → suc d' ≡ d → IsMonomial w r d' low →
    length old ≡ count r d → i ≡ place r (raised k low) → AddingMultiple is_value num p w r d c s low old now k →
    a ≡ get_or now i a → is_value x → SameMod p (num x) (num a + s * c k) →
    AddingMultiple is_value num p w r d c s low old (set now i x) (k + 1)
adding_more is_value num p w r d d' c s low old now k i a x wide below up is_low counted i_is h a_is v x_is =
    let is_raised : IsMonomial w r d (raised k low) =
    as_degree w r (suc d') d (raised k low) up (raised_monomial w r d' k low wide below is_low) in
    let sized : length now ≡ length old = h.sized in
    let inside : i < length now = omega (arith, place_below w r d (raised k low) wide is_raised) in
    record {
      sized = length-set now i x ∙ h.sized;
      values = All-set is_value now i x v h.values;
      sums = λ m is.
          let t = times_label k c (unit_form r low) m in
          elim (cases_eq i (place r m)) [
            | inl here ↦
                let m_is : m ≡ raised k low = same_place w r d m (raised k low) wide is is_raised (sym here ∙ i_is) in
                let one : times_variable k (unit_form r low) m ≡ 1 = rw m_is (unit_at w r d' wide low is_low k below) in
                let more : times_label (k + 1) c (unit_form r low) m ≡ t + c k =
                times_label_more k c (unit_form r low) m
                ∙ ap (λ z. t + z) (times_one (c k) (times_variable k (unit_form r low) m) one) in
                let whole : (form num r old m + s * t) + s * c k ≡ form num r old m + s * (t + c k) = omega arith in
                let read : coefficient num now (place r m) ≡ num a =
                ap (coefficient num now) (sym here) ∙ coefficient_read num now i a inside a_is in
                let joined : SameMod p (num a + s * c k) ((form num r old m + s * t) + s * c k) =
                same_add p (num a) (form num r old m + s * t) (s * c k) (s * c k)
                (ap (λ z. z % p) (sym read) ∙ h.sums m is) refl in
                ap (λ z. z % p) (ap (coefficient num (set now i x)) (sym here)
                ∙ coefficient_set_same num now i x inside) ∙ x_is ∙ joined
                ∙ ap (λ z. z % p) (whole ∙ ap (λ z. form num r old m + s * z) (sym more))
            | inr other ↦
                let apart : m ≢ raised k low = λ e. other (i_is ∙ sym (ap (place r) e)) in
                let none : times_variable k (unit_form r low) m ≡ 0 =
                unit_elsewhere w r d' wide low is_low k m below (as_degree w r d (suc d') m (sym up) is) apart in
                let more : times_label (k + 1) c (unit_form r low) m ≡ t = times_label_more k c (unit_form r low) m
                ∙ times_none (c k) (times_variable k (unit_form r low) m) t none in
                ap (λ z. z % p) (coefficient_set_other num now i (place r m) x other) ∙ h.sums m is
                ∙ ap (λ z. (form num r old m + s * z) % p) (sym more)
          ];
    }
  where
    times_one : (y z : ℕ) → z ≡ 1 → y * z ≡ y
    times_one y z e = rw e (omega arith)

    times_none : (y z t : ℕ) → z ≡ 0 → t + y * z ≡ t
    times_none y z t e = rw e (omega arith)

-- the leading term: the coefficient of e is taken away
pub adding_start : {E : Type 0} (is_value : E → Type 0) (num : E → ℕ) (p r d l i : ℕ) (c : ℕ → ℕ) (s : ℕ) (e : List ℕ)
    (old : List E) (a x : E) → r ≤ 6 → l < r → IsMonomial 6 r d e → 0 < get_or e l 0 → place r e ≡ i →
    length old ≡ count r d → All is_value old → ((k : ℕ) → k < l → c k ≡ 0) → a ≡ get_or old i a → is_value x →
    num x ≡ 0 → SameMod p (num a + s * c l) 0 → AddingMultiple is_value num p 6 r d c s (lowered l e) old (set old i x)
    (l + 1)
adding_start is_value num p r zero l i c s e old a x rank here is some stands counted v before a_is x_value x_is clear =
    absurd (omega (arith, exponent_le 6 r 0 l e rank here is))
adding_start is_value num p r (suc d) l i c s e old a x rank here is some stands counted v before a_is x_value x_is
    clear =
    let long : length e ≡ 6 = is.long in
    let back : raised l (lowered l e) ≡ e = raised_lowered l e (omega arith) some in
    adding_more is_value num p 6 r (suc d) d c s (lowered l e) old old l i a x rank here refl
    (lowered_monomial 6 r d l e rank here some is) counted (sym stands ∙ ap (place r) (sym back))
    (adding_none is_value num p 6 r (suc d) c s (lowered l e) old l v before) a_is x_value
    (ap (λ z. z % p) x_is ∙ sym clear)

-- a later term, with the numbers as a field answers them
pub adding_later : {E : Type 0} (is_value : E → Type 0) (num : E → ℕ) (p r d l k i number : ℕ) (c : ℕ → ℕ) (s : ℕ)
    (e : List ℕ) (old now : List E) (a product x : E) → r ≤ 6 → l < k → k < r → IsMonomial 6 r d e → 0 < get_or e l 0 →
    i ≡ place r (raised k (lowered l e)) → length old ≡ count r d →
    AddingMultiple is_value num p 6 r d c s (lowered l e) old now k → a ≡ get_or now i a → number ≡ c k →
    num product ≡ (s * number) % p → is_value x → num x ≡ (num a + num product) % p →
    AddingMultiple is_value num p 6 r d c s (lowered l e) old (set now i x) (k + 1)
adding_later is_value num p r zero l k i number c s e old now a product x rank after below is some i_is counted h a_is
    number_is product_is x_value x_is = absurd (omega (arith, exponent_le 6 r 0 l e rank (omega arith) is))
adding_later is_value num p r (suc d) l k i number c s e old now a product x rank after below is some i_is counted h
    a_is number_is product_is x_value x_is =
    let multiple : SameMod p (num product) (s * c k) = ap (λ z. z % p) product_is ∙ mod-mod (s * number) p
    ∙ ap (λ z. (s * z) % p) number_is in
    adding_more is_value num p 6 r (suc d) d c s (lowered l e) old now k i a x rank below refl
    (lowered_monomial 6 r d l e rank (omega arith) some is) counted i_is h a_is x_value
    (ap (λ z. z % p) x_is ∙ mod-mod (num a + num product) p
    ∙ same_add p (num a) (num a) (num product) (s * c k) refl multiple)

-- all terms are added
pub term_replaced : {E : Type 0} (is_value : E → Type 0) (num : E → ℕ) (p r d l k : ℕ) (c : ℕ → ℕ) (s : ℕ) (e : List ℕ)
    (old now : List E) → k ≡ r → SameMod p (form num r old e + s * c l) 0 →
    AddingMultiple is_value num p 6 r d c s (lowered l e) old now k →
    IsTermReplaced p 6 r d c l e (form num r old) (form num r now)
term_replaced is_value num p r d l k c s e old now all clear h =
    record {
      factor = s;
      cleared = clear;
      added = λ m is. h.sums m is
          ∙ ap (λ j. (form num r old m + s * times_label j c (unit_form r (lowered l e)) m) % p) all;
    }
