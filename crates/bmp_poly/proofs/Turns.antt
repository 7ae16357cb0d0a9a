-- One turn of the pass that makes a normal form, with the numbers as a field answers them.
use Rattle.std.specs.List.{All}
use Rattle.std.proofs.Common.{◌≡◌, ◌≢◌, ◌↔◌, ℕ, zero, suc, ◌+◌, ◌*◌, ◌%◌, ◌<◌, ◌≤◌, List, length, get_or, refl, sym, ap, ◌∙◌, inl, inr, arith}
use Rattle.std.proofs.lemmas.Bool.{cases_eq}
use Rattle.std.proofs.Math.Nat.{mod-add-mod, mod-eq_of_lt}
use Rattle.bmp_math.specs.Congruences.{SameMod}
use Rattle.bmp_math.proofs.CongruenceLemmas.{same_add, same_mul}
use Rattle.bmp_poly.specs.Exponents.{IsMonomial, place, count, exponents}
use Rattle.bmp_poly.specs.Forms.{Form, IsLabel, IsNormalForm, SameForm, Congruent}
use Rattle.bmp_poly.specs.Steps.{IsTermReplaced}
use Rattle.bmp_poly.specs.Coordinates.{IsLeading}
use Rattle.bmp_poly.specs.Coefficients.{form, coefficient}
use Rattle.bmp_poly.proofs.CoefficientLemmas.{coefficient_read, coefficient-get_or, coefficient_all_zero}
use Rattle.bmp_poly.proofs.PlaceLemmas.{exponents_stand, StandsAt}
use Rattle.bmp_poly.proofs.LabelLemmas.{congruent_trans, congruent_refl, congruent_sym}
use Rattle.bmp_poly.proofs.NormalForms.{pure_congruent_same}
use Rattle.bmp_poly.proofs.Reducing.{ReducedBelow, reduced_more, reduced_past, reduced_start, reduced_end}

pub label_is : (p r l inverse : ℕ) (coords : List ℕ) → 2 ≤ p → IsLeading p r l coords →
    (get_or coords l 0 * inverse) % p ≡ 1 → IsLabel p r (λ k. get_or coords k 0) l
label_is p r l inverse coords two h e =
    let turned : inverse * get_or coords l 0 ≡ get_or coords l 0 * inverse = omega arith in
    let one : 1 ≡ 1 % p = sym (mod_small 1 p (omega arith)) in
    record { here = h.here; before = h.first.before; inverse = (inverse, ap (λ z. z % p) turned ∙ e ∙ one) }
  where
    mod_small : (x p : ℕ) → x < p → x % p ≡ x
    mod_small x p below = mod-eq_of_lt below

-- minus the quotient by the leading coordinate clears the number
pub cleared_by : (p t inverse s first product : ℕ) → 2 ≤ p → product ≡ (t * inverse) % p → (product + s) % p ≡ 0 →
    (first * inverse) % p ≡ 1 → SameMod p (t + s * first) 0
cleared_by p t inverse s first product two product_is none one =
    let zero_is : 0 ≡ 0 % p = omega arith in
    let one_is : 1 ≡ 1 % p = sym (mod-eq_of_lt two) in
    let sum : SameMod p (t * inverse + s) 0 =
    sym (mod-add-mod (t * inverse) p s) ∙ ap (λ z. (z + s) % p) (sym product_is) ∙ none ∙ zero_is in
    let times : SameMod p ((t * inverse + s) * first) (0 * first) =
    same_mul p (t * inverse + s) 0 first first sum refl in
    let split : (t * inverse + s) * first ≡ t * (first * inverse) + s * first = omega arith in
    let whole : SameMod p (t * (first * inverse) + s * first) (t * 1 + s * first) =
    same_add p (t * (first * inverse)) (t * 1) (s * first) (s * first)
    (same_mul p t t (first * inverse) 1 refl (one ∙ one_is)) refl in
    let single : t + s * first ≡ t * 1 + s * first = omega arith in
    let nothing : 0 * first ≡ 0 = omega arith in
    ap (λ z. z % p) single ∙ sym whole ∙ ap (λ z. z % p) (sym split) ∙ times ∙ ap (λ z. z % p) nothing

-- a term that holds the leading variable is replaced
pub turn_more : (p r d l i : ℕ) (c : ℕ → ℕ) (a b b' : Form) (e : List ℕ) → 2 ≤ p → IsLabel p r c l → r ≤ 6 →
    IsMonomial 6 r d e → place r e ≡ i → 0 < get_or e l 0 → IsTermReplaced p 6 r d c l e b b' →
    ReducedBelow p 6 r d c l i a b → ReducedBelow p 6 r d c l (i + 1) a b'
turn_more zero r d l i c a b b' e two label rank is stands some replaced h = absurd (omega arith)
turn_more (suc q) r d l i c a b b' e two label rank is stands some replaced h =
    rw stands at (reduced_more q 6 r d l c label rank a b b' e replaced.factor is some replaced.cleared replaced.added
    (rw stands h))

-- one that does not hold it stays
pub turn_past : (p r d l i : ℕ) (c : ℕ → ℕ) (a b : Form) (e : List ℕ) → 2 ≤ p → IsLabel p r c l → r ≤ 6 →
    IsMonomial 6 r d e → place r e ≡ i → get_or e l 0 ≡ 0 → ReducedBelow p 6 r d c l i a b →
    ReducedBelow p 6 r d c l (i + 1) a b
turn_past zero r d l i c a b e two label rank is stands none h = absurd (omega arith)
turn_past (suc q) r d l i c a b e two label rank is stands none h =
    rw stands at (reduced_past q 6 r d l c label rank a b e is none (rw stands h))

-- nor does a term that is 0 move
pub turn_zero : {E : Type 0} (num : E → ℕ) (p r d l i : ℕ) (c : ℕ → ℕ) (a : Form) (items : List E) (x : E) →
    i < length items → x ≡ get_or items i x → num x ≡ 0 → ReducedBelow p 6 r d c l i a (form num r items) →
    ReducedBelow p 6 r d c l (i + 1) a (form num r items)
turn_zero num p r d l i c a items x inside read none h = record {
  done = λ m is before some. elim (cases_eq (place r m) i) [
    | inl same ↦ ap (λ z. z % p) (ap (coefficient num items) same ∙ coefficient_read num items i x inside read ∙ none)
    | inr other ↦ h.done m is (omega arith) some
  ];
  congruent = h.congruent;
}

pub pass_start : (p r d l : ℕ) (c : ℕ → ℕ) (a : Form) → 2 ≤ p → IsLabel p r c l → r ≤ 6 → ReducedBelow p 6 r d c l 0 a a
pass_start zero r d l c a two label rank = absurd (omega arith)
pass_start (suc q) r d l c a two label rank = reduced_start q 6 r d l c label rank a

pub pass_end : (p r d l n : ℕ) (c : ℕ → ℕ) (a b : Form) → 2 ≤ p → IsLabel p r c l → r ≤ 6 → n ≡ count r d →
    ReducedBelow p 6 r d c l n a b → IsNormalForm p 6 r d c l a b
pass_end zero r d l n c a b two label rank all h = absurd (omega arith)
pass_end (suc q) r d l n c a b two label rank all h = reduced_end q 6 r d l c label rank a b (rw all at h)

-- the same for the coefficient at a place
pub cleared_at : {E : Type 0} (num : E → ℕ) (p r i inverse s first product : ℕ) (items : List E) (e : List ℕ) (x : E) →
    2 ≤ p → i < length items → place r e ≡ i → x ≡ get_or items i x → product ≡ (num x * inverse) % p →
    (product + s) % p ≡ 0 → (first * inverse) % p ≡ 1 → SameMod p (form num r items e + s * first) 0
cleared_at num p r i inverse s first product items e x two inside stands read product_is none one =
    let at : form num r items e ≡ num x =
    ap (coefficient num items) stands ∙ coefficient_read num items i x inside read in
    rw at (cleared_by p (num x) inverse s first product two product_is none one)

-- the label divides exactly what has the normal form 0
pub divided : (p r d l : ℕ) (c : ℕ → ℕ) (a b : Form) → IsNormalForm p 6 r d c l a b → SameForm p 6 r d b (λ m. 0) →
    Congruent p 6 r d c a (λ m. 0)
divided p r d l c a b n none =
    congruent_trans p 6 r d c a b (λ m. 0) n.congruent (congruent_refl p 6 r d c b (λ m. 0) none)

pub vanishes : (p r d l : ℕ) (c : ℕ → ℕ) (a b : Form) → 2 ≤ p → IsLabel p r c l → r ≤ 6 → IsNormalForm p 6 r d c l a b →
    Congruent p 6 r d c a (λ m. 0) → SameForm p 6 r d b (λ m. 0)
vanishes zero r d l c a b two label rank n g = absurd (omega arith)
vanishes (suc q) r d l c a b two label rank n g =
    pure_congruent_same q 6 r d l c label rank b (λ m. 0) n.pure (λ m is some. refl)
    (congruent_trans (suc q) 6 r d c b a (λ m. 0) (congruent_sym q 6 r d c a b n.congruent) g)

-- a polynomial is 0 where each of its numbers is
pub zero_form : {E : Type 0} (num : E → ℕ) (p r d : ℕ) (items : List E) → All (λ x. num x ≡ 0) items →
    SameForm p 6 r d (form num r items) (λ m. 0)
zero_form num p r d items none m is = ap (λ z. z % p) (coefficient_all_zero num items (place r m) none)

pub zero_numbers : {E : Type 0} (num : E → ℕ) (p r d : ℕ) (items : List E) → r ≤ 6 → length items ≡ count r d →
    All (λ x. num x < p) items → SameForm p 6 r d (form num r items) (λ m. 0) → All (λ x. num x ≡ 0) items
zero_numbers num p r d items rank sized small none k x below =
    let stands : StandsAt 6 r d k (exponents 6 r d k) = exponents_stand 6 r d k rank (omega arith) in
    let at : form num r items (exponents 6 r d k) ≡ num (get_or items k x) = ap (coefficient num items) stands.place_is
    ∙ coefficient-get_or num items k x below in
    let less : num (get_or items k x) < p = small k x below in
    let zero_is : 0 % p ≡ 0 = mod-eq_of_lt (omega arith) in
    sym (mod-eq_of_lt less) ∙ ap (λ z. z % p) (sym at) ∙ none (exponents 6 r d k) stands.monomial ∙ zero_is

-- a label over a field of its prime's size, where each number but 0 has an inverse
pub label_over : (p s r l : ℕ) (coords : List ℕ) → 2 ≤ s → s ≡ p → IsLeading p r l coords →
    ((n : ℕ) → n < s → n ≢ 0 → (m : ℕ) × (m < s) × ((n * m) % s ≡ 1)) → IsLabel s r (λ k. get_or coords k 0) l
label_over p s r l coords two same leads inverse =
    let known : IsLeading s r l coords = rw same leads in
    let m = inverse (get_or coords l 0) ((known.fits l).0 known.here) known.first.not_zero in
    label_is s r l m.0 coords two known m.2

-- the label divides exactly where the normal form has no number but 0
pub divides_where_zero : {E : Type 0} (num : E → ℕ) (is_value : E → Type 0) (p s r r' d l : ℕ) (coords : List ℕ)
    (a : Form) (items : List E) → 2 ≤ s → s ≡ p → IsLeading p r l coords →
    ((n : ℕ) → n < s → n ≢ 0 → (m : ℕ) × (m < s) × ((n * m) % s ≡ 1)) → ((x : E) → is_value x → num x < s) →
    All is_value items → r' ≡ r → length items ≡ count r d →
    IsNormalForm p 6 r d (λ k. get_or coords k 0) l a (form num r' items) → All (λ x. num x ≡ 0) items ↔
    Congruent p 6 r d (λ k. get_or coords k 0) a (λ m. 0)
divides_where_zero num is_value p s r r' d l coords a items two same leads inverse below values ranks sized normal =
    let label : IsLabel p r (λ k. get_or coords k 0) l =
    rw same at (label_over p s r l coords two same leads inverse) in
    let n : IsNormalForm p 6 r d (λ k. get_or coords k 0) l a (form num r items) = rw ranks at normal in (
      (λ none. divided p r d l (λ k. get_or coords k 0) a (form num r items) n (zero_form num p r d items none)),
      (λ g. zero_numbers num p r d items leads.rank sized
          (λ k x inside. rw same at (below (get_or items k x) (values k x inside)))
          (vanishes p r d l (λ k. get_or coords k 0) a (form num r items) (rw same at two) label leads.rank n g)),
    )
