-- A product is summed term by term: each term of one factor is multiplied by those of the other.
use Rattle.std.proofs.Common.{◌≡◌, ◌≢◌, ℕ, ◌+◌, ◌*◌, ◌%◌, ◌<◌, ◌≤◌, true, false, List, ◌++◌, length, get_or, take, drop, set, refl, sym, ap, ◌∙◌, inl, inr, arith, length-set}
use Rattle.std.specs.Prelude.{nat_lt, if◌then◌else◌}
use Rattle.std.specs.List.{All}
use Rattle.std.proofs.lemmas.Bool.{cases_eq, cases_Bool, cond-true, cond-false, lt-ltb, le-ltb, ltb-true, ltb-false}
use Rattle.std.proofs.lemmas.List.{ext_get_or}
use Rattle.std.proofs.Math.Seq.{take-append_seam}
use Rattle.std.proofs.lemmas.List.Elements.{All-set}
use Rattle.std.proofs.Math.Nat.{mod-mod}
use Rattle.bmp_math.specs.Sums.{sum_below}
use Rattle.bmp_math.specs.Congruences.{SameMod}
use Rattle.bmp_math.proofs.CongruenceLemmas.{same_add}
use Rattle.bmp_math.proofs.SumLemmas.{sum_below_more, sum_below-zero}
use Rattle.bmp_poly.specs.Exponents.{IsMonomial, count, place, exponents}
use Rattle.bmp_poly.specs.Forms.{Form, SameForm}
use Rattle.bmp_poly.specs.Shifts.{contains, less, joined, shift}
use Rattle.bmp_poly.specs.Products.{product}
use Rattle.bmp_poly.specs.Steps.{IsShiftAdded}
use Rattle.bmp_poly.specs.Coefficients.{coefficient, form}
use Rattle.bmp_poly.proofs.PlaceLemmas.{place_below, exponents_stand, StandsAt}
use Rattle.bmp_poly.proofs.MonomialLemmas.{same_place}
use Rattle.bmp_poly.proofs.ShiftLemmas.{joined_monomial, less_monomial, length-joined, less-of_joined, contains-of_joined, joined-less, joined-at}
use Rattle.bmp_poly.proofs.CoefficientLemmas.{coefficient_read, coefficient_set_same, coefficient_set_other, coefficient_all_zero}
use Rattle.bmp_poly.proofs.Multiples.{as_degree}

-- b, but 0 at the monomials from place n on
abbrev part : ℕ → ℕ → Form → Form
part r n b e = if nat_lt (place r e) n then b e else 0

part_below : (r n : ℕ) (b : Form) (e : List ℕ) → place r e < n → part r n b e ≡ b e
part_below r n b e l = cond-true {A = ℕ} (nat_lt (place r e) n) (b e) 0 (lt-ltb (place r e) n l)

part_past : (r n : ℕ) (b : Form) (e : List ℕ) → n ≤ place r e → part r n b e ≡ 0
part_past r n b e l = cond-false {A = ℕ} (nat_lt (place r e) n) (b e) 0 (le-ltb (place r e) n l)

shift_holding : (m : List ℕ) (a : Form) (h : List ℕ) → contains h m ≡ true → shift m a h ≡ a (less h m)
shift_holding m a h c = cond-true {A = ℕ} (contains h m) (a (less h m)) 0 c

shift_lacking : (m : List ℕ) (a : Form) (h : List ℕ) → contains h m ≡ false → shift m a h ≡ 0
shift_lacking m a h c = cond-false {A = ℕ} (contains h m) (a (less h m)) 0 c

-- s times m times the first n terms of b is added
pub record ShiftAdded {E : Type 0} (is_value : E → Type 0) (num : E → ℕ) (p r d : ℕ) (s : ℕ) (m : List ℕ) (b : Form)
    (old now : List E) (n : ℕ) : Type 0 where
  pub sized : length now ≡ length old
  pub values : All is_value now
  pub sums : (h : List ℕ) → IsMonomial 6 r d h →
      SameMod p (form num r now h) (form num r old h + s * shift m (part r n b) h)

-- two monomials of the degrees k and e multiply to one of degree d
pub record AreFactors (r k e d : ℕ) (m : List ℕ) : Type 0 where
  pub rank : r ≤ 6
  pub first : IsMonomial 6 r k m
  pub total : k + e ≡ d

pub product_monomial : (r k e d : ℕ) (m g : List ℕ) → AreFactors r k e d m → IsMonomial 6 r e g →
    IsMonomial 6 r d (joined m g)
product_monomial r k e d m g f is =
    as_degree 6 r (k + e) d (joined m g) f.total (joined_monomial 6 r k e m g f.first is)

module _ {E : Type 0} (is_value : E → Type 0) (num : E → ℕ) (p r k e d s : ℕ) (m : List ℕ) (f : AreFactors r k e d m)
    (b : Form) (old now : List E) (n : ℕ) (g : List ℕ) (is_g : IsMonomial 6 r e g) (stands : place r g ≡ n) where
  at_product : shift m (part r n b) (joined m g) ≡ 0
  at_product =
      let sizes : length m ≡ length g = f.first.long ∙ sym is_g.long in
      shift_holding m (part r n b) (joined m g) (contains-of_joined m g sizes)
      ∙ ap (part r n b) (less-of_joined m g sizes)
      ∙ part_past r n b g (omega (arith, stands))

  at_product_more : shift m (part r (n + 1) b) (joined m g) ≡ b g
  at_product_more =
      let sizes : length m ≡ length g = f.first.long ∙ sym is_g.long in
      shift_holding m (part r (n + 1) b) (joined m g) (contains-of_joined m g sizes)
      ∙ ap (part r (n + 1) b) (less-of_joined m g sizes)
      ∙ part_below r (n + 1) b g (omega (arith, stands))

  elsewhere : (h : List ℕ) → IsMonomial 6 r d h → place r h ≢ place r (joined m g) →
      shift m (part r (n + 1) b) h ≡ shift m (part r n b) h
  elsewhere h is apart =
      elim (cases_Bool (contains h m)) [
        | inr lacking ↦ shift_lacking m (part r (n + 1) b) h lacking ∙ sym (shift_lacking m (part r n b) h lacking)
        | inl held ↦
            let total : e + k ≡ d = omega (arith, f.total) in
            let quotient : IsMonomial 6 r e (less h m) = less_monomial 6 r e k d h m is f.first total held in
            let other : place r (less h m) ≢ n =
            λ q. apart (ap (place r) (sym (joined-less h m (is.long ∙ sym f.first.long) held)
            ∙ ap (joined m) (same_place 6 r e (less h m) g f.rank quotient is_g (q ∙ sym stands)))) in
            shift_holding m (part r (n + 1) b) h held ∙ same_part (less h m) other
            ∙ sym (shift_holding m (part r n b) h held)
      ]
    where
      same_part : (u : List ℕ) → place r u ≢ n → part r (n + 1) b u ≡ part r n b u
      same_part u other = elim (cases_Bool (nat_lt (place r u) n)) [
        | inl early ↦ let l : place r u < n = ltb-true (place r u) n early in part_below r (n + 1) b u (omega arith)
            ∙ sym (part_below r n b u l)
        | inr late ↦ let l : n ≤ place r u = ltb-false (place r u) n late in part_past r (n + 1) b u (omega arith)
            ∙ sym (part_past r n b u l)
      ]

  pub shift_more : (i : ℕ) (a x : E) (y : ℕ) → length old ≡ count r d → i ≡ place r (joined m g) →
      ShiftAdded is_value num p r d s m b old now n → a ≡ get_or now i a → SameMod p y (s * b g) → is_value x →
      num x ≡ (num a + y) % p → ShiftAdded is_value num p r d s m b old (set now i x) (n + 1)
  shift_more i a x y counted i_is h a_is y_is x_value x_is =
      let is_product : IsMonomial 6 r d (joined m g) = product_monomial r k e d m g f is_g in
      let sized : length now ≡ length old = h.sized in
      let inside : i < length now = omega (arith, place_below 6 r d (joined m g) f.rank is_product) in
      record {
        sized = length-set now i x ∙ h.sized;
        values = All-set is_value now i x x_value h.values;
        sums = λ u is. elim (cases_eq i (place r u)) [
          | inl here ↦
              let u_is : u ≡ joined m g = same_place 6 r d u (joined m g) f.rank is is_product (sym here ∙ i_is) in
              let none : shift m (part r n b) u ≡ 0 = ap (shift m (part r n b)) u_is ∙ at_product in
              let more : shift m (part r (n + 1) b) u ≡ b g = ap (shift m (part r (n + 1) b)) u_is ∙ at_product_more in
              let alone : form num r old u + s * 0 ≡ form num r old u = omega arith in
              let read : num a ≡ form num r now u =
              sym (ap (coefficient num now) (sym here) ∙ coefficient_read num now i a inside a_is) in
              let before : SameMod p (num a) (form num r old u) =
              ap (λ z. z % p) read ∙ h.sums u is ∙ ap (λ z. (form num r old u + s * z) % p) none
              ∙ ap (λ z. z % p) alone in
              let whole : SameMod p (num a + y) (form num r old u + s * b g) =
              same_add p (num a) (form num r old u) y (s * b g) before y_is in
              ap (λ z. z % p) (ap (coefficient num (set now i x)) (sym here) ∙ coefficient_set_same num now i x inside
              ∙ x_is) ∙ mod-mod (num a + y) p ∙ whole ∙ ap (λ z. (form num r old u + s * z) % p) (sym more)
          | inr other ↦ ap (λ z. z % p) (coefficient_set_other num now i (place r u) x other) ∙ h.sums u is
              ∙ ap (λ z. (form num r old u + s * z) % p) (sym (elsewhere u is (λ q. other (i_is ∙ sym q))))
        ];
      }

-- all terms of b
pub shift_all : {E : Type 0} (is_value : E → Type 0) (num : E → ℕ) (p r k e d s : ℕ) (m : List ℕ) (b : Form)
    (old now : List E) (n : ℕ) → AreFactors r k e d m → count r e ≤ n → ShiftAdded is_value num p r d s m b old now n →
    SameForm p 6 r d (form num r now) (λ h. form num r old h + s * shift m b h)
shift_all is_value num p r k e d s m b old now n f all h u is =
    let whole : shift m (part r n b) u ≡ shift m b u = elim (cases_Bool (contains u m)) [
      | inr lacking ↦ shift_lacking m (part r n b) u lacking ∙ sym (shift_lacking m b u lacking)
      | inl held ↦
          let total : e + k ≡ d = omega (arith, f.total) in
          let quotient : IsMonomial 6 r e (less u m) = less_monomial 6 r e k d u m is f.first total held in
          let below : place r (less u m) < count r e = place_below 6 r e (less u m) f.rank quotient in
          shift_holding m (part r n b) u held ∙ part_below r n b (less u m) (omega arith)
          ∙ sym (shift_holding m b u held)
    ] in
    h.sums u is ∙ ap (λ z. (form num r old u + s * z) % p) whole

-- the first n terms of a, each times b, are added up from zero
pub record ProductBelow {E : Type 0} (is_value : E → Type 0) (num : E → ℕ) (p r k e : ℕ) (a b : Form) (now : List E)
    (n : ℕ) : Type 0 where
  pub sized : length now ≡ count r (k + e)
  pub values : All is_value now
  pub sums : SameForm p 6 r (k + e) (form num r now)
      (λ h. sum_below (λ i. a (exponents 6 r k i) * shift (exponents 6 r k i) b h) n)

pub product_none : {E : Type 0} (is_value : E → Type 0) (num : E → ℕ) (p r k e : ℕ) (a b : Form) (now : List E) →
    length now ≡ count r (k + e) → All is_value now → All (λ x. num x ≡ 0) now →
    ProductBelow is_value num p r k e a b now 0
product_none is_value num p r k e a b now sized values none = record {
  sized = sized;
  values = values;
  sums = λ h is. ap (λ z. z % p) (coefficient_all_zero num now (place r h) none
      ∙ sym (sum_below-zero (λ i. a (exponents 6 r k i) * shift (exponents 6 r k i) b h)));
}

-- one term of a more, read at its place
pub product_more : {E : Type 0} (is_value : E → Type 0) (num : E → ℕ) (p r k e n : ℕ) (a b : Form) (now next : List E)
    (m : List ℕ) (s : ℕ) → m ≡ exponents 6 r k n → a m ≡ s → ProductBelow is_value num p r k e a b now n →
    length next ≡ length now → All is_value next →
    SameForm p 6 r (k + e) (form num r next) (λ h. form num r now h + s * shift m b h) →
    ProductBelow is_value num p r k e a b next (n + 1)
product_more is_value num p r k e n a b now next m s m_is s_is h sized values added = record {
  sized = sized ∙ h.sized;
  values = values;
  sums = λ u is.
      let term : s * shift m b u ≡ a (exponents 6 r k n) * shift (exponents 6 r k n) b u =
      ap (λ z. z * shift m b u) (sym s_is) ∙ ap (λ z. a z * shift z b u) m_is in
      added u is ∙ same_add p (form num r now u)
      (sum_below (λ i. a (exponents 6 r k i) * shift (exponents 6 r k i) b u) n) (s * shift m b u)
      (a (exponents 6 r k n) * shift (exponents 6 r k n) b u) (h.sums u is) (ap (λ z. z % p) term)
      ∙ ap (λ z. z % p) (sym (sum_below_more (λ i. a (exponents 6 r k i) * shift (exponents 6 r k i) b u) n));
}

-- a term that is 0 adds nothing
pub product_past : {E : Type 0} (is_value : E → Type 0) (num : E → ℕ) (p r k e n : ℕ) (a b : Form) (now : List E) →
    a (exponents 6 r k n) ≡ 0 → ProductBelow is_value num p r k e a b now n →
    ProductBelow is_value num p r k e a b now (n + 1)
product_past is_value num p r k e n a b now none h = record {
  sized = h.sized;
  values = h.values;
  sums = λ u is.
      let before : ℕ = sum_below (λ i. a (exponents 6 r k i) * shift (exponents 6 r k i) b u) n in
      let nothing : sum_below (λ i. a (exponents 6 r k i) * shift (exponents 6 r k i) b u) n
      ≡ sum_below (λ i. a (exponents 6 r k i) * shift (exponents 6 r k i) b u) n + a (exponents 6 r k n) * shift
      (exponents 6 r k n) b u = rw none (omega arith) in
      h.sums u is ∙ ap (λ z. z % p)
      (nothing ∙ sym (sum_below_more (λ i. a (exponents 6 r k i) * shift (exponents 6 r k i) b u) n));
}

pub product_all : {E : Type 0} (is_value : E → Type 0) (num : E → ℕ) (p r k e n : ℕ) (a b : Form) (now : List E) →
    n ≡ count r k → ProductBelow is_value num p r k e a b now n →
    SameForm p 6 r (k + e) (form num r now) (product 6 r k a b)
unfolding product
product_all is_value num p r k e n a b now all h u is =
    h.sums u is ∙ ap (λ j. sum_below (λ i. a (exponents 6 r k i) * shift (exponents 6 r k i) b u) j % p) all

-- the coefficient at a place, read as the polynomial at the monomial
pub form_at : {E : Type 0} (num : E → ℕ) (r d i : ℕ) (items : List E) (x : E) → r ≤ 6 → i < count r d →
    length items ≡ count r d → x ≡ get_or items i x → form num r items (exponents 6 r d i) ≡ num x
form_at num r d i items x rank below sized read = let stands : StandsAt 6 r d i (exponents 6 r d i) =
    exponents_stand 6 r d i rank below in ap (coefficient num items) stands.place_is
    ∙ coefficient_read num items i x (omega arith) read

-- the product's exponents, written one after another
pub joined_written : (m g now : List ℕ) → length m ≡ 6 → length g ≡ 6 → length now ≡ 6 →
    ((k : ℕ) → k < 6 → get_or now k 0 ≡ get_or m k 0 + get_or g k 0) → now ≡ joined m g
joined_written m g now long other now_long each =
    ext_get_or 0 now (joined m g) (now_long ∙ sym (length-joined m g (long ∙ sym other) ∙ other))
    (λ k l. each k (omega arith) ∙ sym (joined-at m g k (long ∙ sym other)))

-- a product of two coefficients, as a field answers it
pub term_is : {E : Type 0} (num : E → ℕ) (p r s j y : ℕ) (others : List E) (o : E) (g : List ℕ) → place r g ≡ j →
    j < length others → o ≡ get_or others j o → y ≡ (s * num o) % p → SameMod p y (s * form num r others g)
term_is num p r s j y others o g stands inside read y_is =
    let at : form num r others g ≡ num o =
    ap (coefficient num others) stands ∙ coefficient_read num others j o inside read in
    ap (λ z. z % p) y_is ∙ mod-mod (s * num o) p ∙ ap (λ z. (s * z) % p) (sym at)

-- what a call added, in the caller's words
pub shift_added_as :
    {E : Type 0} (num : E → ℕ) (p r r' r'' d d' s : ℕ) (m : List ℕ) (others others' old old' next : List E) → r' ≡ r →
    r'' ≡ r → d' ≡ d → others' ≡ others → old' ≡ old →
    IsShiftAdded p 6 r' d' s m (form num r' others') (form num r' old') (form num r' next) →
    SameForm p 6 r d (form num r next) (λ h. form num r old h + s * shift m (form num r'' others) h)
shift_added_as num p r r' r'' d d' s m others others' old old' next ranks other_ranks degrees others_are old_is h =
    let added = rw (ranks, degrees, others_are, old_is) at h in rw other_ranks added

-- what a slice of a vector wrote back
pub written_back : {E : Type 0} (n : ℕ) (now old : List E) → n ≡ length old → length now ≡ length old →
    take n (now ++ drop (length now) old) ≡ now
written_back n now old all sized =
    let whole : n ≡ length now = omega arith in
    rw whole (take-append_seam now (drop (length now) old))

-- the product, with the rank as the new polynomial has it
pub product_as : {E : Type 0} (num : E → ℕ) (p r r' d : ℕ) (now : List E) (a : Form) → r' ≡ r →
    SameForm p 6 r d (form num r now) a → SameForm p 6 r d (form num r' now) a
product_as num p r r' d now a ranks h = rw ranks h
