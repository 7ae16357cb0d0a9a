-- A basis grows by a row: what is left of the row once it is reduced, and the two ways on.
use Rattle.std.proofs.Common.{◌≡◌, ℕ, ◌+◌, ◌*◌, ◌%◌, ◌<◌, ◌≤◌, List, length, get_or, inl, inr, refl, sym, ap, ap₂, ◌∙◌, cond, eqb, eq-eqb, ne_eqb, set, length-set, get_or-set_same, get_or-set_other, arith}
use Rattle.std.proofs.Math.Nat.{zero-mod, mod-mod, mod-lt}
use Rattle.std.proofs.lemmas.Bool.{cases_eq, cond-true, cond-false}
use Rattle.bmp_math.specs.Congruences.{SameMod}
use Rattle.bmp_math.specs.Matrices.{Matrix, NumbersBelow, combination}
use Rattle.bmp_math.proofs.CongruenceLemmas.{same_add}
use Rattle.bmp_math.proofs.SumLemmas.{sum_below_more, sum_below_same, sum_below-zero}
use Rattle.bmp_field.specs.Runs.{AreBelow}
use Rattle.bmp_linear.specs.RowChanges.{IsRowPushed, IsRowAddedTo, HoldsNumbers}
use Rattle.bmp_elim.specs.GrowingBases.{HasLeading, IsRemainder, IsMultiplied, IsPivotPushed}
use Rattle.bmp_elim.specs.Triangles.{IsCornered}

-- the factors below n, and one more
abbrev pub extended : (ℕ → ℕ) → ℕ → ℕ → ℕ → ℕ
extended factors n c k = cond (eqb k n) c (factors k)

extended_last : (factors : ℕ → ℕ) (n c : ℕ) → extended factors n c n ≡ c
extended_last factors n c = cond-true (eqb n n) c (factors n) (eq-eqb n n refl)

extended_before : (factors : ℕ → ℕ) (n c k : ℕ) → k < n → extended factors n c k ≡ factors k
extended_before factors n c k l = cond-false (eqb k n) c (factors k) (ne_eqb k n (λ e. absurd (omega arith)))

-- a combination with one term more
pub combination_more : (factors : ℕ → ℕ) (n c : ℕ) (vs : ℕ → ℕ → ℕ) (j : ℕ) →
    combination (extended factors n c) vs (n + 1) j ≡ combination factors vs n j + c * vs n j
combination_more factors n c vs j =
    sum_below_more (λ i. extended factors n c i * vs i j) n
    ∙ ap₂ (λ x y. x + y)
    (sum_below_same (λ i. extended factors n c i * vs i j) (λ i. factors i * vs i j) n
    (λ i l. ap (λ z. z * vs i j) (extended_before factors n c i l)))
    (ap (λ z. z * vs n j) (extended_last factors n c))

-- a reduced sum, where its first term is the same as another
remains : (p old new x y : ℕ) → new ≡ (old + y) % p → SameMod p old x → SameMod p new (x + y)
remains p old new x y is same = ap (λ z. z % p) is ∙ mod-mod (old + y) p ∙ same_add p old x y y same refl

-- a row is reduced at one place more
module _ {p n : ℕ} {a t : Matrix} {ps : List ℕ} {v : ℕ → ℕ} {w u : List ℕ} (leading : HasLeading a ps)
    (h : IsRemainder p n a t ps v w u) (within : n < length ps) where
  abbrev place : ℕ
  place = get_or ps n 0

  -- where it is 0 there, nothing is added
  pub remainder_same : get_or w place 0 ≡ 0 → IsRemainder p (n + 1) a t ps v w u
  remainder_same none = record {
    factors = extended h.factors n 0;
    left = λ j l.
        let more = combination_more h.factors n 0 a.entry j in
        let same : v j + combination h.factors a.entry n j ≡ v j + combination (extended h.factors n 0) a.entry (n +
        1) j = omega (arith, more) in
        h.left j l ∙ ap (λ z. z % p) same;
    factors_left = λ j l.
        let more = combination_more h.factors n 0 t.entry j in
        let same : combination h.factors t.entry n j ≡ combination (extended h.factors n 0) t.entry (n + 1) j =
        omega (arith, more) in
        h.factors_left j l ∙ ap (λ z. z % p) same;
    zero = λ k l. elim (cases_eq k n) [
      | inl here ↦ ap (λ i. get_or w (get_or ps i 0) 0) here ∙ none
      | inr other ↦ h.zero k (omega arith)
    ];
    below = h.below;
    trace_below = h.trace_below;
  }

  -- else a multiple of the row makes it 0 there, and leaves it 0 at the places before
  pub remainder_more : (c : ℕ) (new_w new_u : List ℕ) → 0 < p → (get_or w place 0 + c) % p ≡ 0 →
      IsRowAddedTo p a n c w new_w → IsRowAddedTo p t n c u new_u → IsRemainder p (n + 1) a t ps v new_w new_u
  remainder_more c new_w new_u positive opposite row trace_row = record {
    factors = extended h.factors n c;
    left = λ j l.
        let more = combination_more h.factors n c a.entry j in
        let whole : (v j + combination h.factors a.entry n j) + c * a.entry n j ≡ v j + combination (extended
        h.factors n c) a.entry (n + 1) j = omega (arith, more) in
        remains p (get_or w j 0) (get_or new_w j 0) _ (c * a.entry n j) (row.added j l) (h.left j l)
        ∙ ap (λ z. z % p) whole;
    factors_left = λ j l.
        remains p (get_or u j 0) (get_or new_u j 0) _ (c * t.entry n j) (trace_row.added j l) (h.factors_left j l)
        ∙ ap (λ z. z % p) (sym (combination_more h.factors n c t.entry j));
    zero = λ k l. elim (cases_eq k n) [
      | inl here ↦
          let one : c * a.entry n place ≡ c = ap (λ z. c * z) (leading.one n within) ∙ omega arith in
          ap (λ i. get_or new_w (get_or ps i 0) 0) here ∙ row.added place (leading.below n within)
          ∙ ap (λ z. (get_or w place 0 + z) % p) one ∙ opposite
      | inr other ↦
          let before : k < n = omega arith in
          let none : c * a.entry n (get_or ps k 0) ≡ c * 0 = ap (λ z. c * z) (leading.zero_earlier n k within before) in
          let was : get_or w (get_or ps k 0) 0 ≡ 0 = h.zero k before in
          let whole : get_or w (get_or ps k 0) 0 + c * a.entry n (get_or ps k 0) ≡ 0 = omega arith in
          row.added (get_or ps k 0) (leading.below k (omega arith)) ∙ ap (λ z. z % p) whole ∙ zero-mod p
    ];
    below = λ j l. rw (row.added j l) (mod-lt (get_or w j 0 + c * a.entry n j) positive);
    trace_below = λ j l. rw (trace_row.added j l) (mod-lt (get_or u j 0 + c * t.entry n j) positive);
  }

-- nothing was taken yet
pub remainder_start : {p : ℕ} {a t : Matrix} {ps w u : List ℕ} → HoldsNumbers p a.cols w → 0 < p →
    ((j : ℕ) → j < length u → get_or u j 0 ≡ 0) → t.cols ≤ length u → IsRemainder p 0 a t ps (λ j. get_or w j 0) w u
remainder_start {p} {a} {t} {ps} {w} {u} holds positive zeros room = record {
  factors = λ k. 0;
  left = λ j l.
      let none : combination (λ k. 0) a.entry 0 j ≡ 0 = sum_below-zero (λ i. 0 * a.entry i j) in
      let whole : get_or w j 0 ≡ get_or w j 0 + combination (λ k. 0) a.entry 0 j = omega (arith, none) in
      ap (λ z. z % p) whole;
  factors_left = λ j l. ap (λ z. z % p) (zeros j (omega (arith, room)) ∙ sym (sum_below-zero (λ i. 0 * t.entry i j)));
  zero = λ k l. absurd (omega arith);
  below = holds.below;
  trace_below = λ j l. rw (zeros j (omega (arith, room))) positive;
}

-- what was pushed, said by the numbers before they were multiplied
pushed_as : {a b : Matrix} {x y : ℕ → ℕ} → IsRowPushed a b x → ((j : ℕ) → j < a.cols → x j ≡ y j) → IsRowPushed a b y
pushed_as h same = record {
  rows = h.rows;
  cols = h.cols;
  pushed = λ j l. h.pushed j l ∙ same j l;
  others = h.others;
}

cornered_as : {t b : Matrix} {x y : ℕ → ℕ} → IsCornered t b x → ((j : ℕ) → j ≤ t.cols → x j ≡ y j) → IsCornered t b y
cornered_as h same = record {
  rows = h.rows;
  cols = h.cols;
  pushed = λ j l. h.pushed j l ∙ same j l;
  others = h.others;
  zero_above = h.zero_above;
}

pub multiplied_below : {p c : ℕ} {old new : List ℕ} → 0 < p → IsMultiplied p c old new → AreBelow p new
multiplied_below {p} {c} {old} {new} positive h = λ j l.
    rw (h.multiplied j (rw (← h.length_is) l)) (mod-lt (c * get_or old j 0) positive)

-- a remainder and its factors, multiplied and pushed
pub record ArePushed (p j c r : ℕ) (w u made_w made_u : List ℕ) (a t new_a new_t : Matrix) : Type 0 where
  pub height : r ≡ t.rows
  pub square : t.cols ≡ t.rows
  pub width : length w ≡ a.cols
  pub trace_width : length u ≡ t.cols + 1
  pub inverse : SameMod p (get_or w j 0 * c) 1
  pub multiplied : IsMultiplied p c w made_w
  pub trace_multiplied : IsMultiplied p c (set u r 1) made_u
  pub row : IsRowPushed a new_a (λ i. get_or made_w i 0)
  pub trace_row : IsCornered t new_t (λ i. get_or made_u i 0)
  pub numbers : NumbersBelow p new_a
  pub trace_numbers : NumbersBelow p new_t

pub pivot_pushed : {p j c r : ℕ} {w u made_w made_u : List ℕ} {a t new_a new_t : Matrix} →
    ArePushed p j c r w u made_w made_u a t new_a new_t → IsPivotPushed p j w u a t new_a new_t
pivot_pushed {p} {j} {c} {r} {w} {u} {made_w} {made_u} {a} {t} h = record {
  factor = c;
  inverse = h.inverse;
  row = pushed_as h.row (λ i l. h.multiplied.multiplied i (rw h.width l));
  trace_row = cornered_as h.trace_row (λ i l.
      h.trace_multiplied.multiplied i (rw (length-set u r 1) (omega (arith, h.trace_width, l)))
      ∙ ap (λ z. (c * z) % p) (elim (cases_eq i r) [
        | inl same ↦
            let inside : r < length u = omega (arith, h.height, h.square, h.trace_width) in
            ap (λ k. get_or (set u r 1) k 0) same ∙ get_or-set_same u r 1 0 inside
            ∙ sym (cond-true {A = ℕ} (eqb i t.rows) 1 (get_or u i 0) (eq-eqb i t.rows (same ∙ h.height)))
        | inr other ↦
            get_or-set_other u r i 1 0 other
            ∙ sym (cond-false {A = ℕ} (eqb i t.rows) 1 (get_or u i 0) (ne_eqb i t.rows (λ e. other (e ∙ sym
            h.height))))
      ]));
  numbers = h.numbers;
  trace_numbers = h.trace_numbers;
}

-- the remainder of equal numbers
pub remainder_as : {p n : ℕ} {a t : Matrix} {ps w u : List ℕ} {x v : ℕ → ℕ} → ((j : ℕ) → j < a.cols → x j ≡ v j) →
    IsRemainder p n a t ps x w u → IsRemainder p n a t ps v w u
remainder_as {p} {n} {a} same h = record {
  factors = h.factors;
  left = λ j l. h.left j l ∙ ap (λ z. (z + combination h.factors a.entry n j) % p) (same j l);
  factors_left = h.factors_left;
  zero = h.zero;
  below = h.below;
  trace_below = h.trace_below;
}
