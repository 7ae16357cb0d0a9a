-- A monomial times a multiple of a linear form, and so times congruent polynomials.
use Rattle.std.proofs.Common.{◌≡◌, ℕ, zero, suc, ◌+◌, ◌-◌, ◌*◌, ◌%◌, ◌<◌, ◌≤◌, Bool, true, false, cond, leb, eqb, leb-true, List, [], ◌∷◌, length, get_or, refl, sym, ap, ap₂, ◌∙◌, inl, inr, arith, eq-eqb, ne_eqb}
use Rattle.std.proofs.lemmas.Bool.{cases_Bool, cases_eq, and_parts, and_from, le-leb, cond-true, cond-false, both_ways}
use Rattle.bmp_math.specs.Sums.{sum_below}
use Rattle.bmp_math.proofs.SumLemmas.{sum_below_same, sum_below-zeros}
use Rattle.bmp_poly.specs.Exponents.{IsMonomial}
use Rattle.bmp_poly.specs.Forms.{Form, times_variable, times_label, lowered, Congruent}
use Rattle.bmp_poly.specs.Shifts.{contains, less, shift}
use Rattle.bmp_poly.proofs.ShiftLemmas.{less_monomial}

lowered_contains : (e n : List ℕ) (k : ℕ) → length e ≡ length n → 0 < get_or e k 0 → contains (lowered k e) n ≡ true →
    (contains e n ≡ true) × (0 < get_or (less e n) k 0)
unfolding contains less
lowered_contains [] n k l some h = absurd (let z : 0 < 0 = some in omega arith)
lowered_contains (x ∷ e) [] k l some h = absurd (let a : suc (length e) ≡ 0 = l in omega arith)
lowered_contains (x ∷ e) (y ∷ n) zero l some h =
    let positive : 0 < x = some in
    let parts = and_parts (leb y (x - 1)) (contains e n) h in
    let le : y ≤ x - 1 = leb-true y (x - 1) parts.0 in
    (and_from (leb y x) (contains e n) (le-leb y x (omega arith)) parts.1, omega arith)
lowered_contains (x ∷ e) (y ∷ n) (suc k) l some h =
    let parts = and_parts (leb y x) (contains (lowered k e) n) h in
    let sizes : suc (length e) ≡ suc (length n) = l in
    let rest = lowered_contains e n k (omega arith) some parts.1 in
    (and_from (leb y x) (contains e n) parts.0 rest.0, rest.1)

contains_lowered : (e n : List ℕ) (k : ℕ) → length e ≡ length n → contains e n ≡ true → 0 < get_or (less e n) k 0 →
    contains (lowered k e) n ≡ true
unfolding contains less
contains_lowered [] [] k l h some = absurd (let z : 0 < 0 = some in omega arith)
contains_lowered [] (y ∷ n) k l h some = absurd (let a : 0 ≡ suc (length n) = l in omega arith)
contains_lowered (x ∷ e) [] k l h some = absurd (let a : suc (length e) ≡ 0 = l in omega arith)
contains_lowered (x ∷ e) (y ∷ n) zero l h some =
    let positive : 0 < x - y = some in
    let parts = and_parts (leb y x) (contains e n) h in
    and_from (leb y (x - 1)) (contains e n) (le-leb y (x - 1) (omega arith)) parts.1
contains_lowered (x ∷ e) (y ∷ n) (suc k) l h some =
    let parts = and_parts (leb y x) (contains e n) h in
    let sizes : suc (length e) ≡ suc (length n) = l in
    and_from (leb y x) (contains (lowered k e) n) parts.0 (contains_lowered e n k (omega arith) parts.1 some)

less_lowered : (e n : List ℕ) (k : ℕ) → length e ≡ length n → less (lowered k e) n ≡ lowered k (less e n)
unfolding less
less_lowered [] [] k l = refl
less_lowered [] (y ∷ n) k l = absurd (let a : 0 ≡ suc (length n) = l in omega arith)
less_lowered (x ∷ e) [] k l = absurd (let a : suc (length e) ≡ 0 = l in omega arith)
less_lowered (x ∷ e) (y ∷ n) zero l = let first : (x - 1) - y ≡ (x - y) - 1 = omega arith in
    ap (λ z. z ∷ less e n) first
less_lowered (x ∷ e) (y ∷ n) (suc k) l = let sizes : suc (length e) ≡ suc (length n) =
    l in ap (λ (z : List ℕ). (x - y) ∷ z) (less_lowered e n k (omega arith))

less_zero_at : (e n : List ℕ) (k : ℕ) → get_or e k 0 ≡ 0 → get_or (less e n) k 0 ≡ 0
unfolding less
less_zero_at [] [] k h = refl
less_zero_at [] (y ∷ n) k h = refl
less_zero_at (x ∷ e) [] k h = h
less_zero_at (x ∷ e) (y ∷ n) zero h = let z : x ≡ 0 = h in omega arith
less_zero_at (x ∷ e) (y ∷ n) (suc k) h = less_zero_at e n k h

zero_or_zero : (b : Bool) (z : ℕ) → z ≡ 0 → cond b z 0 ≡ 0
zero_or_zero b z h = elim b as (λ b. cond b z 0 ≡ 0) [ true ↦ h | false ↦ refl ]

-- a variable and a monomial may be multiplied in either order
times_variable-shift : (k : ℕ) (n : List ℕ) (q : Form) (e : List ℕ) → length e ≡ length n →
    times_variable k (shift n q) e ≡ shift n (times_variable k q) e
times_variable-shift k n q e l =
    elim (cases_eq (get_or e k 0) 0) [
      | inl none ↦
          cond-true {A = ℕ} (eqb (get_or e k 0) 0) 0 (shift n q (lowered k e)) (eq-eqb (get_or e k 0) 0 none)
          ∙ sym (zero_or_zero (contains e n) (times_variable k q (less e n))
          (cond-true {A = ℕ} (eqb (get_or (less e n) k 0) 0) 0 (q (lowered k (less e n)))
          (eq-eqb (get_or (less e n) k 0) 0 (less_zero_at e n k none))))
      | inr some ↦
          cond-false {A = ℕ} (eqb (get_or e k 0) 0) 0 (shift n q (lowered k e)) (ne_eqb (get_or e k 0) 0 some)
          ∙ elim (cases_Bool (contains (lowered k e) n)) [
            | inl fits ↦
                let both = lowered_contains e n k l (omega arith) fits in
                cond-true {A = ℕ} (contains (lowered k e) n) (q (less (lowered k e) n)) 0 fits
                ∙ ap q (less_lowered e n k l)
                ∙ sym (cond-true {A = ℕ} (contains e n) (times_variable k q (less e n)) 0 both.0
                ∙ cond-false {A = ℕ} (eqb (get_or (less e n) k 0) 0) 0 (q (lowered k (less e n)))
                (ne_eqb (get_or (less e n) k 0) 0 (let positive = both.1 in λ z. absurd (omega arith))))
            | inr not ↦
                cond-false {A = ℕ} (contains (lowered k e) n) (q (less (lowered k e) n)) 0 not
                ∙ sym (elim (cases_Bool (contains e n)) [
                  | inl holds ↦
                      cond-true {A = ℕ} (contains e n) (times_variable k q (less e n)) 0 holds
                      ∙ elim (cases_eq (get_or (less e n) k 0) 0) [
                        | inl none ↦ cond-true {A = ℕ} (eqb (get_or (less e n) k 0) 0) 0 (q (lowered k (less e n)))
                            (eq-eqb (get_or (less e n) k 0) 0 none)
                        | inr more ↦ absurd
                            (both_ways (contains (lowered k e) n) not (contains_lowered e n k l holds (omega arith)))
                      ]
                  | inr fails ↦ cond-false {A = ℕ} (contains e n) (times_variable k q (less e n)) 0 fails
                ])
          ]
    ]

pub times_label-shift : (r : ℕ) (c : ℕ → ℕ) (n : List ℕ) (q : Form) (e : List ℕ) → length e ≡ length n →
    times_label r c (shift n q) e ≡ shift n (times_label r c q) e
unfolding times_label
times_label-shift r c n q e l =
    sum_below_same (λ k. c k * times_variable k (shift n q) e) (λ k. c k * shift n (times_variable k q) e) r
    (λ k below. ap (λ z. c k * z) (times_variable-shift k n q e l))
    ∙ pulled (contains e n) (λ k. c k * times_variable k q (less e n)) (λ k. times_variable k q (less e n))
  where
    pulled : (b : Bool) (f g : ℕ → ℕ) → sum_below (λ k. c k * cond b (g k) 0) r ≡ cond b (sum_below (λ k. c k * g k) r)
        0
    pulled b f g = elim b as (λ b. sum_below (λ k. c k * cond b (g k) 0) r ≡ cond b (sum_below (λ k. c k * g k) r) 0) [
      | true ↦ refl
      | false ↦ sum_below_same (λ k. c k * 0) (λ k. 0) r (λ k below. omega arith) ∙ sum_below-zeros r
    ]

-- a monomial times congruent polynomials
pub congruent_shift : (p r d k t : ℕ) (c : ℕ → ℕ) (n : List ℕ) (a b : Form) → IsMonomial 6 r k n → d + k ≡ t →
    Congruent p 6 r d c a b → Congruent p 6 r t c (shift n a) (shift n b)
congruent_shift p r d k t c n a b is_n total g = record {
  quotient = shift n g.quotient;
  sums = λ e is.
      let same : length e ≡ length n = is.long ∙ sym is_n.long in
      elim (cases_Bool (contains e n)) [
        | inl fits ↦
            let rest : IsMonomial 6 r d (less e n) = less_monomial 6 r d k t e n is is_n total fits in
            ap (λ z. z % p) (cond-true {A = ℕ} (contains e n) (a (less e n)) 0 fits) ∙ g.sums (less e n) rest
            ∙ ap (λ z. z % p)
            (sym (ap₂ (λ y z. y + z) (cond-true {A = ℕ} (contains e n) (b (less e n)) 0 fits)
            (times_label-shift r c n g.quotient e same
            ∙ cond-true {A = ℕ} (contains e n) (times_label r c g.quotient (less e n)) 0 fits)))
        | inr other ↦
            ap (λ z. z % p) (cond-false {A = ℕ} (contains e n) (a (less e n)) 0 other
            ∙ sym (ap₂ (λ y z. y + z) (cond-false {A = ℕ} (contains e n) (b (less e n)) 0 other)
            (times_label-shift r c n g.quotient e same
            ∙ cond-false {A = ℕ} (contains e n) (times_label r c g.quotient (less e n)) 0 other)))
      ];
}
