-- Vectors kept as entries, against the numbers that they stand for.
use Rattle.std.proofs.Common.{◌≡◌, ◌≢◌, ℕ, zero, suc, ◌+◌, ◌*◌, ◌<◌, List, [], ◌∷◌, ◌++◌, length, get_or, set, take, cond, eqb, eqb-true, Bool, true, false, length-set, get_or-set_same, get_or-set_other, refl, sym, ap, ◌∙◌, inl, inr, arith, eq-eqb, ne_eqb}
use Rattle.std.specs.List.{All, sum_by}
use Rattle.std.proofs.lemmas.Bool.{cases_eq, cond-true, cond-false}
use Rattle.std.proofs.lemmas.List.Elements.{All-push}
use Rattle.std.proofs.lemmas.List.Sums.{sum_by-cons}
use Rattle.bmp_math.specs.Sums.{sum_below}
use Rattle.bmp_math.proofs.SumLemmas.{sum_below_same, sum_below-add, sum_below-zeros, sum_below_only}
use Rattle.bmp_linear.specs.declared.vector.Entry.{Entry}
use Rattle.bmp_linear.specs.SparseVectors.{IsRising, IsSparse, FitsBelow, ValuesBelow, number_at}

-- `All` of a list with one element more
all_head : {X : Type 0} (P : X → Type 0) (x : X) (xs : List X) → All P (x ∷ xs) → P x
all_head P x xs h = h 0 x (omega arith)

all_tail : {X : Type 0} (P : X → Type 0) (x : X) (xs : List X) → All P (x ∷ xs) → All P xs
all_tail P x xs h k d l = h (suc k) d (omega arith)

-- where no entry stands, the number is 0
pub absent : (v : List Entry) (j : ℕ) → All (λ e. e.place ≢ j) v → number_at v j ≡ 0
absent [] j h = refl
absent (e ∷ es) j h =
    cond-false (eqb e.place j) e.value (number_at es j) (ne_eqb e.place j (all_head (λ d. d.place ≢ j) e es h))
    ∙ absent es j (all_tail (λ d. d.place ≢ j) e es h)

-- the number at i, times x, is that of the first entry or that of the later ones
first_or_later : (e : Entry) (es : List Entry) (i x : ℕ) → All (λ d. e.place < d.place) es →
    number_at (e ∷ es) i * x ≡ cond (eqb e.place i) (e.value * x) 0 + number_at es i * x
first_or_later e es i x above =
    elim (cases_eq e.place i) [
      | inl same ↦
          let none : number_at es i ≡ 0 =
          absent es i (λ k d l. let after : e.place < (get_or es k d).place = above k d l in omega arith) in
          rw (
            cond-true (eqb e.place i) e.value (number_at es i) (eq-eqb e.place i same),
            cond-true (eqb e.place i) (e.value * x) 0 (eq-eqb e.place i same),
            none,
          ) (omega arith)
      | inr other ↦
          rw (
            cond-false (eqb e.place i) e.value (number_at es i) (ne_eqb e.place i other),
            cond-false (eqb e.place i) (e.value * x) 0 (ne_eqb e.place i other),
          ) (omega arith)
    ]

-- a sum over the entries is the sum over all places
pub sum_by-number_at : (v : List Entry) (n : ℕ) (g : ℕ → ℕ) → IsRising v → FitsBelow v n →
    sum_by (λ e. e.value * g e.place) v ≡ sum_below (λ i. number_at v i * g i) n
sum_by-number_at [] n g r h = sym (sum_below_same (λ i. 0 * g i) (λ i. 0) n (λ i l. omega arith) ∙ sum_below-zeros n)
sum_by-number_at (e ∷ es) n g r h =
    let later : FitsBelow es n = all_tail (λ d. d.place < n) e es h in
    let here : e.place < n = all_head (λ d. d.place < n) e es h in
    let split : sum_below (λ i. number_at (e ∷ es) i * g i) n
    ≡ sum_below (λ i. cond (eqb e.place i) (e.value * g i) 0 + number_at es i * g i) n =
    sum_below_same (λ i. number_at (e ∷ es) i * g i)
    (λ i. cond (eqb e.place i) (e.value * g i) 0 + number_at es i * g i) n
    (λ i l. first_or_later e es i (g i) r.0) in
    let first : sum_below (λ i. cond (eqb e.place i) (e.value * g i) 0) n ≡ e.value * g e.place =
    sum_below_only (λ i. cond (eqb e.place i) (e.value * g i) 0) n e.place here
    (λ i l other. cond-false (eqb e.place i) (e.value * g i) 0 (ne_eqb e.place i (λ same. other (sym same))))
    ∙ cond-true (eqb e.place e.place) (e.value * g e.place) 0 (eq-eqb e.place e.place refl) in
    omega (
      arith,
      sum_by-cons (λ d. d.value * g d.place) e es,
      sum_by-number_at es n g r.1 later,
      split,
      sum_below-add (λ i. cond (eqb e.place i) (e.value * g i) 0) (λ i. number_at es i * g i) n,
      first,
    )

-- of two tests that do not both hold, either may come first
cond-swap : (a b : Bool) (x y z : ℕ) → (a ≡ true → b ≡ false) → cond a x (cond b y z) ≡ cond b y (cond a x z)
cond-swap true b x y z h = sym (cond-false b y x (h refl))
cond-swap false b x y z h = refl

-- one entry more, in a loop
pub number_at_more : (v : List Entry) (i j : ℕ) (d : Entry) → IsRising v → i < length v →
    number_at (take (i + 1) v) j ≡ cond (eqb (get_or v i d).place j) (get_or v i d).value (number_at (take i v) j)
number_at_more [] i j d r l = absurd (omega arith)
number_at_more (e ∷ es) zero j d r l = refl
number_at_more (e ∷ es) (suc k) j d r l =
    let later : number_at (take (k + 1) es) j ≡ cond (eqb (get_or es k d).place j) (get_or es k d).value
    (number_at (take k es) j) = number_at_more es k j d r.1 (omega arith) in
    let step : suc k + 1 ≡ suc (k + 1) = omega arith in
    let above : e.place < (get_or es k d).place = r.0 k d (omega arith) in
    rw (step, later) (cond-swap (eqb e.place j) (eqb (get_or es k d).place j) e.value (get_or es k d).value
    (number_at (take k es) j) (λ t. let same : e.place ≡ j = eqb-true e.place j t in
    ne_eqb (get_or es k d).place j (λ e. omega arith)))

-- the numbers of one entry more are written
pub written_more : (v : List Entry) (ns : List ℕ) (i : ℕ) (d : Entry) → IsRising v → i < length v →
    ((j : ℕ) → j < length ns → get_or ns j 0 ≡ number_at (take i v) j) →
    (j : ℕ) → j < length (set ns (get_or v i d).place (get_or v i d).value) →
    get_or (set ns (get_or v i d).place (get_or v i d).value) j 0 ≡ number_at (take (i + 1) v) j
written_more v ns i d r l h j k =
    let within : j < length ns = rw length-set at k in
    elim (cases_eq (get_or v i d).place j) [
      | inl same ↦ let inside : (get_or v i d).place < length ns = omega arith in
          ap (λ m. get_or (set ns (get_or v i d).place (get_or v i d).value) m 0) (sym same)
          ∙ get_or-set_same ns (get_or v i d).place (get_or v i d).value 0 inside
          ∙ sym (number_at_more v i j d r l ∙ cond-true (eqb (get_or v i d).place j) (get_or v i d).value
          (number_at (take i v) j) (eq-eqb (get_or v i d).place j same))
      | inr other ↦ get_or-set_other ns (get_or v i d).place j (get_or v i d).value 0 (λ same. other (sym same))
          ∙ h j within ∙ sym
          (number_at_more v i j d r l ∙ cond-false (eqb (get_or v i d).place j) (get_or v i d).value
          (number_at (take i v) j) (ne_eqb (get_or v i d).place j other))
    ]

-- an entry at the end: its own place has its value, each other place has what it had
pub number_at-push_same : (v : List Entry) (e : Entry) → FitsBelow v e.place → number_at (v ++ e ∷ []) e.place ≡ e.value
number_at-push_same [] e h = cond-true {A = ℕ} (eqb e.place e.place) e.value 0 (eq-eqb e.place e.place refl)
number_at-push_same (d ∷ ds) e h =
    let here : d.place < e.place = h 0 d (omega arith) in
    cond-false {A = ℕ} (eqb d.place e.place) d.value (number_at (ds ++ e ∷ []) e.place)
    (ne_eqb d.place e.place (λ s. absurd (omega arith)))
    ∙ number_at-push_same ds e (λ k x l. h (suc k) x (omega arith))

pub number_at-push_other : (v : List Entry) (e : Entry) (j : ℕ) → e.place ≢ j →
    number_at (v ++ e ∷ []) j ≡ number_at v j
number_at-push_other [] e j h = cond-false {A = ℕ} (eqb e.place j) e.value 0 (ne_eqb e.place j h)
number_at-push_other (d ∷ ds) e j h = ap (λ z. cond (eqb d.place j) d.value z) (number_at-push_other ds e j h)

-- past the last entry the numbers are 0
pub number_at-past : (v : List Entry) (j : ℕ) → FitsBelow v j → number_at v j ≡ 0
number_at-past v j h =
    absent v j (λ k d l. let before : (get_or v k d).place < j = h k d l in λ s. absurd (omega arith))

push_rising : (v : List Entry) (e : Entry) → IsRising v → FitsBelow v e.place → IsRising (v ++ e ∷ [])
push_rising [] e h below = (λ k d l. absurd (omega arith), tt)
push_rising (d ∷ ds) e h below = (
  All-push (λ x. d.place < x.place) ds e h.0 (below 0 d (omega arith)),
  push_rising ds e h.1 (λ k x l. below (suc k) x (omega arith)),
)

pub push_sparse : (v : List Entry) (e : Entry) → IsSparse v → FitsBelow v e.place → e.value ≢ 0 → IsSparse (v ++ e ∷ [])
push_sparse v e h below other =
    record { rising = push_rising v e h.rising below; not_zero = All-push (λ x. x.value ≢ 0) v e h.not_zero other }

-- the entries before an entry have lower places
pub taken_fits : (v : List Entry) (i : ℕ) (d : Entry) → IsRising v → i < length v →
    FitsBelow (take i v) (get_or v i d).place
taken_fits [] i d r l = absurd (omega arith)
taken_fits (e ∷ es) zero d r l = λ k x m. absurd (omega arith)
taken_fits (e ∷ es) (suc i) d r l =
    λ k x m. elim k as (λ k. k < suc (length (take i es)) → (get_or (e ∷ take i es) k x).place < (get_or es i d).place)
    [ zero ↦ λ m. r.0 i d (omega arith) | suc k ↦ λ m. taken_fits es i d r.1 (omega arith) k x (omega arith) ] m

-- an entry's number stands at its place
pub number_at-own : (v : List Entry) (k : ℕ) (d : Entry) → IsRising v → k < length v →
    number_at v (get_or v k d).place ≡ (get_or v k d).value
number_at-own [] k d r l = absurd (omega arith)
number_at-own (e ∷ es) zero d r l =
    cond-true (eqb e.place e.place) e.value (number_at es e.place) (eq-eqb e.place e.place refl)
number_at-own (e ∷ es) (suc k) d r l =
    let above : e.place < (get_or es k d).place = r.0 k d (omega arith) in
    cond-false (eqb e.place (get_or es k d).place) e.value (number_at es (get_or es k d).place)
    (ne_eqb e.place (get_or es k d).place (λ s. omega arith))
    ∙ number_at-own es k d r.1 (omega arith)

-- numbers of a vector are below what its values are below
pub number_at-below : (v : List Entry) (p j : ℕ) → 0 < p → ValuesBelow v p → number_at v j < p
number_at-below [] p j some h = some
number_at-below (e ∷ es) p j some h =
    let later : number_at es j < p = number_at-below es p j some (all_tail (λ d. d.value < p) e es h) in
    elim (cases_eq e.place j) [
      | inl same ↦ rw (cond-true (eqb e.place j) e.value (number_at es j) (eq-eqb e.place j same))
          (all_head (λ d. d.value < p) e es h)
      | inr other ↦ rw (cond-false (eqb e.place j) e.value (number_at es j) (ne_eqb e.place j other)) later
    ]
