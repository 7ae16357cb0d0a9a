-- The free places, against a loop over all places.
use Rattle.std.proofs.Common.{◌≡◌, ◌≢◌, Bool, take, take_all, set, length-set, get_or-set_same, get_or-set_other, ℕ, zero, suc, ◌+◌, ◌<◌, ◌≤◌, List, [], ◌∷◌, ◌++◌, length, get_or, cond, eqb, true, false, refl, sym, ap, ◌∙◌, inl, inr, arith, length-append, eq-eqb, ne_eqb}
use Rattle.std.specs.Prelude.{◌==◌, ◌||◌}
use Rattle.std.specs.List.{All, AllPairs}
use Rattle.std.proofs.lemmas.List.Folds.{list_any_more}
use Rattle.std.specs.List.Sorted.{IsStrictlyIncreasing}
use Rattle.std.proofs.lemmas.List.Kept.{AllPairs-from_increasing}
use Rattle.std.proofs.lemmas.Bool.{cases_eq, cases_Bool, cond-true, cond-false, or_from}
use Rattle.std.proofs.lemmas.List.{get_or_push, get_or_append_left}
use Rattle.bmp_math.specs.Sums.{sum_below}
use Rattle.bmp_math.proofs.SumLemmas.{sum_below-zero, sum_below-suc, sum_below_same, sum_below-add, sum_below-zeros, sum_below_only}
use Rattle.bmp_linear.specs.FreePlaces.{has_place, free_places, IsMarked}

pub free_more_pivot : (ps : List ℕ) (j : ℕ) → has_place ps j ≡ true → free_places ps (j + 1) ≡ free_places ps j
free_more_pivot ps j h = let e : j + 1 ≡ suc j = omega arith in
    rw e (cond-true (has_place ps j) (free_places ps j) (free_places ps j ++ j ∷ []) h)

pub free_more_free : (ps : List ℕ) (j : ℕ) → has_place ps j ≡ false →
    free_places ps (j + 1) ≡ free_places ps j ++ j ∷ []
free_more_free ps j h = let e : j + 1 ≡ suc j = omega arith in
    rw e (cond-false (has_place ps j) (free_places ps j) (free_places ps j ++ j ∷ []) h)

free_grows : (ps : List ℕ) (n : ℕ) → length (free_places ps n) ≤ length (free_places ps (suc n))
free_grows ps n =
    elim (cases_Bool (has_place ps n)) [
      | inl pivot ↦ rw (cond-true (has_place ps n) (free_places ps n) (free_places ps n ++ n ∷ []) pivot) (omega arith)
      | inr free ↦ rw (cond-false (has_place ps n) (free_places ps n) (free_places ps n ++ n ∷ []) free)
          (simp length-append (omega arith))
    ]

-- a free place has a number
pub free_within : (ps : List ℕ) (n j : ℕ) → has_place ps j ≡ false → j < n →
    length (free_places ps j) < length (free_places ps n)
free_within ps zero j h l = absurd (omega arith)
free_within ps (suc n) j h l =
    elim (cases_eq j n) [
      | inl last ↦ rw last
          (rw (cond-false (has_place ps n) (free_places ps n) (free_places ps n ++ n ∷ [])
          (ap (has_place ps) (sym last) ∙ h)) (simp length-append (omega arith)))
      | inr other ↦ omega (arith, free_within ps n j h (omega arith), free_grows ps n)
    ]

-- a free place below n is below n
pub free_place_below : (ps : List ℕ) (n t : ℕ) → t < length (free_places ps n) → get_or (free_places ps n) t 0 < n
free_place_below ps zero t l = absurd (omega arith)
free_place_below ps (suc n) t l =
    elim (cases_Bool (has_place ps n)) [
      | inl pivot ↦
          let same : free_places ps (suc n) ≡ free_places ps n =
          cond-true (has_place ps n) (free_places ps n) (free_places ps n ++ n ∷ []) pivot in
          let before : get_or (free_places ps n) t 0 < n = free_place_below ps n t (rw same at l) in
          rw same (omega arith)
      | inr free ↦
          let more : free_places ps (suc n) ≡ free_places ps n ++ n ∷ [] =
          cond-false (has_place ps n) (free_places ps n) (free_places ps n ++ n ∷ []) free in
          let within : t < length (free_places ps n ++ n ∷ []) = rw more at l in
          let count : length (free_places ps n ++ n ∷ []) ≡ length (free_places ps n) + 1 = simp length-append refl in
          rw more
          (elim (cases_eq t (length (free_places ps n))) [
            | inl last ↦ rw (get_or_push (free_places ps n) n 0 t (sym last)) (omega arith)
            | inr other ↦
                let inside : t < length (free_places ps n) = omega arith in
                let before : get_or (free_places ps n) t 0 < n = free_place_below ps n t inside in
                rw (get_or_append_left (free_places ps n) (n ∷ []) 0 t inside) (omega arith)
          ])
    ]

-- a free place stands behind the free places below it
pub free_at : (ps : List ℕ) (n j : ℕ) → has_place ps j ≡ false → j < n →
    get_or (free_places ps n) (length (free_places ps j)) 0 ≡ j
free_at ps zero j h l = absurd (omega arith)
free_at ps (suc n) j h l =
    elim (cases_eq j n) [
      | inl last ↦ rw last
          (rw (cond-false (has_place ps n) (free_places ps n) (free_places ps n ++ n ∷ [])
          (ap (has_place ps) (sym last) ∙ h)) (get_or_push (free_places ps n) n 0 (length (free_places ps n)) refl))
      | inr other ↦
          let below : j < n = omega arith in
          elim (cases_Bool (has_place ps n)) [
            | inl pivot ↦ rw (cond-true (has_place ps n) (free_places ps n) (free_places ps n ++ n ∷ []) pivot)
                (free_at ps n j h below)
            | inr free ↦
                rw (cond-false (has_place ps n) (free_places ps n) (free_places ps n ++ n ∷ []) free)
                (get_or_append_left (free_places ps n) (n ∷ []) 0 (length (free_places ps j))
                (free_within ps n j h below) ∙ free_at ps n j h below)
          ]
    ]

-- how many places below n are in the list
places_below : List ℕ → ℕ → ℕ
places_below ps n = sum_below (λ j. cond (has_place ps j) 1 0) n

free_and_pivots : (ps : List ℕ) (n : ℕ) → length (free_places ps n) + places_below ps n ≡ n
unfolding places_below
free_and_pivots ps zero = rw (sum_below-zero (λ j. cond (has_place ps j) 1 0)) refl
free_and_pivots ps (suc n) =
    let before : length (free_places ps n) + sum_below (λ j. cond (has_place ps j) 1 0) n ≡ n = free_and_pivots ps n in
    elim (cases_Bool (has_place ps n)) [
      | inl pivot ↦ rw (
        sum_below-suc (λ j. cond (has_place ps j) 1 0) n,
        cond-true (has_place ps n) (free_places ps n) (free_places ps n ++ n ∷ []) pivot,
        cond-true {A = ℕ} (has_place ps n) 1 0 pivot,
      ) (omega arith)
      | inr free ↦ rw (
        sum_below-suc (λ j. cond (has_place ps j) 1 0) n,
        cond-false (has_place ps n) (free_places ps n) (free_places ps n ++ n ∷ []) free,
        cond-false {A = ℕ} (has_place ps n) 1 0 free,
      ) (simp length-append (omega arith))
    ]

-- each place is below the later ones
RisingPlaces : List ℕ → Type 0
RisingPlaces [] = Unit {0}
RisingPlaces (q ∷ qs) = All (λ r. q < r) qs × RisingPlaces qs

rising_from : (ps : List ℕ) → AllPairs (λ x y. x < y) ps → RisingPlaces ps
unfolding RisingPlaces
rising_from [] h = tt
rising_from (q ∷ qs) h = (
  λ k d l. h 0 (suc k) d (omega arith) (omega arith),
  rising_from qs (λ i j d l m. h (suc i) (suc j) d (omega arith) (omega arith)),
)

not_later : (qs : List ℕ) (j : ℕ) → All (λ r. j < r) qs → has_place qs j ≡ false
not_later [] j h = refl
not_later (r ∷ rs) j h =
    let above : j < r = h 0 0 (omega arith) in
    or_from (eqb r j) (has_place rs j) (ne_eqb r j (λ e. omega arith))
    (not_later rs j (λ k d l. h (suc k) d (omega arith)))

-- the first place or a later one, and not both
one_or_later : (q : ℕ) (qs : List ℕ) (j : ℕ) → All (λ r. q < r) qs →
    cond (has_place (q ∷ qs) j) 1 0 ≡ cond (eqb q j) 1 0 + cond (has_place qs j) 1 0
one_or_later q qs j h =
    elim (cases_eq q j) [
      | inl same ↦ rw (
        eq-eqb q j same,
        cond-false {A = ℕ} (has_place qs j) 1 0 (ap (has_place qs) (sym same) ∙ not_later qs q h),
      ) refl
      | inr other ↦ rw (ne_eqb q j other) (omega arith)
    ]

-- the places of a list that rises are counted once each
distinct_below : (ps : List ℕ) (n : ℕ) → RisingPlaces ps → All (λ j. j < n) ps → places_below ps n ≡ length ps
unfolding places_below RisingPlaces
distinct_below [] n r h = sum_below-zeros n
distinct_below (q ∷ qs) n r h =
    let later : sum_below (λ j. cond (has_place qs j) 1 0) n ≡ length qs =
    distinct_below qs n r.1 (λ k d l. h (suc k) d (omega arith)) in
    let here : q < n = h 0 0 (omega arith) in
    let split : sum_below (λ j. cond (has_place (q ∷ qs) j) 1 0) n
    ≡ sum_below (λ j. cond (eqb q j) 1 0 + cond (has_place qs j) 1 0) n =
    sum_below_same (λ j. cond (has_place (q ∷ qs) j) 1 0) (λ j. cond (eqb q j) 1 0 + cond (has_place qs j) 1 0) n
    (λ j l. one_or_later q qs j r.0) in
    let one : sum_below (λ j. cond (eqb q j) 1 0) n ≡ 1 =
    sum_below_only (λ j. cond (eqb q j) 1 0) n q here
    (λ j l other. cond-false {A = ℕ} (eqb q j) 1 0 (ne_eqb q j (λ e. other (sym e))))
    ∙ cond-true {A = ℕ} (eqb q q) 1 0 (eq-eqb q q refl) in
    omega (arith, split, one, later, sum_below-add (λ j. cond (eqb q j) 1 0) (λ j. cond (has_place qs j) 1 0) n)

-- the free places and the pivots are all places
pub length-free_places : (ps : List ℕ) (n : ℕ) → IsStrictlyIncreasing ps → All (λ j. j < n) ps →
    length (free_places ps n) + length ps ≡ n
length-free_places ps n r h =
    omega (arith, free_and_pivots ps n, distinct_below ps n (rising_from ps (AllPairs-from_increasing ps r)) h)

pub length-free_places-le : (ps : List ℕ) (n : ℕ) → length (free_places ps n) ≤ n
length-free_places-le ps n = omega (arith, free_and_pivots ps n)

-- the count in a loop
pub free_count_free : (ps : List ℕ) (j count : ℕ) → has_place ps j ≡ false → count ≡ length (free_places ps j) →
    count + 1 ≡ length (free_places ps (j + 1))
free_count_free ps j count h e = rw (free_more_free ps j h) (simp length-append (omega arith))

pub free_count_pivot : (ps : List ℕ) (j count : ℕ) → has_place ps j ≡ true → count ≡ length (free_places ps j) →
    count ≡ length (free_places ps (j + 1))
free_count_pivot ps j count h e = rw (free_more_pivot ps j h) e

or-true : (b : Bool) → (b || true) ≡ true
or-true true = refl
or-true false = refl

or-false : (b : Bool) → (b || false) ≡ b
or-false true = refl
or-false false = refl

-- marks, place by place
marked_at : (b : Bool) (q j m old : ℕ) → (q ≡ j → m ≡ 1) → (q ≢ j → m ≡ old) → old ≡ cond b 1 0 →
    m ≡ cond (b || eqb q j) 1 0
marked_at b q j m old here there before =
    elim (cases_eq q j) [
      | inl same ↦ rw (eq-eqb q j same, or-true b) (here same)
      | inr other ↦ rw (ne_eqb q j other, or-false b) (there other ∙ before)
    ]

pub marked_more : (ps marks : List ℕ) (k : ℕ) → k < length ps →
    ((j : ℕ) → j < length marks → get_or marks j 0 ≡ cond (has_place (take k ps) j) 1 0) →
    (j : ℕ) → j < length (set marks (get_or ps k 0) 1) → get_or (set marks (get_or ps k 0) 1) j 0
    ≡ cond (has_place (take (k + 1) ps) j) 1 0
marked_more ps marks k l before j within =
    let inside : j < length marks = rw length-set at within in
    let q : ℕ = get_or ps k 0 in
    rw (list_any_more (λ r. r == j) ps k 0 l)
    (marked_at (has_place (take k ps) j) (get_or ps k 0) j (get_or (set marks (get_or ps k 0) 1) j 0) (get_or marks j 0)
    (λ same. let there : get_or ps k 0 < length marks = omega arith in
    ap (λ m. get_or (set marks (get_or ps k 0) 1) m 0) (sym same) ∙ get_or-set_same marks (get_or ps k 0) 1 0 there)
    (λ other. get_or-set_other marks (get_or ps k 0) j 1 0 (λ same. other (sym same)))
    (before j inside))

pub marked_all : (ps marks : List ℕ) (k : ℕ) → length ps ≤ k →
    ((j : ℕ) → j < length marks → get_or marks j 0 ≡ cond (has_place (take k ps) j) 1 0) →
    IsMarked ps (length marks) marks
marked_all ps marks k l all =
    record { room = omega arith; same = λ j m. all j m ∙ ap (λ qs. cond (has_place qs j) 1 0) (take_all k ps l) }

pub marked_within : (ps marks : List ℕ) (m n : ℕ) → n ≤ m → IsMarked ps m marks → IsMarked ps n marks
marked_within ps marks m n l marked =
    record {
      room = let room : m ≤ length marks = marked.room in omega arith;
      same = λ j k. marked.same j (omega arith);
    }

-- what a mark says
pub free_if_unmarked : (b : Bool) (m : ℕ) → m ≡ cond b 1 0 → m ≡ 0 → b ≡ false
free_if_unmarked true m is none = absurd (let one : m ≡ 1 = is in omega arith)
free_if_unmarked false m is none = refl

pub pivot_if_marked : (b : Bool) (m : ℕ) → m ≡ cond b 1 0 → m ≢ 0 → b ≡ true
pivot_if_marked true m is some = refl
pivot_if_marked false m is some = absurd (some is)
