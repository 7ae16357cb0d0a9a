-- The numbers of a vector in a run of places, and how they are added entry by entry.
use Rattle.std.proofs.Common.{◌≡◌, ◌≢◌, ℕ, zero, suc, ◌+◌, ◌-◌, ◌*◌, ◌%◌, ◌<◌, ◌≤◌, List, [], ◌∷◌, length, get_or, set, take, drop, cond, eqb, ltb, true, false, eq-eqb, ne_eqb, get_or-set_same, get_or-set_other, refl, sym, ap, ap₂, subst, ◌∙◌, inl, inr, arith}
use Rattle.std.specs.List.Sorted.{IsNonDecreasingBy, IsPartitionPoint}
use Rattle.std.proofs.lemmas.List.{length-take, get_or-take, get_or-drop}
use Rattle.std.proofs.Math.Nat.{add-mod-mod, mod-eq_of_lt}
use Rattle.std.proofs.lemmas.Bool.{cases_eq, cases_lt, cond-true, cond-false, ltb-true, ltb-false}
use Rattle.bmp_linear.specs.declared.vector.Entry.{Entry}
use Rattle.bmp_linear.specs.SparseVectors.{IsRising, IsSparse, FitsBelow, number_at}
use Rattle.bmp_linear.proofs.SparseLemmas.{number_at_more, number_at-own, number_at-past, taken_fits}
use Rattle.bmp_linear.proofs.MergeLemmas.{rising_at, fits_above}

-- what a search for a place in entries finds
pub places_rise : (v : List Entry) → IsRising v → IsNonDecreasingBy (λ (e : Entry). e.place) v
places_rise v rising i j d order within = elim (cases_eq i j) [
  | inl same ↦ let equal : (get_or v i d).place ≡ (get_or v j d).place = ap (λ k. (get_or v k d).place) same in
      omega arith
  | inr other ↦ let before : (get_or v i d).place < (get_or v j d).place =
      rising_at v i j d rising (omega arith) within in omega arith
]

pub taken_before : (v : List Entry) (at place : ℕ) →
    IsPartitionPoint (λ (e : Entry). ltb e.place place ≡ true) (λ e. ltb e.place place ≡ false) v at →
    FitsBelow (take at v) place
taken_before v at place point k d l =
    let inside : k < at = omega (arith, l, length-take at v) in
    let same : get_or (take at v) k d ≡ get_or v k d = get_or-take at v k d inside in
    subst (λ (e : Entry). e.place < place) (sym same)
    (ltb-true (get_or v k d).place place (point.0 k d (omega arith) inside))

pub reached_from : (v : List Entry) (at place : ℕ) →
    IsPartitionPoint (λ (e : Entry). ltb e.place place ≡ true) (λ e. ltb e.place place ≡ false) v at → (d : Entry) →
    at < length v → place ≤ (get_or v at d).place
reached_from v at place point d l = ltb-false (get_or v at d).place place (point.1 at d (omega arith) l)

-- entries past a place say nothing of it
pub number_at-take : (v : List Entry) (k j : ℕ) → IsRising v → ((d : Entry) → k < length v → j < (get_or v k d).place) →
    number_at (take k v) j ≡ number_at v j
number_at-take [] zero j r past = refl
number_at-take [] (suc k) j r past = refl
number_at-take (e ∷ es) zero j r past =
    let here : j < e.place = past e (omega arith) in
    sym (cond-false {A = ℕ} (eqb e.place j) e.value (number_at es j) (ne_eqb e.place j (λ same. absurd (omega arith)))
    ∙ later es (λ i d l. let above : e.place < (get_or es i d).place = r.0 i d l in omega arith))
  where
    later : (w : List Entry) → ((i : ℕ) (d : Entry) → i < length w → j < (get_or w i d).place) → number_at w j ≡ 0
    later [] h = refl
    later (f ∷ fs) h =
        let first : j < f.place = h 0 f (omega arith) in
        cond-false {A = ℕ} (eqb f.place j) f.value (number_at fs j) (ne_eqb f.place j (λ same. absurd (omega arith)))
        ∙ later fs (λ i d l. h (suc i) d (omega arith))
number_at-take (e ∷ es) (suc k) j r past =
    ap (λ n. cond (eqb e.place j) e.value n) (number_at-take es k j r.1 (λ d l. past d (omega arith)))

-- f times the numbers from `start` on were added, modulo n
pub record IsRunAdded (n f : ℕ) (v : List Entry) (start len : ℕ) (old new : List ℕ) : Type 0 where
  pub added : (c : ℕ) → c < len → get_or new c 0 ≡ (get_or old c 0 + f * number_at v (start + c)) % n

module _ (n f : ℕ) (v : List Entry) (start len : ℕ) (old : List ℕ) (sparse : IsSparse v)
    (below : (c : ℕ) → c < len → get_or old c 0 < n) where
  -- nothing is added where the number is 0
  unchanged : (c number : ℕ) → c < len → number ≡ 0 → (get_or old c 0 + f * number) % n ≡ get_or old c 0
  unchanged c number inside none =
      let whole : get_or old c 0 + f * 0 ≡ get_or old c 0 = omega arith in
      ap (λ z. (get_or old c 0 + f * z) % n) none ∙ ap (λ z. z % n) whole ∙ mod-eq_of_lt (below c inside)

  pub run_none : (k : ℕ) → FitsBelow (take k v) start → IsRunAdded n f (take k v) start len old old
  run_none k passed = record {
    added = λ c inside. sym
        (unchanged c (number_at (take k v) (start + c)) inside
        (number_at-past (take k v) (start + c) (fits_above (take k v) start (start + c) (omega arith) passed)));
  }

  module _ (k : ℕ) (d : Entry) (new : List ℕ) (within : k < length v) (from : start ≤ (get_or v k d).place)
      (before : (get_or v k d).place < start + len) (so_far : IsRunAdded n f (take k v) start len old new) where
    -- where the next entry is added, nothing was added yet
    pub run_untouched : (sum : ℕ) → sum ≡ get_or new ((get_or v k d).place - start) 0 →
        sum ≡ get_or old ((get_or v k d).place - start) 0
    run_untouched sum is =
        let c = (get_or v k d).place - start in
        let place : start + ((get_or v k d).place - start) ≡ (get_or v k d).place = omega arith in
        let inside : (get_or v k d).place - start < len = omega arith in
        is ∙ so_far.added c inside
        ∙ unchanged c (number_at (take k v) (start + c)) inside
        (ap (number_at (take k v)) place
        ∙ number_at-past (take k v) (get_or v k d).place (taken_fits v k d sparse.rising within))

    pub run_below : (sum : ℕ) → sum ≡ get_or new ((get_or v k d).place - start) 0 → sum < n
    run_below sum is =
        let inside : (get_or v k d).place - start < len = omega arith in
        subst (λ z. z < n) (sym (run_untouched sum is)) (below ((get_or v k d).place - start) inside)

    pub run_more :
        (sum value term total : ℕ) → len ≤ length new → sum ≡ get_or new ((get_or v k d).place - start) 0 →
        term ≡ (f * value) % n → value ≡ (get_or v k d).value → total ≡ (sum + term) % n →
        IsRunAdded n f (take (k + 1) v) start len old (set new ((get_or v k d).place - start) total)
    run_more sum value term total room is_sum is_term is_value is_total = record {
      added = λ c inside. elim (cases_eq c ((get_or v k d).place - start)) [
        | inl here ↦
            let place : (get_or v k d).place ≡ start + c = omega arith in
            let length_is : (get_or v k d).place - start < length new = omega arith in
            let number : number_at (take (k + 1) v) (start + c) ≡ (get_or v k d).value =
            number_at_more v k (start + c) d sparse.rising within
            ∙ cond-true {A = ℕ} (eqb (get_or v k d).place (start + c)) (get_or v k d).value
            (number_at (take k v) (start + c)) (eq-eqb (get_or v k d).place (start + c) place) in
            ap (λ m. get_or (set new ((get_or v k d).place - start) total) m 0) here
            ∙ get_or-set_same new ((get_or v k d).place - start) total 0 length_is
            ∙ is_total
            ∙ ap₂ (λ s t. (s + t) % n) (run_untouched sum is_sum ∙ ap (λ m. get_or old m 0) (sym here)) is_term
            ∙ add-mod-mod (get_or old c 0) (f * value) n
            ∙ ap (λ z. (get_or old c 0 + f * z) % n) (is_value ∙ sym number)
        | inr other ↦
            let apart : (get_or v k d).place ≢ start + c = λ same. other (omega arith) in
            let number : number_at (take (k + 1) v) (start + c) ≡ number_at (take k v) (start + c) =
            number_at_more v k (start + c) d sparse.rising within
            ∙ cond-false {A = ℕ} (eqb (get_or v k d).place (start + c)) (get_or v k d).value
            (number_at (take k v) (start + c)) (ne_eqb (get_or v k d).place (start + c) apart) in
            get_or-set_other new ((get_or v k d).place - start) c total 0 other
            ∙ so_far.added c inside
            ∙ ap (λ z. (get_or old c 0 + f * z) % n) (sym number)
      ];
    }

  pub run_all : (k : ℕ) (new : List ℕ) → ((d : Entry) → k < length v → start + len ≤ (get_or v k d).place) →
      IsRunAdded n f (take k v) start len old new → (c : ℕ) → c < len →
      get_or new c 0 ≡ (get_or old c 0 + f * number_at v (start + c)) % n
  run_all k new past so_far c inside =
      so_far.added c inside
      ∙ ap (λ z. (get_or old c 0 + f * z) % n)
      (number_at-take v k (start + c) sparse.rising
      (λ d l. let beyond : start + len ≤ (get_or v k d).place = past d l in omega arith))

-- the entries between two places
pub runs_in_order : (v : List Entry) (a b m n : ℕ) → a ≤ length v → FitsBelow (take a v) m →
    ((d : Entry) → b < length v → n ≤ (get_or v b d).place) → m ≤ n → a ≤ b
runs_in_order v a b m n within before from order = elim (cases_lt b a) [
  | inl less ↦
      let d : Entry = record { place = 0; value = 0 } in
      let taken : b < length (take a v) = omega (arith, length-take a v, less, within) in
      let low : (get_or (take a v) b d).place < m = before b d taken in
      let same : (get_or (take a v) b d).place ≡ (get_or v b d).place =
      ap (λ (e : Entry). e.place) (get_or-take a v b d less) in
      absurd (omega (arith, low, same, order, from d (omega arith)))
  | inr fine ↦ fine
]

-- of the entry number i of a part
module _ (v : List Entry) (first last start len i : ℕ) (d : Entry) (sparse : IsSparse v) (within : last ≤ length v)
    (inside : first + i < last)
    (passed : FitsBelow (take last v) (start + len)) (reached : (e : Entry) → first < length v →
    start ≤ (get_or v first e).place) where
  pub entry_from : start ≤ (get_or v (first + i) d).place
  entry_from = elim (cases_eq i 0) [
    | inl none ↦
        let same : (get_or v (first + i) d).place ≡ (get_or v first d).place =
        ap (λ k. (get_or v k d).place) (let e : first + i ≡ first = omega arith in e) in
        omega (arith, same, reached d (omega arith))
    | inr some ↦
        let later : (get_or v first d).place < (get_or v (first + i) d).place =
        rising_at v first (first + i) d sparse.rising (omega arith) (omega arith) in
        omega (arith, later, reached d (omega arith))
  ]

  pub entry_before : (get_or v (first + i) d).place < start + len
  entry_before =
      let taken : first + i < length (take last v) = omega (arith, length-take last v, inside, within) in
      let low : (get_or (take last v) (first + i) d).place < start + len = passed (first + i) d taken in
      let same : (get_or (take last v) (first + i) d).place ≡ (get_or v (first + i) d).place =
      ap (λ (e : Entry). e.place) (get_or-take last v (first + i) d inside) in
      omega arith

  pub entry_read : get_or (take (last - first) (drop first v)) i d ≡ get_or v (first + i) d
  entry_read = get_or-take (last - first) (drop first v) i d (omega arith) ∙ get_or-drop first v i d

  -- what is read of it where a vector's numbers are added, entry after entry
  module _ (n f place : ℕ) (old new : List ℕ) (below : (c : ℕ) → c < len → get_or old c 0 < n)
      (place_is : place ≡ (get_or (take (last - first) (drop first v)) i d).place)
      (so_far : IsRunAdded n f (take (first + i) v) start len old new) where
    place_read : place ≡ (get_or v (first + i) d).place
    place_read = place_is ∙ ap (λ (e : Entry). e.place) entry_read

    pub run_from : start ≤ place
    run_from = omega (arith, place_read, entry_from)

    pub run_before : place < start + len
    run_before = omega (arith, place_read, entry_before)

    pub run_sum_below : (sum : ℕ) → sum ≡ get_or new (place - start) 0 → sum < n
    run_sum_below sum is =
        run_below n f v start len old sparse below (first + i) d new (omega (arith, inside, within)) entry_from
        entry_before so_far sum
        (is ∙ ap (λ z. get_or new (z - start) 0) place_read)

    pub run_value_below : ((c : ℕ) → c < len → number_at v (start + c) < n) → (value : ℕ) →
        value ≡ (get_or (take (last - first) (drop first v)) i d).value → value < n
    run_value_below numbers value is =
        let at : start + ((get_or v (first + i) d).place - start) ≡ (get_or v (first + i) d).place =
        omega (arith, entry_from) in
        let small : number_at v (start + ((get_or v (first + i) d).place - start)) < n =
        numbers ((get_or v (first + i) d).place - start) (omega (arith, entry_from, entry_before)) in
        let own : number_at v (get_or v (first + i) d).place ≡ (get_or v (first + i) d).value =
        number_at-own v (first + i) d sparse.rising (omega (arith, inside, within)) in
        subst (λ z. z < n) (ap (number_at v) at ∙ own ∙ sym (is ∙ ap (λ (e : Entry). e.value) entry_read)) small

    pub run_step :
        (sum value term total : ℕ) (final : List ℕ) → len ≤ length new → sum ≡ get_or new (place - start) 0 →
        term ≡ (f * value) % n → value ≡ (get_or (take (last - first) (drop first v)) i d).value →
        total ≡ (sum + term) % n →
        final ≡ set new (place - start) total → IsRunAdded n f (take (first + (i + 1)) v) start len old final
    run_step sum value term total final room is_sum is_term is_value is_total is_final =
        let next : (first + i) + 1 ≡ first + (i + 1) = omega arith in
        subst (λ k. IsRunAdded n f (take k v) start len old final) next
        (subst (IsRunAdded n f (take ((first + i) + 1) v) start len old)
        (sym (is_final ∙ ap (λ z. set new (z - start) total) place_read))
        (run_more n f v start len old sparse below (first + i) d new (omega (arith, inside, within)) entry_from
        entry_before so_far sum value term total room
        (is_sum ∙ ap (λ z. get_or new (z - start) 0) place_read) is_term
        (is_value ∙ ap (λ (e : Entry). e.value) entry_read) is_total))
