-- The sum of two runs of entries, made by passing the lowest place that is left.
use Rattle.std.proofs.Common.{◌≡◌, ◌≢◌, ℕ, ◌+◌, ◌*◌, ◌%◌, ◌<◌, ◌≤◌, List, [], ◌∷◌, ◌++◌, length, get_or, eqb, eq-eqb, ne_eqb, refl, sym, ap, ap₂, subst, ◌∙◌, inl, inr, arith}
use Rattle.std.specs.List.{All}
use Rattle.std.proofs.Math.Nat.{mod-mod, mod-eq_of_lt}
use Rattle.std.proofs.lemmas.Bool.{cases_eq, cond-true, cond-false}
use Rattle.std.proofs.lemmas.List.Elements.{All-nil, All-cons, All-head, All-tail, All-push}
use Rattle.bmp_math.specs.Congruences.{SameMod}
use Rattle.bmp_linear.specs.declared.vector.Entry.{Entry}
use Rattle.bmp_linear.specs.SparseVectors.{IsRising, IsSparse, FitsBelow, ValuesBelow, number_at}
use Rattle.bmp_linear.specs.EntryChanges.{after, StartsAt, IsNextEntry, IsEntrySum, times_entry}
use Rattle.bmp_linear.proofs.SparseLemmas.{absent, number_at-past, number_at-push_same, number_at-push_other, number_at-below, push_sparse}

-- before all entries no number stands
none_before : (v : List Entry) (q : ℕ) → All (λ d. q < d.place) v → number_at v q ≡ 0
none_before v q h = absent v q (λ k d l. let above : q < (get_or v k d).place = h k d l in λ e. omega arith)

at_head : (a : Entry) (u : List Entry) (q : ℕ) → a.place ≡ q → number_at (a ∷ u) q ≡ a.value
at_head a u q here = cond-true {A = ℕ} (eqb a.place q) a.value (number_at u q) (eq-eqb a.place q here)

past_head : (a : Entry) (u : List Entry) (q : ℕ) → a.place ≢ q → number_at (a ∷ u) q ≡ number_at u q
past_head a u q other = cond-false {A = ℕ} (eqb a.place q) a.value (number_at u q) (ne_eqb a.place q other)

-- rising entries are all at the first one's place or behind it
reaches : (a : Entry) (u : List Entry) (q : ℕ) → IsRising (a ∷ u) → q ≤ a.place → All (λ d. q ≤ d.place) (a ∷ u)
reaches a u q r l =
    All-cons (λ d. q ≤ d.place) a u l (λ k d m. let above : a.place < (get_or u k d).place = r.0 k d m in omega arith)

behind : (a : Entry) (u : List Entry) (q : ℕ) → IsRising (a ∷ u) → q < a.place → All (λ d. q < d.place) (a ∷ u)
behind a u q r l =
    All-cons (λ d. q < d.place) a u l (λ k d m. let above : a.place < (get_or u k d).place = r.0 k d m in omega arith)

module _ (p c : ℕ) where
  -- the next entry is the first one's
  pub next_is_first : (u v : List Entry) (d e : Entry) → 0 < length u → 0 < length v → IsSparse u → IsSparse v →
      ValuesBelow u p → (get_or u 0 d).place < (get_or v 0 e).place → IsNextEntry p c u v (get_or u 0 d)
  next_is_first [] v d e l m su sv values before = absurd (omega arith)
  next_is_first (a ∷ u) [] d e l m su sv values before = absurd (omega arith)
  next_is_first (a ∷ u) (b ∷ v) d e l m su sv values before =
      let here : number_at (a ∷ u) a.place ≡ a.value = at_head a u a.place refl in
      let none : number_at (b ∷ v) a.place ≡ 0 = none_before (b ∷ v) a.place (behind b v a.place sv.rising before) in
      let below : a.value < p = All-head (λ d. d.value < p) a u values in
      let whole : number_at (a ∷ u) a.place + c * number_at (b ∷ v) a.place ≡ a.value =
      ap₂ (λ x y. x + c * y) here none ∙ omega arith in
      record {
        reaches_first = reaches a u a.place su.rising (omega arith);
        reaches_second = reaches b v a.place sv.rising (omega arith);
        starts = inl refl;
        value = sym (mod-eq_of_lt below) ∙ ap (λ x. x % p) (sym whole);
      }

  -- the next entry is c times the second one's
  pub next_is_second : (u v : List Entry) (d e next : Entry) → 0 < length u → 0 < length v → IsSparse u → IsSparse v →
      (get_or v 0 e).place < (get_or u 0 d).place → next ≡ times_entry p c (get_or v 0 e) → IsNextEntry p c u v next
  next_is_second [] v d e next l m su sv before is_next = absurd (omega arith)
  next_is_second (a ∷ u) [] d e next l m su sv before is_next = absurd (omega arith)
  next_is_second (a ∷ u) (b ∷ v) d e next l m su sv before is_next =
      let here : number_at (b ∷ v) b.place ≡ b.value = at_head b v b.place refl in
      let none : number_at (a ∷ u) b.place ≡ 0 = none_before (a ∷ u) b.place (behind a u b.place su.rising before) in
      let whole : number_at (a ∷ u) b.place + c * number_at (b ∷ v) b.place ≡ c * b.value =
      ap₂ (λ x y. x + c * y) none here ∙ omega arith in
      subst (IsNextEntry p c (a ∷ u) (b ∷ v)) (sym is_next) (record {
        reaches_first = reaches a u b.place su.rising (omega arith);
        reaches_second = reaches b v b.place sv.rising (omega arith);
        starts = inr refl;
        value = ap (λ x. x % p) (sym whole);
      })

  -- both have an entry at the lowest place
  pub next_is_both : (u v : List Entry) (d e : Entry) (place value : ℕ) → 0 < length u → 0 < length v → IsSparse u →
      IsSparse v → (get_or v 0 e).place ≤ (get_or u 0 d).place → (get_or u 0 d).place ≤ (get_or v 0 e).place →
      place ≡ (get_or u 0 d).place → value ≡ ((get_or u 0 d).value + c * (get_or v 0 e).value) % p →
      IsNextEntry p c u v (record { place = place; value = value })
  next_is_both [] v d e place value l m su sv not_before not_behind is_place is_value = absurd (omega arith)
  next_is_both (a ∷ u) [] d e place value l m su sv not_before not_behind is_place is_value = absurd (omega arith)
  next_is_both (a ∷ u) (b ∷ v) d e place value l m su sv not_before not_behind is_place is_value =
      record {
        reaches_first = reaches a u place su.rising (omega arith);
        reaches_second = reaches b v place sv.rising (omega arith);
        starts = inl (omega arith);
        value = is_value ∙ ap₂ (λ x y. (x + c * y) % p) (sym (at_head a u place (omega arith)))
            (sym (at_head b v place (omega arith)));
      }

-- what is left after the lowest place
pub record IsLeft (u : List Entry) (q : ℕ) (rest : List Entry) : Type 0 where
  pub behind_it : All (λ d. q < d.place) rest
  pub others : (k : ℕ) → k ≢ q → number_at rest k ≡ number_at u k
  pub rising : IsRising rest
  pub shorter : length rest ≤ length u
  pub starts_shorter : StartsAt u q → length rest < length u

left_after : (u : List Entry) (q : ℕ) → IsRising u → All (λ d. q ≤ d.place) u → IsLeft u q (after u q)
left_after [] q r h = record {
  behind_it = All-nil (λ d. q < d.place);
  others = λ k other. refl;
  rising = r;
  shorter = omega arith;
  starts_shorter = λ starts. absurd starts;
}
left_after (a ∷ u) q r h =
    elim (cases_eq a.place q) [
      | inl here ↦
          subst (IsLeft (a ∷ u) q) (sym (cond-true {A = List Entry} (eqb a.place q) u (a ∷ u) (eq-eqb a.place q here)))
          (record {
            behind_it = λ k d l. let above : a.place < (get_or u k d).place = r.0 k d l in omega arith;
            others = λ k other. sym (past_head a u k (λ e. other (sym e ∙ here)));
            rising = r.1;
            shorter = omega arith;
            starts_shorter = λ starts. omega arith;
          })
      | inr other ↦
          let first : q ≤ a.place = All-head (λ d. q ≤ d.place) a u h in
          subst (IsLeft (a ∷ u) q)
          (sym (cond-false {A = List Entry} (eqb a.place q) u (a ∷ u) (ne_eqb a.place q other))) (record {
            behind_it = behind a u q r (omega arith);
            others = λ k apart. refl;
            rising = r;
            shorter = omega arith;
            starts_shorter = λ starts. absurd (other starts);
          })
    ]

-- what holds of all entries holds of those that are left
left_keep : (P : Entry → Type 0) (u : List Entry) (q : ℕ) → All P u → All P (after u q)
left_keep P [] q h = h
left_keep P (a ∷ u) q h =
    elim (cases_eq a.place q) [
      | inl here ↦ subst (All P) (sym (cond-true {A = List Entry} (eqb a.place q) u (a ∷ u) (eq-eqb a.place q here)))
          (All-tail P a u h)
      | inr other ↦ subst (All P) (sym (cond-false {A = List Entry} (eqb a.place q) u (a ∷ u) (ne_eqb a.place q other)))
          h
    ]

-- the entries so far are the sum before what is left
pub record IsSummedSoFar (p c : ℕ) (u v u_left v_left w : List Entry) : Type 0 where
  pub sparse : IsSparse w
  pub values : ValuesBelow w p
  pub first : IsSparse u_left
  pub second : IsSparse v_left
  pub first_values : ValuesBelow u_left p
  pub second_values : ValuesBelow v_left p
  pub before_first : All (λ d. FitsBelow w d.place) u_left
  pub before_second : All (λ d. FitsBelow w d.place) v_left
  pub same : (k : ℕ) → SameMod p (number_at w k + (number_at u_left k + c * number_at v_left k))
      (number_at u k + c * number_at v k)

module _ (p c : ℕ) (u v : List Entry) where
  pub summed_none : IsSparse u → IsSparse v → ValuesBelow u p → ValuesBelow v p → IsSummedSoFar p c u v u v []
  summed_none su sv hu hv = record {
    sparse = record { rising = tt; not_zero = All-nil (λ e. e.value ≢ 0) };
    values = All-nil (λ e. e.value < p);
    first = su;
    second = sv;
    first_values = hu;
    second_values = hv;
    before_first = λ k d l i x m. absurd (omega arith);
    before_second = λ k d l i x m. absurd (omega arith);
    same = λ k. let whole : 0 + (number_at u k + c * number_at v k) ≡ number_at u k + c * number_at v k = omega arith in
        ap (λ x. x % p) whole;
  }

  -- the whole sum
  pub summed_all : (u_left v_left w : List Entry) → 0 < p → length u_left ≡ 0 → length v_left ≡ 0 →
      IsSummedSoFar p c u v u_left v_left w → IsEntrySum p c u v w
  summed_all u_left v_left w some no_first no_second so_far = record {
    sparse = so_far.sparse;
    values = so_far.values;
    same = λ k.
        let none : number_at u_left k + c * number_at v_left k ≡ 0 =
        ap₂ (λ x y. x + c * y) (none_left u_left k no_first) (none_left v_left k no_second) ∙ omega arith in
        let whole : number_at w k + (number_at u_left k + c * number_at v_left k) ≡ number_at w k = omega arith in
        sym (mod-eq_of_lt (number_at-below w p k some so_far.values)) ∙ ap (λ x. x % p) (sym whole) ∙ so_far.same k;
  }
    where
      none_left : (r : List Entry) (k : ℕ) → length r ≡ 0 → number_at r k ≡ 0
      none_left [] k l = refl
      none_left (a ∷ r) k l = absurd (omega arith)

  module _ (u_left v_left w : List Entry) (next : Entry) (so_far : IsSummedSoFar p c u v u_left v_left w)
      (is_next : IsNextEntry p c u_left v_left next) where
    first_rest : IsLeft u_left next.place (after u_left next.place)
    first_rest = left_after u_left next.place so_far.first.rising is_next.reaches_first

    second_rest : IsLeft v_left next.place (after v_left next.place)
    second_rest = left_after v_left next.place so_far.second.rising is_next.reaches_second

    -- all entries so far are before the next one
    pub fits_next : FitsBelow w next.place
    fits_next = elim is_next.starts [
      | inl first ↦ fits_start u_left so_far.before_first first
      | inr second ↦ fits_start v_left so_far.before_second second
    ]
      where
        fits_start : (r : List Entry) → All (λ d. FitsBelow w d.place) r → StartsAt r next.place →
            FitsBelow w next.place
        fits_start [] h starts = absurd starts
        fits_start (a ∷ r) h starts = subst (FitsBelow w) starts (All-head (λ d. FitsBelow w d.place) a r h)

    pub fewer_left : length (after u_left next.place) + length (after v_left next.place) < length u_left + length v_left
    fewer_left =
        let first_shorter = first_rest.shorter in
        let second_shorter = second_rest.shorter in
        elim is_next.starts [
          | inl first ↦ let less : length (after u_left next.place) < length u_left = first_rest.starts_shorter first in
              omega (arith, second_shorter)
          | inr second ↦ let less : length (after v_left next.place) < length v_left =
              second_rest.starts_shorter second in omega (arith, first_shorter)
        ]

    -- entries w' that have the next number at its place, and elsewhere those of w
    summed_with : (w' : List Entry) → IsSparse w' → ValuesBelow w' p → ((q : ℕ) → next.place < q → FitsBelow w' q) →
        number_at w' next.place ≡ next.value → ((k : ℕ) → k ≢ next.place → number_at w' k ≡ number_at w k) →
        IsSummedSoFar p c u v (after u_left next.place) (after v_left next.place) w'
    summed_with w' sparse values fits_later here others = record {
      sparse = sparse;
      values = values;
      first = record {
        rising = first_rest.rising;
        not_zero = left_keep (λ e. e.value ≢ 0) u_left next.place so_far.first.not_zero;
      };
      second = record {
        rising = second_rest.rising;
        not_zero = left_keep (λ e. e.value ≢ 0) v_left next.place so_far.second.not_zero;
      };
      first_values = left_keep (λ e. e.value < p) u_left next.place so_far.first_values;
      second_values = left_keep (λ e. e.value < p) v_left next.place so_far.second_values;
      before_first = λ k d l. fits_later (get_or (after u_left next.place) k d).place (first_rest.behind_it k d l);
      before_second = λ k d l. fits_later (get_or (after v_left next.place) k d).place (second_rest.behind_it k d l);
      same = λ k. elim (cases_eq k next.place) [
        | inl at ↦ subst (λ k. SameMod p
            (number_at w' k + (number_at (after u_left next.place) k + c * number_at (after v_left next.place) k))
            (number_at u k + c * number_at v k)) (sym at) at_next
        | inr other ↦
            ap (λ x. x % p) (ap₂ (λ x y. x + y) (others k other)
            (ap₂ (λ x y. x + c * y) (first_rest.others k other) (second_rest.others k other))) ∙ so_far.same k
      ];
    }
      where
        at_next : SameMod p
            (number_at w' next.place
            + (number_at (after u_left next.place) next.place + c * number_at (after v_left next.place) next.place))
            (number_at u next.place + c * number_at v next.place)
        at_next =
            let no_first : number_at (after u_left next.place) next.place ≡ 0 =
            none_before (after u_left next.place) next.place first_rest.behind_it in
            let no_second : number_at (after v_left next.place) next.place ≡ 0 =
            none_before (after v_left next.place) next.place second_rest.behind_it in
            let none : number_at w next.place ≡ 0 = number_at-past w next.place fits_next in
            let sum : number_at w' next.place
            + (number_at (after u_left next.place) next.place + c * number_at (after v_left next.place) next.place)
            ≡ (number_at u_left next.place + c * number_at v_left next.place) % p =
            ap₂ (λ x y. x + y) here (ap₂ (λ x y. x + c * y) no_first no_second) ∙ omega (arith, is_next.value) in
            let whole : number_at w next.place + (number_at u_left next.place + c * number_at v_left next.place)
            ≡ number_at u_left next.place + c * number_at v_left next.place = omega arith in
            ap (λ x. x % p) sum ∙ mod-mod (number_at u_left next.place + c * number_at v_left next.place) p
            ∙ ap (λ x. x % p) (sym whole) ∙ so_far.same next.place

    -- the next number is 0
    pub summed_zero : (u' v' w' : List Entry) → u' ≡ after u_left next.place → v' ≡ after v_left next.place → w' ≡ w →
        next.value ≡ 0 → IsSummedSoFar p c u v u' v' w'
    summed_zero u' v' w' is_u is_v is_w none =
        rw (is_u, is_v, is_w) (summed_with w so_far.sparse so_far.values
        (λ q above k d l. let below : (get_or w k d).place < next.place = fits_next k d l in omega arith)
        (number_at-past w next.place fits_next ∙ sym none) (λ k other. refl))

    -- the next entry is appended
    pub summed_more : (u' v' w' : List Entry) → u' ≡ after u_left next.place → v' ≡ after v_left next.place →
        w' ≡ w ++ next ∷ [] → 0 < p → next.value ≢ 0 → IsSummedSoFar p c u v u' v' w'
    summed_more u' v' w' is_u is_v is_w some not_zero =
        rw (is_u, is_v, is_w)
        (summed_with (w ++ next ∷ []) (push_sparse w next so_far.sparse fits_next not_zero)
        (All-push (λ e. e.value < p) w next so_far.values (value_below some))
        fits_later
        (number_at-push_same w next fits_next) (λ k other. number_at-push_other w next k (λ e. other (sym e))))
      where
        fits_later : (q : ℕ) → next.place < q → FitsBelow (w ++ next ∷ []) q
        fits_later q above =
            All-push (λ e. e.place < q) w next
            (λ k d l. let below : (get_or w k d).place < next.place = fits_next k d l in omega arith) above

        value_below : 0 < p → next.value < p
        value_below some = let e = is_next.value in omega (arith, e)
