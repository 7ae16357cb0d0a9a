-- The kept columns of reduced rows are reduced, by the same trace: from this all that is said of them follows.
use Rattle.std.proofs.Common.{◌≡◌, ℕ, zero, suc, ◌+◌, ◌-◌, ◌*◌, ◌%◌, ◌<◌, ◌≤◌, leb, List, [], ◌∷◌, ◌++◌, length, get_or, inl, inr, refl, sym, ap, ◌∙◌, subst, arith}
use Rattle.std.specs.List.Sorted.{IsStrictlyIncreasing}
use Rattle.std.proofs.lemmas.Bool.{cases_eq, cases_lt, cond-true, cond-false, le-leb, lt-leb}
use Rattle.std.proofs.lemmas.List.{length-append, get_or_push, get_or_append_left}
use Rattle.bmp_math.specs.Vectors.{unit}
use Rattle.bmp_math.specs.Matrices.{Matrix}
use Rattle.bmp_math.proofs.SumLemmas.{sum_below_same}
use Rattle.bmp_linear.specs.declared.vector.Entry.{Entry}
use Rattle.bmp_linear.specs.SparseVectors.{FitsBelow, ValuesBelow, number_at}
use Rattle.bmp_linear.specs.Evidence.{vector_at}
use Rattle.bmp_linear.proofs.ShapeLemmas.{all_from_index}
use Rattle.bmp_elim.specs.Echelons.{IsEchelon}
use Rattle.bmp_elim.specs.Traces.{IsTrace}
use Rattle.bmp_linear.specs.RowVectors.{IsRowVector}
use Rattle.bmp_elim.specs.RowVectors.{AreRowVectors}
use Rattle.bmp_elim.specs.Eliminations.{IsReducedOf}
use Rattle.bmp_elim.specs.KeptColumns.{kept_place, kept_columns, IsPlacedColumn, ArePlacedColumns, IsColumnChoice, HasColumnDuals, HasColumnSums, AreColumns, AreKeptPivotsBelow}
use Rattle.bmp_elim.specs.Systems.{Solves}
use Rattle.bmp_elim.proofs.PlacedLemmas.{AreRising}
use Rattle.bmp_math.proofs.UnitLemmas.{unit_same, unit_other}
use Rattle.bmp_elim.proofs.EndLemmas.{trace_column, solution}

-- places that rise from n on
pub rising_at_least : (ps : List ℕ) (start n : ℕ) → AreRising ps → (start < length ps → n ≤ get_or ps start 0) →
    (i : ℕ) → start + i < length ps → n + i ≤ get_or ps (start + i) 0
rising_at_least ps start n rises first zero l =
    let same : start + 0 ≡ start = omega arith in
    let here : n ≤ get_or ps start 0 = first (omega arith) in
    rw same (omega arith)
rising_at_least ps start n rises first (suc i) l =
    let before : n + i ≤ get_or ps (start + i) 0 = rising_at_least ps start n rises first i (omega arith) in
    let next : start + suc i ≡ suc (start + i) = omega arith in
    let above : get_or ps (start + i) 0 < get_or ps (start + suc i) 0 = rises (start + i) (start + suc i) (omega
    arith) l in
    omega arith

module _ (split : ℕ) (chosen : List ℕ) where
  pub kept_early : (k : ℕ) → k < split → kept_place split chosen k ≡ k
  kept_early k l = cond-false {A = ℕ} (leb split k) (split + get_or chosen (k - split) 0) k (lt-leb split k l)

  pub kept_late : (i : ℕ) → kept_place split chosen (split + i) ≡ split + get_or chosen i 0
  kept_late i =
      let back : (split + i) - split ≡ i = omega arith in
      cond-true {A = ℕ} (leb split (split + i)) (split + get_or chosen ((split + i) - split) 0) (split + i) (le-leb
      split (split + i) (omega arith))
      ∙ ap (λ z. split + get_or chosen z 0) back

-- what is known of the reduced columns and the choice
pub record IsKeptFrom (p : ℕ) (old a t : Matrix) (ps : List ℕ) (split start : ℕ) (chosen kept : List ℕ) : Type 0 where
  pub reduced : IsReducedOf p old a t ps
  pub within : split ≤ old.cols
  pub choice : IsColumnChoice ps split start chosen kept

module _ {p : ℕ} {old a t : Matrix} {ps : List ℕ} {split start : ℕ} {chosen kept : List ℕ} (h : IsKeptFrom p old a
    t ps split start chosen kept) where
  -- a late pivot is that of a chosen column
  late_pivot : (i : ℕ) → i < length chosen → get_or ps (start + i) 0 ≡ split + get_or chosen i 0
  late_pivot i l = h.choice.shifted.each i l

  late_within : (i : ℕ) → i < length chosen → start + i < length ps
  late_within i l = omega (arith, h.choice.shifted.one_for_each)

  pub kept_count : length kept ≡ start + length chosen
  kept_count = omega (arith, h.choice.shifted.one_for_each, h.choice.pivots.one_for_each)

  -- where the pivots stand among the kept columns, the kept columns stand where the pivots do
  pub place_of_pivot : (k : ℕ) → k < length ps → kept_place split chosen (get_or kept k 0) ≡ get_or ps k 0
  place_of_pivot k l = elim (cases_lt k start) [
    | inl early ↦
        let under : get_or ps k 0 < split = h.choice.count.early k early in
        ap (kept_place split chosen) (h.choice.pivots.early k early l) ∙ kept_early split chosen (get_or ps k 0) under
    | inr late ↦
        let back : start + (k - start) ≡ k = omega arith in
        let inside : k - start < length chosen = omega (arith, h.choice.shifted.one_for_each) in
        ap (λ z. kept_place split chosen (get_or kept z 0)) (sym back)
        ∙ ap (kept_place split chosen) (h.choice.pivots.late (k - start) (omega arith))
        ∙ kept_late split chosen (k - start)
        ∙ sym (late_pivot (k - start) inside)
        ∙ ap (λ z. get_or ps z 0) back
  ]

  pub place_below : (k : ℕ) → k < split + length chosen → kept_place split chosen k < old.cols
  place_below k l = elim (cases_lt k split) [
    | inl early ↦ rw (kept_early split chosen k early) (omega (arith, h.within))
    | inr late ↦
        let back : split + (k - split) ≡ k = omega arith in
        let inside : k - split < length chosen = omega arith in
        let at : kept_place split chosen k ≡ get_or ps (start + (k - split)) 0 = ap (kept_place split chosen) (sym
        back) ∙ kept_late split chosen (k - split) ∙ sym (late_pivot (k - split) inside) in
        let below : get_or ps (start + (k - split)) 0 < a.cols = h.reduced.echelon.below (start + (k - split))
        (late_within (k - split) inside) in
        omega (arith, h.reduced.trace.cols)
  ]

  pub kept_trace : IsTrace p (kept_columns split chosen old) (kept_columns split chosen a) t
  kept_trace = record {
    rows = h.reduced.trace.rows;
    cols = refl;
    trace_rows = h.reduced.trace.trace_rows;
    trace_cols = h.reduced.trace.trace_cols;
    gives = λ i l j b. h.reduced.trace.gives i l (kept_place split chosen j) (place_below j b);
    faithful = h.reduced.trace.faithful;
  }

  kept_below : (k : ℕ) → k < length kept → get_or kept k 0 < split + length chosen
  kept_below k l = elim (cases_lt k start) [
    | inl early ↦
        let at : get_or kept k 0 ≡ get_or ps k 0 = h.choice.pivots.early k early (omega (
          arith,
          h.choice.pivots.one_for_each,
        )) in
        let under : get_or ps k 0 < split = h.choice.count.early k early in
        omega arith
    | inr late ↦
        let back : start + (k - start) ≡ k = omega arith in
        let at : get_or kept k 0 ≡ split + (k - start) = ap (λ z. get_or kept z 0) (sym back)
        ∙ h.choice.pivots.late (k - start) (omega (arith, h.choice.pivots.one_for_each)) in
        omega (arith, kept_count)
  ]

  pub kept_rising : AreRising kept
  kept_rising k l before within =
      let inside : l < length ps = omega (arith, h.choice.pivots.one_for_each) in
      elim (cases_lt l start) [
        | inl early ↦
            let first : get_or kept k 0 ≡ get_or ps k 0 = h.choice.pivots.early k (omega arith) (omega arith) in
            let second : get_or kept l 0 ≡ get_or ps l 0 = h.choice.pivots.early l early inside in
            let rises : get_or ps k 0 < get_or ps l 0 = h.reduced.echelon.rising k l before inside in
            omega arith
        | inr late ↦
            let back : start + (l - start) ≡ l = omega arith in
            let second : get_or kept l 0 ≡ split + (l - start) = ap (λ z. get_or kept z 0) (sym back)
            ∙ h.choice.pivots.late (l - start) (omega arith) in
            elim (cases_lt k start) [
              | inl early ↦
                  let first : get_or kept k 0 ≡ get_or ps k 0 = h.choice.pivots.early k early (omega arith) in
                  let under : get_or ps k 0 < split = h.choice.count.early k early in
                  omega arith
              | inr after ↦
                  let again : start + (k - start) ≡ k = omega arith in
                  let first : get_or kept k 0 ≡ split + (k - start) = ap (λ z. get_or kept z 0) (sym again)
                  ∙ h.choice.pivots.late (k - start) (omega arith) in
                  omega arith
            ]
      ]

  pub kept_increasing : IsStrictlyIncreasing kept
  kept_increasing k l = kept_rising k (k + 1) (omega arith) l

  -- what stands before a kept pivot stands before the pivot
  place_before : (k j : ℕ) → k < length ps → j < get_or kept k 0 → kept_place split chosen j < get_or ps k 0
  place_before k j l before = elim (cases_lt j split) [
    | inl early ↦ rw (kept_early split chosen j early) (elim (cases_lt k start) [
      | inl first ↦ let at : get_or kept k 0 ≡ get_or ps k 0 = h.choice.pivots.early k first l in omega arith
      | inr late ↦ let above : split ≤ get_or ps k 0 = h.choice.count.late k late l in omega arith
    ])
    | inr past ↦ elim (cases_lt k start) [
      | inl first ↦
          let at : get_or kept k 0 ≡ get_or ps k 0 = h.choice.pivots.early k first l in
          let under : get_or ps k 0 < split = h.choice.count.early k first in
          absurd (omega arith)
      | inr late ↦
          let back : start + (k - start) ≡ k = omega arith in
          let at : get_or kept k 0 ≡ split + (k - start) = ap (λ z. get_or kept z 0) (sym back)
          ∙ h.choice.pivots.late (k - start) (omega arith) in
          let again : split + (j - split) ≡ j = omega arith in
          let inside : j - split < length chosen = omega (arith, h.choice.shifted.one_for_each) in
          let place : kept_place split chosen j ≡ get_or ps (start + (j - split)) 0 = ap (kept_place split chosen)
          (sym again) ∙ kept_late split chosen (j - split) ∙ sym (late_pivot (j - split) inside) in
          let rises : get_or ps (start + (j - split)) 0 < get_or ps k 0 = h.reduced.echelon.rising (start + (j -
          split)) k (omega arith) l in
          omega arith
    ]
  ]

  to_pivot : (k : ℕ) → k < length kept → k < length ps
  to_pivot k l = omega (arith, h.choice.pivots.one_for_each)

  pub kept_echelon : IsEchelon (kept_columns split chosen a) kept
  kept_echelon = record {
    within = omega (arith, h.reduced.echelon.within, h.choice.pivots.one_for_each);
    below = kept_below;
    rising = kept_rising;
    one = λ k l. ap (a.entry k) (place_of_pivot k (to_pivot k l)) ∙ h.reduced.echelon.one k (to_pivot k l);
    zero_elsewhere = λ k i l b other. ap (a.entry i) (place_of_pivot k (to_pivot k l))
        ∙ h.reduced.echelon.zero_elsewhere k i (to_pivot k l) b other;
    zero_before = λ k j l before. h.reduced.echelon.zero_before k (kept_place split chosen j) (to_pivot k l)
        (place_before k j (to_pivot k l) before);
    zero_after = λ i j l b inside. h.reduced.echelon.zero_after i (kept_place split chosen j) (omega (
      arith,
      h.choice.pivots.one_for_each,
    )) b (rw h.reduced.trace.cols (place_below j inside));
  }

  pub columns_made : AreColumns split old chosen
  columns_made = record {
    rise = λ k l.
        let first : get_or ps (start + k) 0 ≡ split + get_or chosen k 0 = late_pivot k (omega arith) in
        let second : get_or ps (start + (k + 1)) 0 ≡ split + get_or chosen (k + 1) 0 = late_pivot (k + 1) l in
        let above : get_or ps (start + k) 0 < get_or ps (start + (k + 1)) 0 = h.reduced.echelon.rising (start + k)
        (start + (k + 1)) (omega arith) (late_within (k + 1) l) in
        omega arith;
    below = λ i l.
        let at : get_or ps (start + i) 0 ≡ split + get_or chosen i 0 = late_pivot i l in
        let below : get_or ps (start + i) 0 < a.cols = h.reduced.echelon.below (start + i) (late_within i l) in
        omega (arith, h.reduced.trace.cols);
  }

  -- a late row of the reduced columns, at the kept columns
  late_row : (i k : ℕ) → i < length chosen → k < split + length chosen →
      (kept_columns split chosen a).entry (start + i) k ≡ unit (split + i) k
  late_row i k l b =
      let here : start + i < length kept = omega (arith, kept_count) in
      let own : get_or kept (start + i) 0 ≡ split + i = h.choice.pivots.late i (late_within i l) in
      elim (cases_lt k split) [
        | inl early ↦ kept_echelon.zero_before (start + i) k here (omega arith)
            ∙ sym (unit_other (split + i) k (λ e. absurd (omega arith)))
        | inr late ↦
            let back : split + (k - split) ≡ k = omega arith in
            let inside : start + (k - split) < length kept = omega (arith, kept_count) in
            let at : get_or kept (start + (k - split)) 0 ≡ k = h.choice.pivots.late (k - split) (late_within (k -
            split) (omega arith)) ∙ back in
            elim (cases_eq (k - split) i) [
              | inl same ↦
                  let place : split + i ≡ k = omega arith in
                  ap ((kept_columns split chosen a).entry (start + i)) (sym place ∙ sym own)
                  ∙ kept_echelon.one (start + i) here ∙ sym (unit_same (split + i)) ∙ ap (unit (split + i)) place
              | inr other ↦
                  ap ((kept_columns split chosen a).entry (start + i)) (sym at)
                  ∙ kept_echelon.zero_elsewhere (start + (k - split)) (start + i) inside (omega (
                    arith,
                    kept_echelon.within,
                  )) (λ e. other (omega arith))
                  ∙ sym (unit_other (split + i) k (λ e. other (omega arith)))
            ]
      ]

  module _ (duals : List (List Entry)) (made : AreRowVectors p t start (length ps) duals) where
    dual_count : length duals ≡ length chosen
    dual_count = omega (arith, made.one_for_each, h.choice.shifted.one_for_each)

    dual_row : (i : ℕ) → i < length chosen → IsRowVector p t (start + i) (get_or duals i [])
    dual_row i l = made.each i (rw dual_count l)

    pub duals_made : HasColumnDuals p split old chosen duals
    duals_made = record {
      one_for_each = dual_count;
      fit = all_from_index (λ v. FitsBelow v old.rows) duals (length duals) [] (omega arith) (λ i l. subst (λ n.
          FitsBelow (get_or duals i []) n) h.reduced.trace.trace_cols (made.each i l).fits);
      below = all_from_index (λ v. ValuesBelow v p) duals (length duals) [] (omega arith) (λ i l. (made.each i
          l).below);
      each = λ i k l b.
          let O = kept_columns split chosen old in
          let row : start + i < old.rows = omega (
            arith,
            late_within i l,
            h.reduced.echelon.within,
            h.reduced.trace.rows,
          ) in
          ap (λ z. z % p) (sum_below_same (λ j. vector_at duals i j * O.entry j k) (λ j. t.entry (start + i) j *
          O.entry j k) old.rows
          (λ j m. ap (λ z. z * O.entry j k) ((dual_row i l).numbers j (rw h.reduced.trace.trace_cols m))))
          ∙ sym (kept_trace.gives (start + i) row k b)
          ∙ ap (λ z. z % p) (late_row i k l b);
    }

-- a column of the old rows is the combination of the kept ones by its reduced numbers
module _ {q : ℕ} {old a t : Matrix} {ps : List ℕ} {split start : ℕ} {chosen kept : List ℕ} (h : IsKeptFrom (suc q)
    old a t ps split start chosen kept) where
  column_solved : (c : ℕ) (v : List Entry) → c < old.cols → IsPlacedColumn (suc q) a c kept v →
      Solves (suc q) (kept_columns split chosen old) (λ i. old.entry i c) (number_at v)
  column_solved c v inside placed =
      let O = kept_columns split chosen old in
      solution q O (kept_columns split chosen a) t (length kept) (λ k. get_or kept k 0) (kept_trace h)
      (kept_echelon h) (λ i. old.entry i c) (number_at v)
      (λ i late l.
      trace_column (suc q) old a t h.reduced.trace i c l inside
      ∙ ap (λ z. z % suc q) (h.reduced.echelon.zero_after i c (omega (arith, h.choice.pivots.one_for_each)) (rw
      h.reduced.trace.rows l) (rw h.reduced.trace.cols inside)))
      (λ k l.
      let row : k < old.rows = omega (arith, l, (kept_echelon h).within, h.reduced.trace.rows) in
      ap (λ z. z % suc q) (placed.at_places k l) ∙ sym (trace_column (suc q) old a t h.reduced.trace k c row inside))
      (λ j l none. ap (λ z. z % suc q) (placed.elsewhere j none))

  pub sums_made : (sums : List (List Entry)) → ArePlacedColumns (suc q) a kept split a.cols sums →
      HasColumnSums (suc q) split old chosen sums
  sums_made sums made = record {
    one_for_each = made.one_for_each ∙ h.reduced.trace.cols;
    fit = all_from_index (λ v. FitsBelow v (split + length chosen)) sums (length sums) [] (omega arith) (λ j l.
        (made.each j l).fits (split + length chosen) (λ k m. (kept_echelon h).below k m));
    below = all_from_index (λ v. ValuesBelow v (suc q)) sums (length sums) [] (omega arith) (λ j l. (made.each j
        l).below);
    each = λ j l. column_solved (split + j) (get_or sums j []) (omega (
      arith,
      made.one_for_each,
      h.reduced.trace.cols,
    )) (made.each j l);
  }

pub sums_made_over : {p : ℕ} {old a t : Matrix} {ps : List ℕ} {split start : ℕ} {chosen kept : List ℕ} (sums : List
    (List Entry)) → 2 ≤ p → IsKeptFrom p old a t ps split start chosen kept →
    ArePlacedColumns p a kept split a.cols sums → HasColumnSums p split old chosen sums
sums_made_over {p = zero} sums two h made = absurd (omega arith)
sums_made_over {p = suc q} sums two h made = sums_made h sums made

-- one column more
pub placed_columns_more : {p : ℕ} {a : Matrix} {ps : List ℕ} {from to : ℕ} (vs : List (List Entry)) (v : List
    Entry) → ArePlacedColumns p a ps from to vs → IsPlacedColumn p a to ps v →
    ArePlacedColumns p a ps from (to + 1) (vs ++ v ∷ [])
placed_columns_more {p = p} {a = a} {ps = ps} {from = from} {to = to} vs v h made =
    let count : length (vs ++ v ∷ []) ≡ length vs + 1 = simp length-append refl in
    record {
      one_for_each = omega (arith, count, h.one_for_each);
      each = λ k l. elim (cases_eq k (length vs)) [
        | inl last ↦ rw (get_or_push vs v [] k (sym last)) (subst (λ c. IsPlacedColumn p a c ps v) (sym (ap (λ x.
            from + x) last ∙ h.one_for_each)) made)
        | inr other ↦ let within : k < length vs = omega arith in
            rw (get_or_append_left vs (v ∷ []) [] k within) (h.each k within)
      ];
    }

-- one pivot more
pub kept_pivots_more : {ps : List ℕ} {start split n : ℕ} (ks : List ℕ) (x : ℕ) →
    AreKeptPivotsBelow ps start split n ks → (n < start → x ≡ get_or ps n 0) → (start ≤ n →
    x ≡ split + (n - start)) → AreKeptPivotsBelow ps start split (n + 1) (ks ++ x ∷ [])
kept_pivots_more {ps = ps} {start = start} {split = split} {n = n} ks x h early late =
    let count : length (ks ++ x ∷ []) ≡ length ks + 1 = simp length-append refl in
    let last : (k : ℕ) → k ≡ n → get_or (ks ++ x ∷ []) k 0 ≡ x = λ k same. get_or_push ks x 0 k (omega (
      arith,
      h.one_for_each,
      same,
    )) in
    let others : (k : ℕ) → k < n → get_or (ks ++ x ∷ []) k 0 ≡ get_or ks k 0 = λ k l. get_or_append_left ks (x ∷
    []) 0 k (omega (arith, h.one_for_each, l)) in
    record {
      one_for_each = omega (arith, count, h.one_for_each);
      early = λ k first below. elim (cases_eq k n) [
        | inl same ↦ last k same ∙ early (omega (arith, same, first)) ∙ ap (λ z. get_or ps z 0) (sym same)
        | inr other ↦ others k (omega (arith, other, below)) ∙ h.early k first (omega (arith, other, below))
      ];
      late = λ i below. elim (cases_eq (start + i) n) [
        | inl same ↦
            let back : n - start ≡ i = omega (arith, same) in
            last (start + i) same ∙ late (omega (arith, same)) ∙ ap (λ z. split + z) back
        | inr other ↦ others (start + i) (omega (arith, other, below)) ∙ h.late i (omega (arith, other, below))
      ];
    }
