-- Multiples of one row, added to other rows: one row more, and the run that is enough to add.
use Rattle.std.proofs.Common.{◌≡◌, ◌≢◌, ℕ, ◌+◌, ◌-◌, ◌*◌, ◌<◌, ◌≤◌, ◌%◌, ◌++◌, List, [], length, take_all, get_or, take, drop, subst, refl, ap, sym, ◌∙◌, inl, inr, arith, mod-lt}
use Rattle.std.proofs.Math.Nat.{mod-eq_of_lt, mod-mod}
use Rattle.std.proofs.Math.ListN.{drop_of_length-le}
use Rattle.std.proofs.lemmas.Bool.{cases_eq, cases_lt}
use Rattle.std.proofs.lemmas.List.{append-nil, get_or-take, get_or-drop, length-take-le, length-drop}
use Rattle.bmp_math.specs.Matrices.{Matrix, NumbersBelow}
use Rattle.bmp_math.proofs.CongruenceLemmas.{same_add}
use Rattle.bmp_field.specs.Runs.{AreBelow}
use Rattle.bmp_linear.specs.RowChanges.{IsRowAdded, AreMultiplesAddedBelow}
use Rattle.bmp_linear.specs.Runs.{IsOutside, AreApart, HoldsRun, IsRunAdded, IsListAdded, AreMultiples}
use Rattle.bmp_linear.specs.RowRuns.{matrix_at, run_place, IsRowRun, HasMultiples, IsAddedTo, AreAddedBelow}
use Rattle.bmp_linear.specs.declared.multiples.RowRun.{RowRun}
use Rattle.bmp_linear.proofs.RunRowLemmas.{row_ends, rows_apart, outside}

-- no row
pub multiples_none : (p : ℕ) (old : Matrix) (from : ℕ) (c : ℕ → ℕ) → AreMultiplesAddedBelow 0 p old old from c
multiples_none p old from c = record {
  rows = refl;
  cols = refl;
  added = λ i j l. absurd (omega arith);
  kept = λ j l. refl;
  others = λ i j k l m. refl;
}

module _ (n p : ℕ) (old mid : Matrix) (from : ℕ) (c : ℕ → ℕ) (h : AreMultiplesAddedBelow n p old mid from c) where
  -- one row more
  pub multiples_more : (new : Matrix) → n < old.rows → from < old.rows → n ≢ from → IsRowAdded p mid new n from (c n) →
      AreMultiplesAddedBelow (n + 1) p old new from c
  multiples_more new row below apart more = record {
    rows = more.rows ∙ h.rows;
    cols = more.cols ∙ h.cols;
    added = λ i j l b other.
        let column : j < mid.cols = rw h.cols b in
        elim (cases_eq i n) [
          | inl same ↦
              ap (λ k. new.entry k j) same ∙ more.added j column
              ∙ ap (λ x. (x + c n * mid.entry from j) % p) (h.others n j (omega arith) row b)
              ∙ ap (λ x. (old.entry n j + c n * x) % p) (h.kept j b)
              ∙ ap (λ k. (old.entry k j + c k * old.entry from j) % p) (sym same)
          | inr away ↦
              let before : i < n = omega arith in
              let row_i : i < mid.rows = rw h.rows (omega arith) in
              more.others i j row_i column away ∙ h.added i j before b other
        ];
    kept = λ j b. more.others from j (rw h.rows below) (rw h.cols b) (λ e. apart (sym e)) ∙ h.kept j b;
    others = λ i j l k b. more.others i j (rw h.rows k) (rw h.cols b) (λ e. absurd (omega arith))
        ∙ h.others i j (omega arith) k b;
  }

  -- one row more, to which nothing is to be added
  pub multiples_skip : NumbersBelow p old → n < old.rows → (n ≢ from → c n ≡ 0) →
      AreMultiplesAddedBelow (n + 1) p old mid from c
  multiples_skip numbers row none = record {
    rows = h.rows;
    cols = h.cols;
    added = λ i j l b other. elim (cases_eq i n) [
      | inl same ↦
          let zero : c n ≡ 0 = none (λ e. other (same ∙ e)) in
          let times : c n * old.entry from j ≡ 0 * old.entry from j = ap (λ x. x * old.entry from j) zero in
          let whole : old.entry n j ≡ old.entry n j + c n * old.entry from j = omega arith in
          ap (λ k. mid.entry k j) same ∙ h.others n j (omega arith) row b
          ∙ sym (mod-eq_of_lt (numbers n j row b)) ∙ ap (λ x. x % p) whole
          ∙ ap (λ k. (old.entry k j + c k * old.entry from j) % p) (sym same)
      | inr away ↦ h.added i j (omega arith) b other
    ];
    kept = h.kept;
    others = λ i j l k b. h.others i j (omega arith) k b;
  }

  -- numbers stay below p
  pub multiples-below : 0 < p → NumbersBelow p old → NumbersBelow p mid
  multiples-below some numbers i j l b =
      let row : i < old.rows = rw (← h.rows) l in
      let column : j < old.cols = rw (← h.cols) b in
      elim (cases_lt i n) [
        | inl early ↦ elim (cases_eq i from) [
          | inl same ↦ rw (same, h.kept j column) (numbers from j (rw (← same) row) column)
          | inr other ↦ rw (h.added i j early column other) (mod-lt (old.entry i j + c i * old.entry from j) some)
        ]
        | inr late ↦ rw (h.others i j (omega arith) row column) (numbers i j row column)
      ]

pub reduced_term : (p a b : ℕ) → (a + b % p) % p ≡ (a + b) % p
reduced_term p a b = same_add p a a (b % p) b refl (mod-mod b p)

-- the multiple before that by c, and the list once more, are the multiple by c
module _ (p c : ℕ) (list table mid new : List ℕ) (past : 0 < c)
    (copied : (j : ℕ) → j < length list → get_or mid (c * length list + j) 0 ≡ get_or table ((c - 1) * length list + j)
    0)
    (h : AreMultiples p c list table)
  where
    next_is : c - 1 + 1 ≡ c
    next_is = omega arith

    pub multiples_hold : 0 < p → c * length list + length list ≤ length mid →
        HoldsRun p (c * length list) (length list) mid
    multiples_hold some room = record {
      within = room;
      below = λ j l. rw (copied j l, h (c - 1) j (omega arith) l) (mod-lt ((c - 1) * get_or list j 0) some);
    }

    pub multiples_next : ((k : ℕ) → k < c * length list → get_or mid k 0 ≡ get_or table k 0) →
        IsListAdded p (c * length list) list mid new → AreMultiples p (c + 1) list new
    multiples_next before added d j l m = elim (cases_eq d c) [
      | inl same ↦
          let x : ℕ = get_or list j 0 in
          let b : ℕ = c - 1 in
          let turned : (b * x) % p + x ≡ x + (b * x) % p = omega arith in
          let whole : x + b * x ≡ (b + 1) * x = omega arith in
          ap (λ e. get_or new (e * length list + j) 0) same
          ∙ added.added j m
          ∙ ap (λ y. (y + get_or list j 0) % p) (copied j m ∙ h b j (omega arith) m)
          ∙ ap (λ y. y % p) turned
          ∙ reduced_term p x (b * x)
          ∙ ap (λ y. y % p) whole
          ∙ ap (λ e. (e * get_or list j 0) % p) (next_is ∙ sym same)
      | inr other ↦
          let early : d < c = omega arith in
          let ends : d * length list + length list ≤ c * length list = row_ends d c (length list) early in
          let here : d * length list + j < c * length list = omega arith in
          added.others (d * length list + j) (inl here) ∙ before (d * length list + j) here ∙ h d j early m
    ]

module _ (p : ℕ) (r : RowRun) (old : List ℕ) (h : IsRowRun p r old) where
  -- the run's columns in any row
  pub holds_run : (i : ℕ) → i < r.rows → HoldsRun p (run_place r i) r.len old
  holds_run i row =
      let ends : i * r.cols + r.cols ≤ r.rows * r.cols = row_ends i r.rows r.cols row in
      let whole : length old ≡ r.rows * r.cols = h.length_is in
      let narrow : r.start + r.len ≤ r.cols = h.within in
      record {
        within = omega arith;
        below = λ j l.
            let same : i * r.cols + (r.start + j) ≡ i * r.cols + r.start + j = omega arith in
            subst (λ k. get_or old k 0 < p) same (h.below i (r.start + j) row (omega arith));
      }

  pub runs_apart : (i : ℕ) → i ≢ r.row → AreApart (run_place r i) (run_place r r.row) r.len
  runs_apart i other =
      let narrow : r.start + r.len ≤ r.cols = h.within in
      elim (rows_apart i r.row r.cols other) [
        | inl before ↦ inl (omega arith)
        | inr later ↦ inr (omega arith)
      ]

  -- what was added at the run's columns was added to the row
  pub row_added : (i c : ℕ) (new : List ℕ) → i < r.rows →
      ((k : ℕ) → k < r.len → get_or new (run_place r i + k) 0
      ≡ (get_or old (run_place r i + k) 0 + c * get_or old (run_place r r.row + k) 0) % p) →
      ((k : ℕ) → IsOutside (run_place r i) r.len k → get_or new k 0 ≡ get_or old k 0) →
      IsRowAdded p (matrix_at r old) (matrix_at r new) i r.row c
  row_added i c new row inside others = record {
    rows = refl;
    cols = refl;
    added = λ j b. elim (cases_lt j r.start) [
      | inl before ↦ unchanged j b (inl before)
      | inr from ↦ elim (cases_lt j (r.start + r.len)) [
        | inl within ↦
            let k : ℕ = j - r.start in
            let in_run : k < r.len = omega arith in
            let at : run_place r i + k ≡ i * r.cols + j = omega arith in
            let at_row : run_place r r.row + k ≡ r.row * r.cols + j = omega arith in
            ap (λ m. get_or new m 0) (sym at) ∙ inside k in_run
            ∙ ap (λ m. (get_or old m 0 + c * get_or old (run_place r r.row + k) 0) % p) at
            ∙ ap (λ m. (get_or old (i * r.cols + j) 0 + c * get_or old m 0) % p) at_row
        | inr past ↦ unchanged j b (inr (omega arith))
      ]
    ];
    others = λ s j l b other.
        let narrow : r.start + r.len ≤ r.cols = h.within in
        others (s * r.cols + j) (elim (outside s i j r.cols b other) [
          | inl before ↦ inl (omega arith)
          | inr past ↦ inr (omega arith)
        ]);
  }
    where
      unchanged : (j : ℕ) → j < r.cols → IsOutside r.start r.len j →
          get_or new (i * r.cols + j) 0 ≡ (get_or old (i * r.cols + j) 0 + c * get_or old (r.row * r.cols + j) 0) % p
      unchanged j b out =
          let place : IsOutside (run_place r i) r.len (i * r.cols + j) =
          elim out [ inl before ↦ inl (omega arith) | inr past ↦ inr (omega arith) ] in
          let none : c * get_or old (r.row * r.cols + j) 0 ≡ c * 0 = ap (λ x. c * x) (h.zero j b out) in
          let whole : get_or old (i * r.cols + j) 0
          ≡ get_or old (i * r.cols + j) 0 + c * get_or old (r.row * r.cols + j) 0 = omega arith in
          others (i * r.cols + j) place ∙ sym (mod-eq_of_lt (h.below i j row b)) ∙ ap (λ x. x % p) whole

  -- by the table of the multiples: the list is the multiple by c
  pub added_by_table : (i c : ℕ) (ts list new : List ℕ) → i < r.rows → c < p → HasMultiples p r old ts →
      length list ≡ r.len → ((k : ℕ) → k < r.len → get_or list k 0 ≡ get_or ts (c * r.len + k) 0) →
      IsListAdded p (run_place r i) list old new → IsRowAdded p (matrix_at r old) (matrix_at r new) i r.row c
  added_by_table i c ts list new row factor table sized part added =
      row_added i c new row
      (λ k l. added.added k (rw sized l)
      ∙ ap (λ x. (get_or old (run_place r i + k) 0 + x) % p) (part k l ∙ table.multiples c k factor l)
      ∙ reduced_term p (get_or old (run_place r i + k) 0) (c * get_or old (run_place r r.row + k) 0))
      (λ k out. added.others k (rw sized out))

  pub added_by_products : (i c : ℕ) (new : List ℕ) → i < r.rows →
      IsRunAdded p c (run_place r i) (run_place r r.row) r.len old new →
      IsRowAdded p (matrix_at r old) (matrix_at r new) i r.row c
  added_by_products i c new row added = row_added i c new row added.added added.others

  module _ (n : ℕ) (c : ℕ → ℕ) (mid : List ℕ) (some : 0 < p) (so_far : AreAddedBelow n p r c old mid) where
    -- the run's row stays as it is
    pub run_kept : IsRowRun p r mid
    run_kept = record {
      length_is = so_far.length_is ∙ h.length_is;
      row = h.row;
      within = h.within;
      below = multiples-below n p (matrix_at r old) (matrix_at r mid) r.row c so_far.added some h.below;
      zero = λ j b out. so_far.added.kept j b ∙ h.zero j b out;
    }

    pub table_kept : (ts : List ℕ) → HasMultiples p r old ts → HasMultiples p r mid ts
    table_kept ts table = record {
      length_is = table.length_is;
      multiples = λ d j l b.
          let narrow : r.start + r.len ≤ r.cols = h.within in
          let at : r.row * r.cols + (r.start + j) ≡ run_place r r.row + j = omega arith in
          table.multiples d j l b
          ∙ ap (λ x. (d * x) % p) (ap (λ m. get_or old m 0) (sym at)
          ∙ sym (so_far.added.kept (r.start + j) (omega arith)) ∙ ap (λ m. get_or mid m 0) at);
    }

    -- one row more
    pub below_more : (new : List ℕ) → n < r.rows → IsAddedTo p r n (c n) mid new → AreAddedBelow (n + 1) p r c old new
    below_more new row step = record {
      length_is = step.length_is ∙ so_far.length_is;
      added = elim (cases_eq n r.row) [
        | inl same ↦ skipped (step.none (inl same)) (λ other. absurd (other same))
        | inr other ↦ elim (cases_eq (c n) 0) [
          | inl zero ↦ skipped (step.none (inr zero)) (λ e. zero)
          | inr factor ↦ multiples_more n p (matrix_at r old) (matrix_at r mid) r.row c so_far.added
              (matrix_at r new) row h.row other (step.added other factor)
        ]
      ];
    }
      where
        skipped : new ≡ mid → (n ≢ r.row → c n ≡ 0) →
            AreMultiplesAddedBelow (n + 1) p (matrix_at r old) (matrix_at r new) r.row c
        skipped same none =
            subst (λ list. AreMultiplesAddedBelow (n + 1) p (matrix_at r old) (matrix_at r list) r.row c) (sym same)
            (multiples_skip n p (matrix_at r old) (matrix_at r mid) r.row c so_far.added h.below row none)

pub below_none : (p : ℕ) (r : RowRun) (c : ℕ → ℕ) (old : List ℕ) → AreAddedBelow 0 p r c old old
below_none p r c old = record { length_is = refl; added = multiples_none p (matrix_at r old) r.row c }

-- a part of a list, as an index by a range takes it
pub cut_sized : (at len : ℕ) (list : List ℕ) → at + len ≤ length list →
    length (take (at + len - at) (drop at list)) ≡ len
cut_sized at len list room =
    let left : length (drop at list) ≡ length list - at = length-drop at list in
    let size : at + len - at ≡ len = omega arith in
    length-take-le (at + len - at) (drop at list) (omega arith) ∙ size

pub cut_at : (at len : ℕ) (list : List ℕ) (k : ℕ) → k < len →
    get_or (take (at + len - at) (drop at list)) k 0 ≡ get_or list (at + k) 0
cut_at at len list k l = get_or-take (at + len - at) (drop at list) k 0 (omega arith) ∙ get_or-drop at list k 0

pub multiple_within : (p : ℕ) (r : RowRun) (old ts : List ℕ) (c : ℕ) → c < p → HasMultiples p r old ts →
    c * r.len + r.len ≤ length ts
multiple_within p r old ts c l table =
    let ends : c * r.len + r.len ≤ p * r.len = row_ends c p r.len l in
    let whole : length ts ≡ p * r.len = table.length_is in
    omega arith

-- the multiples of the run's numbers are those of the run
pub multiples_of_run : (p : ℕ) (r : RowRun) (old list ts : List ℕ) → length list ≡ r.len →
    ((k : ℕ) → k < r.len → get_or list k 0 ≡ get_or old (run_place r r.row + k) 0) → length ts ≡ p * r.len →
    AreMultiples p p list ts → HasMultiples p r old ts
multiples_of_run p r old list ts sized same whole multiples = record {
  length_is = whole;
  multiples = λ c j l b. subst (λ n. get_or ts (c * n + j) 0 ≡ (c * get_or old (run_place r r.row + j) 0) % p) sized
      (multiples c j l (rw sized b) ∙ ap (λ x. (c * x) % p) (same j b));
}

pub run_below : (p : ℕ) (r : RowRun) (old : List ℕ) → IsRowRun p r old →
    AreBelow p (take (run_place r r.row + r.len - run_place r r.row) (drop (run_place r r.row) old))
run_below p r old h j l =
    let holds : HoldsRun p (run_place r r.row) r.len old = holds_run p r old h r.row h.row in
    let inside : j < r.len = subst (λ n. j < n) (cut_sized (run_place r r.row) r.len old holds.within) l in
    subst (λ n. n < p) (sym (cut_at (run_place r r.row) r.len old j inside)) (holds.below j inside)

-- what was written over all items
pub written_back : (n : ℕ) (new items : List ℕ) → length new ≡ n → length items ≡ n →
    take n (new ++ drop (length new) items) ≡ new
written_back n new items sized whole =
    let none : drop (length new) items ≡ [] = drop_of_length-le items (omega arith) in
    ap (λ xs. take n (new ++ xs)) none ∙ ap (take n) (append-nil new) ∙ take_all n new (omega arith)
