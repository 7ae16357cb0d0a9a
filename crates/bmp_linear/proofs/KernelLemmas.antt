-- The comparisons of `check_kernel`, part by part.
use Rattle.std.proofs.Common.{◌≡◌, ◌≢◌, ℕ, ◌+◌, ◌%◌, ◌<◌, ◌≤◌, inl, inr, length, get_or, refl, sym, ap, ap₂, ◌∙◌, arith, false}
use Rattle.std.proofs.lemmas.List.Kept.{AllPairs-from_increasing}
use Rattle.bmp_math.specs.Vectors.{unit}
use Rattle.bmp_math.specs.Matrices.{Matrix, combination, image}
use Rattle.bmp_linear.specs.FreePlaces.{has_place, free_places}
use Rattle.bmp_linear.proofs.FreeLemmas.{free_at, free_within, length-free_places}
use Rattle.std.specs.List.{All}
use Rattle.std.specs.List.Sorted.{IsStrictlyIncreasing}
use Rattle.std.proofs.lemmas.Bool.{cases_eq, cases_lt}
use Rattle.bmp_linear.specs.declared.fault.RowFault.{RowFault}
use Rattle.bmp_linear.specs.declared.evidence.KernelEvidence.{KernelEvidence}
use Rattle.bmp_linear.specs.Faults.{IsFirstFailure, WithIndex, AllPass}
use Rattle.bmp_linear.specs.Evidence.{vector_at}
use Rattle.bmp_linear.specs.KernelChecks.{ComparesFree, ComparesZero, ComparesPivot, KernelCompares}
use Rattle.bmp_linear.proofs.FaultLemmas.{PassBefore, PassBelow, AllAgree, pass_below_more, first_failure_at}

module _ (p : ℕ) (a : Matrix) (e : KernelEvidence) where
  -- one basis vector more passed
  pub basis_passed : (t : ℕ) → t < length e.basis → PassBefore t (KernelCompares p a e) →
      AllPass (WithIndex t (ComparesFree a.cols e)) → AllPass (WithIndex t (ComparesZero p a e)) →
      PassBefore (t + 1) (KernelCompares p a e)
  basis_passed t l before free zero r compared within =
      elim (cases_eq r.index t) [
        | inl here ↦ elim compared [
          | inl at_free ↦ free r (here, at_free)
          | inr later ↦ elim later [
            | inl at_zero ↦ zero r (here, at_zero)
            | inr at_pivot ↦ absurd (let i : r.index ≡ length e.basis + at_pivot.at_pivot.0 = at_pivot.at_pivot.4 in
                omega arith)
          ]
        ]
        | inr other ↦ before r compared (omega arith)
      ]

  -- the first failure among the numbers at free positions
  pub free_failed : (t : ℕ) (fault : RowFault) → PassBefore t (KernelCompares p a e) →
      IsFirstFailure (WithIndex t (ComparesFree a.cols e)) fault → IsFirstFailure (KernelCompares p a e) fault
  free_failed t fault before first =
      let at : fault.index ≡ t = first.compared.0 in
      let basis : fault.index < length e.basis = first.compared.1.basis in
      let place : fault.place < length e.basis = first.compared.1.free in
      record {
        compared = inl first.compared.1;
        differs = first.differs;
        earlier = λ r c b. elim b [
          | inl less ↦ before r c (omega arith)
          | inr same ↦ elim c [
            | inl at_free ↦ first.earlier r (same.0 ∙ at, at_free) (inr same)
            | inr later ↦ elim later [
              | inl at_zero ↦ absurd (let i : r.place ≡ length e.basis + at_zero.row.0 = at_zero.row.2 in omega arith)
              | inr at_pivot ↦ absurd (let i : r.index ≡ length e.basis + at_pivot.at_pivot.0 = at_pivot.at_pivot.4 in
                  omega arith)
            ]
          ]
        ];
      }

  -- the first failure among what the rows say
  pub zero_failed : (t : ℕ) (fault : RowFault) → PassBefore t (KernelCompares p a e) →
      AllPass (WithIndex t (ComparesFree a.cols e)) → IsFirstFailure (WithIndex t (ComparesZero p a e)) fault →
      IsFirstFailure (KernelCompares p a e) fault
  zero_failed t fault before free first =
      let at : fault.index ≡ t = first.compared.0 in
      let basis : fault.index < length e.basis = first.compared.1.basis in
      record {
        compared = inr (inl first.compared.1);
        differs = first.differs;
        earlier = λ r c b. elim b [
          | inl less ↦ before r c (omega arith)
          | inr same ↦ elim c [
            | inl at_free ↦ free r (same.0 ∙ at, at_free)
            | inr later ↦ elim later [
              | inl at_zero ↦ first.earlier r (same.0 ∙ at, at_zero) (inr same)
              | inr at_pivot ↦ absurd (let i : r.index ≡ length e.basis + at_pivot.at_pivot.0 = at_pivot.at_pivot.4 in
                  omega arith)
            ]
          ]
        ];
      }

  -- one combination more passed
  pub pivots_passed : (i : ℕ) → PassBefore (length e.basis + i) (KernelCompares p a e) →
      AllPass (WithIndex (length e.basis + i) (ComparesPivot p a e)) →
      PassBefore (length e.basis + (i + 1)) (KernelCompares p a e)
  pivots_passed i before pivot r compared within =
      elim (cases_eq r.index (length e.basis + i)) [
        | inl here ↦ elim compared [
          | inl at_free ↦ absurd (let b : r.index < length e.basis = at_free.basis in omega arith)
          | inr later ↦ elim later [
            | inl at_zero ↦ absurd (let b : r.index < length e.basis = at_zero.basis in omega arith)
            | inr at_pivot ↦ pivot r (here, at_pivot)
          ]
        ]
        | inr other ↦ before r compared (omega arith)
      ]

  pub pivots_failed : (i : ℕ) (fault : RowFault) → PassBefore (length e.basis + i) (KernelCompares p a e) →
      IsFirstFailure (WithIndex (length e.basis + i) (ComparesPivot p a e)) fault →
      IsFirstFailure (KernelCompares p a e) fault
  pivots_failed i fault before first =
      let at : fault.index ≡ length e.basis + i = first.compared.0 in
      record {
        compared = inr (inr first.compared.1);
        differs = first.differs;
        earlier = λ r c b. elim b [
          | inl less ↦ before r c (omega arith)
          | inr same ↦ elim c [
            | inl at_free ↦ absurd (let b : r.index < length e.basis = at_free.basis in omega arith)
            | inr later ↦ elim later [
              | inl at_zero ↦ absurd (let b : r.index < length e.basis = at_zero.basis in omega arith)
              | inr at_pivot ↦ first.earlier r (same.0 ∙ at, at_pivot) (inr same)
            ]
          ]
        ];
      }

  -- all passed
  pub kernel_passed : (i : ℕ) → length e.rows ≤ i → PassBefore (length e.basis + i) (KernelCompares p a e) →
      AllPass (KernelCompares p a e)
  kernel_passed i l before r compared =
      before r compared (elim compared [
        | inl at_free ↦ let b : r.index < length e.basis = at_free.basis in omega arith
        | inr later ↦ elim later [
          | inl at_zero ↦ let b : r.index < length e.basis = at_zero.basis in omega arith
          | inr at_pivot ↦ let k : r.index ≡ length e.basis + at_pivot.at_pivot.0 = at_pivot.at_pivot.4 in
              let m : at_pivot.at_pivot.0 < length e.rows = at_pivot.at_pivot.2 in omega arith
        ]
      ])

  -- the comparison of row i with 0
  zero_sides : (index i : ℕ) (r : RowFault) → WithIndex index (ComparesZero p a e) r → r.place ≡ length e.basis + i →
      (r.left ≡ image a (vector_at e.basis index) i % p) × (r.right ≡ 0)
  zero_sides index i r c here =
      let row : r.place ≡ length e.basis + c.1.row.0 = c.1.row.2 in
      let same : c.1.row.0 ≡ i = omega arith in
      (c.1.row.3 ∙ ap₂ (λ x y. image a (vector_at e.basis y) x % p) same c.0, c.1.right_is)

  pub zero_none : (index : ℕ) → PassBelow (length e.basis + 0) (WithIndex index (ComparesZero p a e))
  zero_none index r c below = absurd (let row : r.place ≡ length e.basis + c.1.row.0 = c.1.row.2 in omega arith)

  pub zero_more : (index i left : ℕ) → left ≡ image a (vector_at e.basis index) i % p → left ≡ 0 →
      PassBelow (length e.basis + i) (WithIndex index (ComparesZero p a e)) →
      PassBelow (length e.basis + (i + 1)) (WithIndex index (ComparesZero p a e))
  zero_more index i left is zero below =
      pass_below_more (WithIndex index (ComparesZero p a e)) (length e.basis + i) (length e.basis + (i + 1)) left 0
      (omega arith)
      (λ r c here. let s = zero_sides index i r c here in (s.0 ∙ sym is, s.1)) zero below

  pub zero_all : (index i : ℕ) → a.rows ≤ i → PassBelow (length e.basis + i) (WithIndex index (ComparesZero p a e)) →
      AllPass (WithIndex index (ComparesZero p a e))
  zero_all index i l below r c =
      below r c (let row : r.place ≡ length e.basis + c.1.row.0 = c.1.row.2 in
      let in_rows : c.1.row.0 < a.rows = c.1.row.1 in omega arith)

  pub zero_fails : (index i at place left : ℕ) → index < length e.basis → i < a.rows → at ≡ index →
      place ≡ length e.basis + i → left ≡ image a (vector_at e.basis index) i % p → left ≢ 0 →
      PassBelow (length e.basis + i) (WithIndex index (ComparesZero p a e)) →
      IsFirstFailure (WithIndex index (ComparesZero p a e))
      (record { index = at; place = place; left = left; right = 0 })
  zero_fails index i at place left in_basis in_rows same is_place is differs below =
      first_failure_at (ComparesZero p a e) index (record { index = at; place = place; left = left; right = 0 }) same
      (record {
        basis = rw same in_basis;
        row = (i, in_rows, is_place, is ∙ ap (λ x. image a (vector_at e.basis x) i % p) (sym same));
        right_is =
            refl;
      })
      differs (rw is_place below)

  pub pivots_all : (index s : ℕ) → length e.pivots ≤ s →
      AllAgree s (λ u. combination (vector_at e.rows index) a.entry a.rows (get_or e.pivots u 0) % p)
      (λ u. unit u index) → AllPass (WithIndex (length e.basis + index) (ComparesPivot p a e))
  pivots_all index s l agree r c =
      let w = c.1.at_pivot in
      let at : r.index ≡ length e.basis + w.0 = w.4 in
      let knunit : r.index ≡ length e.basis + index = c.0 in
      let same : w.0 ≡ index = omega arith in
      let below : w.1 < length e.pivots = w.3 in
      w.6 ∙ ap₂ (λ i j. combination (vector_at e.rows i) a.entry a.rows j % p) same w.5 ∙ agree w.1 (omega arith)
      ∙ ap (unit w.1) (sym same) ∙ sym w.7

  pub pivots_fail : (index s at place left right : ℕ) → IsStrictlyIncreasing e.pivots → index < length e.rows →
      s < length e.pivots → at ≡ length e.basis + index → place ≡ get_or e.pivots s 0 →
      left ≡ combination (vector_at e.rows index) a.entry a.rows place % p → right ≡ unit s index → left ≢ right →
      AllAgree s (λ u. combination (vector_at e.rows index) a.entry a.rows (get_or e.pivots u 0) % p)
      (λ u. unit u index) → IsFirstFailure (WithIndex (length e.basis + index) (ComparesPivot p a e))
      (record { index = at; place = place; left = left; right = right })
  pivots_fail index s at place left right rise in_rows in_pivots same is_place is_left is_right differs agree = record {
    compared = (same, record { at_pivot = (index, s, in_rows, in_pivots, same, is_place, is_left, is_right) });
    differs = differs;
    earlier = λ r c before.
        let w = c.1.at_pivot in
        let i : r.index ≡ length e.basis + w.0 = w.4 in
        let knunit : r.index ≡ length e.basis + index = c.0 in
        let own_row : w.0 ≡ index = omega arith in
        let lower : r.place < place = elim before [ inl less ↦ omega arith | inr here ↦ here.1 ] in
        let at_w : r.place ≡ get_or e.pivots w.1 0 = w.5 in
        let earlier_pivot : w.1 < s = elim (cases_lt w.1 s) [
          | inl less ↦ less
          | inr not ↦ absurd (elim (cases_eq w.1 s) [
            | inl equal ↦ let e1 : get_or e.pivots w.1 0 ≡ get_or e.pivots s 0 = ap (λ x. get_or e.pivots x 0) equal in
                omega arith
            | inr other ↦ let above : get_or e.pivots s 0 < get_or e.pivots w.1 0 =
                AllPairs-from_increasing e.pivots rise s w.1 0 (omega arith) w.3 in omega arith
          ])
        ] in
        w.6 ∙ ap₂ (λ x y. combination (vector_at e.rows x) a.entry a.rows y % p) own_row w.5 ∙ agree w.1 earlier_pivot
        ∙ ap (unit w.1) (sym own_row) ∙ sym w.7;
  }

module _ (cols : ℕ) (e : KernelEvidence) where
  -- the comparison at the free position j
  free_sides : (index j : ℕ) (r : RowFault) → has_place e.pivots j ≡ false → j < cols →
      WithIndex index (ComparesFree cols e) r → r.place ≡ length (free_places e.pivots j) →
      (r.left ≡ vector_at e.basis index j) × (r.right ≡ unit (length (free_places e.pivots j)) index)
  free_sides index j r free l c here = (
    c.1.left_is ∙ ap₂ (λ x y. vector_at e.basis x (get_or (free_places e.pivots cols) y 0)) c.0 here
        ∙ ap (vector_at e.basis index) (free_at e.pivots cols j free l),
    c.1.right_is ∙ ap₂ unit here c.0,
  )

  pub free_more : (index j place left right : ℕ) → has_place e.pivots j ≡ false → j < cols →
      place ≡ length (free_places e.pivots j) → left ≡ vector_at e.basis index j → right ≡ unit place index →
      left ≡ right → PassBelow place (WithIndex index (ComparesFree cols e)) →
      PassBelow (place + 1) (WithIndex index (ComparesFree cols e))
  free_more index j place left right free l is_place is_left is_right same below =
      pass_below_more (WithIndex index (ComparesFree cols e)) place (place + 1) left right refl
      (λ r c here. let s = free_sides index j r free l c (here ∙ is_place) in
      (s.0 ∙ sym is_left, s.1 ∙ ap (λ x. unit x index) (sym is_place) ∙ sym is_right)) same below

  pub free_fails : (index j place at at_place left right : ℕ) → IsStrictlyIncreasing e.pivots →
      All (λ q. q < cols) e.pivots → length e.pivots + length e.basis ≡ cols → has_place e.pivots j ≡ false → j < cols →
      index < length e.basis → place ≡ length (free_places e.pivots j) → at ≡ index → at_place ≡ place →
      left ≡ vector_at e.basis index j → right ≡ unit place index → left ≢ right →
      PassBelow place (WithIndex index (ComparesFree cols e)) →
      IsFirstFailure (WithIndex index (ComparesFree cols e))
      (record { index = at; place = at_place; left = left; right = right })
  free_fails index j place at at_place left right rise pivots_below counted free l in_basis is_place is_at is_at_place
      is_left is_right differs below =
      let within : length (free_places e.pivots j) < length (free_places e.pivots cols) =
      free_within e.pivots cols j free l in
      let all : length (free_places e.pivots cols) + length e.pivots ≡ cols =
      length-free_places e.pivots cols rise pivots_below in
      let at_free : get_or (free_places e.pivots cols) at_place 0 ≡ j =
      ap (λ x. get_or (free_places e.pivots cols) x 0) (is_at_place ∙ is_place) ∙ free_at e.pivots cols j free l in
      first_failure_at (ComparesFree cols e) index (record { index = at; place = at_place; left = left; right = right })
      is_at
      (record {
        basis = omega arith;
        free = omega arith;
        left_is = is_left
            ∙ sym (ap₂ (vector_at e.basis) is_at at_free);
        right_is = is_right ∙ sym (ap₂ unit is_at_place is_at);
      })
      differs (rw is_at_place below)

  pub free_all : (index j place : ℕ) → IsStrictlyIncreasing e.pivots → All (λ q. q < cols) e.pivots →
      length e.pivots + length e.basis ≡ cols → j ≡ cols → place ≡ length (free_places e.pivots j) →
      PassBelow place (WithIndex index (ComparesFree cols e)) → AllPass (WithIndex index (ComparesFree cols e))
  free_all index j place rise pivots_below counted last is_place below r c =
      let all : length (free_places e.pivots cols) + length e.pivots ≡ cols =
      length-free_places e.pivots cols rise pivots_below in
      let end : place ≡ length (free_places e.pivots cols) =
      is_place ∙ ap (λ x. length (free_places e.pivots x)) last in
      let free : r.place < length e.basis = c.1.free in
      below r c (omega arith)
