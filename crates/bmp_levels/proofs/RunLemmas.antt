-- The run of a vertex, made from covers and a basis.
use Rattle.std.proofs.Common.{◌≡◌, ℕ, ◌+◌, ◌-◌, ◌*◌, ◌%◌, ◌<◌, ◌≤◌, List, ◌++◌, length, get_or, take, drop, leb, ltb}
use Rattle.std.proofs.Common.{replicate, refl, sym, ap, ap₂, ◌∙◌, inl, inr, arith}
use Rattle.std.proofs.Math.Nat.{mod-eq_of_lt}
use Rattle.std.specs.Prelude.{All}
use Rattle.std.proofs.lemmas.Bool.{cases_lt, cond-true, cond-false, le-leb, lt-leb, lt-ltb, le-ltb}
use Rattle.std.proofs.lemmas.List.{get_or-replicate, get_or_past, length-replicate, length-take-le}
use Rattle.std.proofs.lemmas.List.{get_or-take, get_or-drop, get_or_append_left, get_or-append_right}
use Rattle.bmp_math.specs.Matrices.{Matrix}
use Rattle.bmp_field.specs.Runs.{IsMultipleAdded}
use Rattle.bmp_linear.specs.declared.vector.Entry.{Entry}
use Rattle.bmp_linear.specs.SparseVectors.{FitsBelow}
use Rattle.bmp_linear.specs.Evidence.{vector_at}
use Rattle.bmp_linear.specs.RowChanges.{HoldsNumbers, IsRowAddedTo}
use Rattle.bmp_levels.specs.Runs.{RunTable, run_value, joined_value, IsRunOf, AreColumnsWritten}
use Rattle.bmp_levels.proofs.ColumnLemmas.{row_ends}
use Rattle.bmp_levels.proofs.MemberValues.{vector_past}

pub zeros_at : (n i : ℕ) → ◌≡◌ {A = ℕ} (get_or (replicate n 0) i 0) 0
zeros_at n i = elim (cases_lt i n) [
  | inl below ↦ get_or-replicate n i 0 0 below
  | inr past ↦ get_or_past (replicate n 0) i 0 (omega (arith, past, length-replicate {A = ℕ} n 0))
]

-- the entries of vectors that fit have rows
pub entries_room :
    (vs : List (List Entry)) (size width length_is : ℕ) → All (λ v. FitsBelow v size) vs → length_is ≡ size * width →
    All (λ v. All (λ e. e.place * width + width ≤ length_is) v) vs
entries_room vs size width length_is fit is i v below t e inside =
    omega (arith, is, row_ends width size (get_or (get_or vs i v) t e).place (fit i v below t e inside))

module _ (r : RunTable) (j : ℕ) where
  pub run_value_at : (c : ℕ) → j < r.count → run_value r j c ≡ get_or r.values (c * r.count + j) 0
  run_value_at c below =
      ap (λ (v : ℕ → ℕ). v c)
      (cond-true {A = ℕ → ℕ} (ltb j r.count) (λ c. get_or r.values (c * r.count + j) 0) (λ c. 0)
      (lt-ltb j r.count below))

  pub run_value_past : (c : ℕ) → r.count ≤ j → run_value r j c ≡ 0
  run_value_past c past =
      ap (λ (v : ℕ → ℕ). v c)
      (cond-false {A = ℕ → ℕ} (ltb j r.count) (λ c. get_or r.values (c * r.count + j) 0) (λ c. 0)
      (le-ltb j r.count past))

module _ (before : ℕ) (covers basis : List (List Entry)) (j : ℕ) where
  pub joined_covers : (c : ℕ) → j < before → joined_value before covers basis j c ≡ vector_at covers j c
  joined_covers c below =
      ap (λ (v : ℕ → ℕ). v c)
      (cond-false {A = ℕ → ℕ} (leb before j) (vector_at basis (j - before)) (vector_at covers j)
      (lt-leb before j below))

  pub joined_basis : (c : ℕ) → before ≤ j → joined_value before covers basis j c ≡ vector_at basis (j - before) c
  joined_basis c from =
      ap (λ (v : ℕ → ℕ). v c)
      (cond-true {A = ℕ → ℕ} (leb before j) (vector_at basis (j - before)) (vector_at covers j) (le-leb before j from))

-- rows of `width` zeros, into which the covers were written and then the basis
pub record AreFilled (before width : ℕ) (covers basis : List (List Entry)) (zeros first values : List ℕ) : Type 0 where
  pub width_is : width ≡ before + length basis
  pub few : length covers ≤ before
  pub clear : (i : ℕ) → get_or zeros i 0 ≡ 0
  pub covers_written : AreColumnsWritten width 0 (length covers) (vector_at covers) zeros first
  pub basis_written : AreColumnsWritten width before (length basis) (vector_at basis) first values

module _ {before width : ℕ} {covers basis : List (List Entry)} {zeros first values : List ℕ}
    (h : AreFilled before width covers basis zeros first values) where
  cover_value : (j c : ℕ) → j < before → get_or values (c * width + j) 0 ≡ vector_at covers j c
  cover_value j c below =
      h.basis_written.others c j (omega (arith, h.width_is, below)) (inl below)
      ∙ elim (cases_lt j (length covers)) [
        | inl inside ↦
            let at : 0 + j ≡ j = omega arith in
            ap (λ n. get_or first (c * width + n) 0) (sym at) ∙ h.covers_written.own j c inside
        | inr past ↦
            h.covers_written.others c j (omega (arith, h.width_is, below)) (inr (omega (arith, past)))
            ∙ h.clear (c * width + j) ∙ sym (vector_past covers j c past)
      ]

  basis_value : (j c : ℕ) → before ≤ j → j < width → get_or values (c * width + j) 0 ≡ vector_at basis (j - before) c
  basis_value j c from below =
      let rest : before + (j - before) ≡ j = omega arith in
      ap (λ n. get_or values (c * width + n) 0) (sym rest)
      ∙ h.basis_written.own (j - before) c (omega (arith, h.width_is, below, from))

  pub filled_value : (j c : ℕ) → j < width → get_or values (c * width + j) 0 ≡ joined_value before covers basis j c
  filled_value j c below = elim (cases_lt j before) [
    | inl old ↦ cover_value j c old ∙ sym (joined_covers before covers basis j c old)
    | inr new ↦ basis_value j c new below ∙ sym (joined_basis before covers basis j c new)
  ]

-- ---- the run with these numbers

pub run_made :
    (size before width : ℕ) (covers basis : List (List Entry)) (values : List ℕ) → width ≡ before + length basis →
    ((j c : ℕ) → j < width → get_or values (c * width + j) 0 ≡ joined_value before covers basis j c) →
    IsRunOf size before covers basis (record { size = size; count = width; values = values })
run_made size before width covers basis values width_is each = record {
  size = refl;
  count = width_is;
  value = λ j c. elim (cases_lt j width) [
    | inl inside ↦
        run_value_at (record { size = size; count = width; values = values }) j c inside ∙ each j c inside
    | inr past ↦
        run_value_past (record { size = size; count = width; values = values }) j c past
        ∙ sym (joined_basis before covers basis j c (omega (arith, past, width_is))
        ∙ vector_past basis (j - before) c (omega (arith, past, width_is)))
  ];
}

-- the columns of the basis are still clear when the covers are written
pub basis_clear :
    (width before : ℕ) (covers basis : List (List Entry)) (zeros first : List ℕ) → width ≡ before + length basis →
    length covers ≤ before → ((i : ℕ) → get_or zeros i 0 ≡ 0) →
    AreColumnsWritten width 0 (length covers) (vector_at covers) zeros first → (c j : ℕ) → before ≤ j →
    j < before + length basis → get_or first (c * width + j) 0 ≡ 0
basis_clear width before covers basis zeros first width_is few clear written c j from below =
    written.others c j (omega (arith, width_is, below)) (inr (omega (arith, few, from))) ∙ clear (c * width + j)

-- the first of the sums got multiples of the numbers, and past these the row is 0
module _ (p factor c : ℕ) (a : Matrix) (numbers old front : List ℕ) (few : length numbers ≤ a.cols)
    (holds : HoldsNumbers p a.cols old)
    (added : IsMultipleAdded p factor numbers (take (length numbers) old) front) where
  sized : length front ≡ length numbers
  sized = added.length_is ∙ length-take-le (length numbers) old (omega (arith, few, holds.room))

  -- what stands past the numbers is as before
  as_before : (j : ℕ) → length numbers ≤ j → get_or (front ++ drop (length numbers) old) j 0 ≡ get_or old j 0
  as_before j past =
      let back : length numbers + (j - length numbers) ≡ j = omega arith in
      get_or-append_right front (drop (length numbers) old) (length numbers) j 0 sized past
      ∙ get_or-drop (length numbers) old (j - length numbers) 0
      ∙ ap (λ k. get_or old k 0) back

  pub row_added : ((j : ℕ) → j < a.cols → get_or numbers j 0 ≡ a.entry c j) →
      IsRowAddedTo p a c factor old (front ++ drop (length numbers) old)
  row_added row = record {
    added = λ j l. elim (cases_lt j (length numbers)) [
      | inl here ↦
          get_or_append_left front (drop (length numbers) old) 0 j (omega (arith, here, sized))
          ∙ added.added j (omega (arith, here, sized, added.length_is))
          ∙ ap₂ (λ s n. (s + factor * n) % p) (get_or-take (length numbers) old j 0 here) (row j l)
      | inr past ↦
          let none : a.entry c j ≡ 0 = sym (row j l) ∙ get_or_past numbers j 0 past in
          let same : get_or old j 0 + factor * 0 ≡ get_or old j 0 = omega arith in
          as_before j past
          ∙ sym (mod-eq_of_lt (holds.below j l))
          ∙ ap (λ s. s % p) (sym same ∙ ap (λ n. get_or old j 0 + factor * n) (sym none))
    ];
    others = λ j past. as_before j (omega (arith, past, few));
  }
