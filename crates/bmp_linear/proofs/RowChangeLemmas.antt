-- Numbers below p stay so as rows are pushed and changed.
use Rattle.std.proofs.Common.{◌≡◌, ℕ, ◌+◌, ◌*◌, ◌<◌, List, sym, subst, inl, inr, arith, mod-lt}
use Rattle.std.proofs.lemmas.Bool.{cases_eq}
use Rattle.bmp_math.specs.Matrices.{Matrix, NumbersBelow}
use Rattle.bmp_linear.specs.declared.vector.Entry.{Entry}
use Rattle.bmp_linear.specs.SparseVectors.{ValuesBelow, number_at}
use Rattle.bmp_linear.specs.RowChanges.{IsRowPushed, IsRowAdded, IsRowMultiplied, AreRowsExchanged}
use Rattle.bmp_linear.proofs.SparseLemmas.{number_at-below}

pub numbers_below-none : (p : ℕ) (a : Matrix) → a.rows ≡ 0 → NumbersBelow p a
numbers_below-none p a none i j l m = absurd (omega arith)

pub numbers_below-row_pushed : (p : ℕ) (old new : Matrix) (row : ℕ → ℕ) → NumbersBelow p old →
    ((j : ℕ) → j < old.cols → row j < p) → IsRowPushed old new row → NumbersBelow p new
numbers_below-row_pushed p old new row numbers below pushed i j l m =
    let column : j < old.cols = subst (λ n. j < n) pushed.cols m in
    elim (cases_eq i old.rows) [
      | inl last ↦
          subst (λ r. new.entry r j < p) (sym last) (subst (λ n. n < p) (sym (pushed.pushed j column)) (below j column))
      | inr other ↦
          let whole : new.rows ≡ old.rows + 1 = pushed.rows in
          let before : i < old.rows = omega arith in
          subst (λ n. n < p) (sym (pushed.others i j before column)) (numbers i j before column)
    ]

pub numbers_below-pushed : (p : ℕ) (old new : Matrix) (v : List Entry) → 0 < p → NumbersBelow p old →
    ValuesBelow v p → IsRowPushed old new (number_at v) → NumbersBelow p new
numbers_below-pushed p old new v some numbers values pushed =
    numbers_below-row_pushed p old new (number_at v) numbers (λ j l. number_at-below v p j some values) pushed

pub numbers_below-added : (p : ℕ) (old new : Matrix) (into from c : ℕ) → 0 < p → NumbersBelow p old →
    IsRowAdded p old new into from c → NumbersBelow p new
numbers_below-added p old new into from c some numbers added i j l m =
    let row : i < old.rows = omega (arith, added.rows) in
    let column : j < old.cols = omega (arith, added.cols) in
    elim (cases_eq i into) [
      | inl here ↦ rw (here, added.added j column) (mod-lt (old.entry into j + c * old.entry from j) some)
      | inr other ↦ rw (added.others i j row column other) (numbers i j row column)
    ]

pub numbers_below-multiplied : (p : ℕ) (old new : Matrix) (r c : ℕ) → 0 < p → NumbersBelow p old →
    IsRowMultiplied p old new r c → NumbersBelow p new
numbers_below-multiplied p old new r c some numbers multiplied i j l m =
    let row : i < old.rows = omega (arith, multiplied.rows) in
    let column : j < old.cols = omega (arith, multiplied.cols) in
    elim (cases_eq i r) [
      | inl here ↦ rw (here, multiplied.multiplied j column) (mod-lt (c * old.entry r j) some)
      | inr other ↦ rw (multiplied.others i j row column other) (numbers i j row column)
    ]

pub numbers_below-exchanged : (p : ℕ) (old new : Matrix) (r s : ℕ) → r < old.rows → s < old.rows → NumbersBelow p old →
    AreRowsExchanged old new r s → NumbersBelow p new
numbers_below-exchanged p old new r s first second numbers exchanged i j l m =
    let row : i < old.rows = omega (arith, exchanged.rows) in
    let column : j < old.cols = omega (arith, exchanged.cols) in
    elim (cases_eq i r) [
      | inl at ↦ rw (at, exchanged.at_first j column) (numbers s j second column)
      | inr other ↦ elim (cases_eq i s) [
        | inl at ↦ rw (at, exchanged.at_second j column) (numbers r j first column)
        | inr apart ↦ rw (exchanged.others i j row column other apart) (numbers i j row column)
      ]
    ]
