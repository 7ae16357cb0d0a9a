-- Rows as vectors, and rows in memory that they were pushed to.
use Rattle.std.proofs.Common.{◌≡◌, ℕ, ◌+◌, ◌*◌, ◌%◌, ◌<◌, List, get_or, inl, inr, sym, ap, ◌∙◌, subst, arith}
use Rattle.std.proofs.lemmas.Bool.{cases_eq}
use Rattle.std.proofs.Math.Nat.{mod-eq_of_lt}
use Rattle.bmp_math.specs.Matrices.{Matrix, NumbersBelow}
use Rattle.bmp_linear.specs.declared.vector.Entry.{Entry}
use Rattle.bmp_linear.specs.SparseVectors.{IsSparse, FitsBelow, ValuesBelow, number_at}
use Rattle.bmp_linear.specs.RowChanges.{IsRowPushed, IsRowAddedTo}
use Rattle.bmp_linear.proofs.SparseLemmas.{number_at-own}
use Rattle.bmp_sheaf.specs.EdgeMaps.{SameMatrix}

-- v has the numbers of row i, and they are below p
pub record IsRowVector (p : ℕ) (a : Matrix) (i : ℕ) (v : List Entry) : Type 0 where
  pub fits : FitsBelow v a.cols
  pub values : ValuesBelow v p
  pub numbers : (j : ℕ) → j < a.cols → number_at v j ≡ a.entry i j

-- a row that was added once to zeros
pub row_vector_made :
    (p : ℕ) (a : Matrix) (i one : ℕ) (zeros numbers : List ℕ) (v : List Entry) → NumbersBelow p a → i < a.rows →
    one ≡ 1 →
    ((j : ℕ) → j < a.cols → get_or zeros j 0 ≡ 0) → IsRowAddedTo p a i one zeros numbers → IsSparse v →
    FitsBelow v a.cols →
    ((j : ℕ) → j < a.cols → number_at v j ≡ get_or numbers j 0) → IsRowVector p a i v
row_vector_made p a i one zeros numbers v below is_row is_one is_zero added sparse fits same =
    let read : (j : ℕ) → j < a.cols → number_at v j ≡ a.entry i j = λ j l.
    let none : get_or zeros j 0 ≡ 0 = is_zero j l in
    let single : one * a.entry i j ≡ 1 * a.entry i j = ap (λ x. x * a.entry i j) is_one in
    let whole : get_or zeros j 0 + one * a.entry i j ≡ a.entry i j = omega arith in
    same j l ∙ added.added j l ∙ ap (λ x. x % p) whole ∙ mod-eq_of_lt (below i j is_row l) in
    record {
      fits = fits;
      values = λ k d l.
          let place : (get_or v k d).place < a.cols = fits k d l in
          subst (λ z. z < p) (sym (read (get_or v k d).place place) ∙ number_at-own v k d sparse.rising l)
          (below i (get_or v k d).place is_row place);
      numbers = read;
    }

-- the rows of b are the first n of a
pub record HasRowsBelow (n : ℕ) (a b : Matrix) : Type 0 where
  pub rows : b.rows ≡ n
  pub cols : b.cols ≡ a.cols
  pub entries : (i j : ℕ) → i < n → j < a.cols → b.entry i j ≡ a.entry i j

pub rows_more :
    (n : ℕ) (a b c : Matrix) (v : List Entry) → HasRowsBelow n a b →
    ((j : ℕ) → j < a.cols → number_at v j ≡ a.entry n j) →
    IsRowPushed b c (number_at v) → HasRowsBelow (n + 1) a c
rows_more n a b c v h numbers pushed = record {
  rows = pushed.rows ∙ ap (λ r. r + 1) h.rows;
  cols = pushed.cols ∙ h.cols;
  entries = λ i j l m.
      let column : j < b.cols = omega (arith, m, h.cols) in
      elim (cases_eq i n) [
        | inl last ↦ ap (λ r. c.entry r j) (last ∙ sym h.rows) ∙ pushed.pushed j column ∙ numbers j m
            ∙ ap (λ r. a.entry r j) (sym last)
        | inr other ↦
            let before : i < n = omega arith in
            pushed.others i j (omega (arith, before, h.rows)) column ∙ h.entries i j before m
      ];
}

-- all rows
pub rows_all : (n : ℕ) (a b : Matrix) → n ≡ a.rows → HasRowsBelow n a b → SameMatrix b a
rows_all n a b all h = record {
  rows = h.rows ∙ all;
  cols = h.cols;
  entries = λ i j l m. h.entries i j (omega (arith, l, all)) m;
}
