-- A row as a vector: from numbers that were written, and from entries that are kept.
use Rattle.std.proofs.Common.{◌≡◌, ℕ, ◌+◌, ◌*◌, ◌%◌, ◌<◌, List, get_or, sym, ap, subst, ◌∙◌, arith}
use Rattle.std.proofs.Math.Nat.{mod-eq_of_lt}
use Rattle.bmp_math.specs.Matrices.{Matrix, NumbersBelow}
use Rattle.bmp_linear.specs.declared.vector.Entry.{Entry}
use Rattle.bmp_linear.specs.SparseVectors.{IsSparse, FitsBelow, ValuesBelow, number_at}
use Rattle.bmp_linear.specs.RowChanges.{IsRowAddedTo}
use Rattle.bmp_linear.specs.RowVectors.{IsRowVector}
use Rattle.bmp_linear.proofs.SparseLemmas.{number_at-own}

-- a vector that has numbers below p has values below p
pub values_from_numbers : (p n : ℕ) (v : List Entry) → IsSparse v → FitsBelow v n →
    ((j : ℕ) → j < n → number_at v j < p) → ValuesBelow v p
values_from_numbers p n v sparse fits below k d l =
    subst (λ x. x < p) (number_at-own v k d sparse.rising l) (below (get_or v k d).place (fits k d l))

-- a sparse vector with the numbers of a row is the row's
pub row_vector_from : (p : ℕ) (a : Matrix) (i : ℕ) (v : List Entry) → NumbersBelow p a → i < a.rows →
    IsSparse v → FitsBelow v a.cols → ((j : ℕ) → j < a.cols → number_at v j ≡ a.entry i j) → IsRowVector p a i v
row_vector_from p a i v below within sparse fits same = record {
  fits = fits;
  below = values_from_numbers p a.cols v sparse fits
      (λ j l. subst (λ x. x < p) (sym (same j l)) (below i j within l));
  numbers = same;
}

-- zeros, the row that was added to them once, and the vector of these numbers
pub record IsRead (p : ℕ) (a : Matrix) (i one : ℕ) (zeros numbers : List ℕ) (v : List Entry) : Type 0 where
  pub below : NumbersBelow p a
  pub row : i < a.rows
  pub is_one : one ≡ 1
  pub are_zero : (j : ℕ) → j < a.cols → get_or zeros j 0 ≡ 0
  pub added : IsRowAddedTo p a i one zeros numbers
  pub sparse : IsSparse v
  pub fits : FitsBelow v a.cols
  pub same : (j : ℕ) → j < a.cols → number_at v j ≡ get_or numbers j 0

pub row_vector_read : {p : ℕ} {a : Matrix} {i one : ℕ} {zeros numbers : List ℕ} {v : List Entry} →
    IsRead p a i one zeros numbers v → IsRowVector p a i v
row_vector_read {p} {a} {i} {one} {zeros} {numbers} {v} h =
    row_vector_from p a i v h.below h.row h.sparse h.fits
    (λ j l.
    let none : get_or zeros j 0 ≡ 0 = h.are_zero j l in
    let once : one * a.entry i j ≡ 1 * a.entry i j = ap (λ x. x * a.entry i j) h.is_one in
    let whole : get_or zeros j 0 + one * a.entry i j ≡ a.entry i j = omega arith in
    h.same j l ∙ h.added.added j l ∙ ap (λ x. x % p) whole ∙ mod-eq_of_lt (h.below i j h.row l))
