-- What equal matrices share.
use Rattle.std.proofs.Common.{◌≡◌, ℕ, ◌*◌, ◌%◌, ◌<◌, refl, sym, ap, subst, ◌∙◌}
use Rattle.bmp_math.specs.Sums.{sum_below}
use Rattle.bmp_math.specs.Matrices.{Matrix, NumbersBelow, combination, image, IsInKernel, SameMatrix}
use Rattle.bmp_math.proofs.SumLemmas.{sum_below_same}

pub same_matrix-reflexive : (a : Matrix) → SameMatrix a a
same_matrix-reflexive a = record { rows = refl; cols = refl; entries = λ i j l m. refl }

module _ {a b : Matrix} (same : SameMatrix a b) where
  pub same_matrix-symmetric : SameMatrix b a
  same_matrix-symmetric = record {
    rows = sym same.rows;
    cols = sym same.cols;
    entries = λ i j l m. sym (same.entries i j (subst (λ n. i < n) same.rows l) (subst (λ n. j < n) same.cols m));
  }

  pub same_matrix-transitive : {c : Matrix} → SameMatrix b c → SameMatrix a c
  same_matrix-transitive {c} next = record {
    rows = same.rows ∙ next.rows;
    cols = same.cols ∙ next.cols;
    entries = λ i j l m.
        same.entries i j (subst (λ n. i < n) (sym next.rows) l) (subst (λ n. j < n) (sym next.cols) m)
        ∙ next.entries i j l m;
  }

  pub numbers_below_same : (p : ℕ) → NumbersBelow p b → NumbersBelow p a
  numbers_below_same p below i j l m =
      let row : i < b.rows = subst (λ n. i < n) same.rows l in
      let column : j < b.cols = subst (λ n. j < n) same.cols m in
      subst (λ n. n < p) (sym (same.entries i j row column)) (below i j row column)

  pub image_same : (v : ℕ → ℕ) (i : ℕ) → i < b.rows → image a v i ≡ image b v i
  image_same v i row =
      sum_below_same (λ j. v j * a.entry i j) (λ j. v j * b.entry i j) a.cols
      (λ j l. ap (λ z. v j * z) (same.entries i j row (subst (λ n. j < n) same.cols l)))
      ∙ ap (sum_below (λ j. v j * b.entry i j)) same.cols

  pub combination_same : (c : ℕ → ℕ) (j : ℕ) → j < b.cols →
      combination c a.entry a.rows j ≡ combination c b.entry b.rows j
  combination_same c j column =
      sum_below_same (λ i. c i * a.entry i j) (λ i. c i * b.entry i j) a.rows
      (λ i l. ap (λ z. c i * z) (same.entries i j (subst (λ n. i < n) same.rows l) column))
      ∙ ap (sum_below (λ i. c i * b.entry i j)) same.rows

  pub kernel_same : (p : ℕ) (v : ℕ → ℕ) → IsInKernel p b v → IsInKernel p a v
  kernel_same p v zeros i l =
      let row : i < b.rows = subst (λ n. i < n) same.rows l in
      ap (λ z. z % p) (image_same v i row) ∙ zeros i row
