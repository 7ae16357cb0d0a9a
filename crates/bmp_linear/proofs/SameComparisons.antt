-- What the checks compare is the same on equal matrices, and so evidence passes on them alike.
use Rattle.std.proofs.Common.{ℕ, ◌%◌, ◌<◌, List, inl, inr, get_or, sym, ap, subst, ◌∙◌}
use Rattle.bmp_math.specs.Matrices.{Matrix, SameMatrix}
use Rattle.bmp_math.proofs.SameMatrices.{image_same, combination_same}
use Rattle.bmp_linear.specs.declared.vector.Entry.{Entry}
use Rattle.bmp_linear.specs.declared.evidence.KernelEvidence.{KernelEvidence}
use Rattle.bmp_linear.specs.declared.fault.RowFault.{RowFault}
use Rattle.bmp_linear.specs.SparseVectors.{FitsBelow, number_at}
use Rattle.bmp_linear.specs.Evidence.{EvidenceFits, vector_at}
use Rattle.bmp_linear.specs.Faults.{AllPass}
use Rattle.bmp_linear.specs.RowVectors.{IsRowVector}
use Rattle.bmp_linear.specs.RowChanges.{IsCombined}
use Rattle.bmp_linear.specs.RowChecks.{ComparesCombination, ComparesDual}
use Rattle.bmp_linear.specs.KernelChecks.{KernelCompares, ComparesFree, ComparesZero, ComparesPivot}

module _ {a b : Matrix} (same : SameMatrix a b) where
  -- the row of the one is the row of the other
  pub row_vector_same : (p i : ℕ) (v : List Entry) → i < b.rows → IsRowVector p b i v → IsRowVector p a i v
  row_vector_same p i v row h = record {
    fits = subst (FitsBelow v) (sym same.cols) h.fits;
    below = h.below;
    numbers = λ j l.
        let column : j < b.cols = subst (λ n. j < n) same.cols l in
        h.numbers j column ∙ sym (same.entries i j row column);
  }

  -- and so is a combination
  pub combined_same : (p : ℕ) (c : ℕ → ℕ) (numbers : List ℕ) → IsCombined p b c numbers → IsCombined p a c numbers
  combined_same p c numbers h j l =
      let column : j < b.cols = subst (λ n. j < n) same.cols l in
      h j column ∙ ap (λ z. z % p) (sym (combination_same same c j column))

  pub evidence_fits_same : (e : KernelEvidence) → EvidenceFits e b.rows b.cols → EvidenceFits e a.rows a.cols
  evidence_fits_same e fits = subst (EvidenceFits e a.rows) (sym same.cols)
      (subst (λ m. EvidenceFits e m b.cols) (sym same.rows) fits)

  pub combination_passes_same : (p : ℕ) (c target : List Entry) → AllPass (ComparesCombination p b c target) →
      AllPass (ComparesCombination p a c target)
  combination_passes_same p c target pass r compares =
      let column : r.place < b.cols = subst (λ n. r.place < n) same.cols compares.column in
      pass r (record {
        index_is = compares.index_is;
        column = column;
        left_is = compares.left_is ∙ ap (λ z. z % p) (combination_same same (number_at c) r.place column);
        right_is = compares.right_is;
      })

  pub dual_passes_same : (p : ℕ) (form : List Entry) (own : ℕ) → AllPass (ComparesDual p b form own) →
      AllPass (ComparesDual p a form own)
  dual_passes_same p form own pass r compares =
      let row : r.place < b.rows = subst (λ n. r.place < n) same.rows compares.row in
      pass r (record {
        index_is = compares.index_is;
        row = row;
        left_is = compares.left_is ∙ ap (λ z. z % p) (image_same same (number_at form) r.place row);
        right_is = compares.right_is;
      })

  module _ (p : ℕ) (e : KernelEvidence) (fits : EvidenceFits e b.rows b.cols) where
    zero_there : (r : RowFault) → ComparesZero p a e r → ComparesZero p b e r
    zero_there r c =
        let i : ℕ = c.row.0 in
        let row : i < b.rows = subst (λ n. i < n) same.rows c.row.1 in
        record {
          basis = c.basis;
          row = (
            i,
            row,
            c.row.2,
            c.row.3 ∙ ap (λ z. z % p) (image_same same (vector_at e.basis r.index) i row),
          );
          right_is = c.right_is;
        }

    pivot_there : (r : RowFault) → ComparesPivot p a e r → ComparesPivot p b e r
    pivot_there r c =
        let i : ℕ = c.at_pivot.0 in
        let s : ℕ = c.at_pivot.1 in
        let pivot : get_or e.pivots s 0 < b.cols = fits.pivots_below s 0 c.at_pivot.3 in
        let column : r.place < b.cols = subst (λ z. z < b.cols) (sym c.at_pivot.5) pivot in
        record {
          at_pivot = (
            i,
            s,
            c.at_pivot.2,
            c.at_pivot.3,
            c.at_pivot.4,
            c.at_pivot.5,
            c.at_pivot.6 ∙ ap (λ z. z % p) (combination_same same (vector_at e.rows i) r.place column),
            c.at_pivot.7,
          );
        }

    pub kernel_passes_same : AllPass (KernelCompares p b e) → AllPass (KernelCompares p a e)
    kernel_passes_same pass r (inl c) = pass r (inl (subst (λ n. ComparesFree n e r) same.cols c))
    kernel_passes_same pass r (inr (inl c)) = pass r (inr (inl (zero_there r c)))
    kernel_passes_same pass r (inr (inr c)) = pass r (inr (inr (pivot_there r c)))
