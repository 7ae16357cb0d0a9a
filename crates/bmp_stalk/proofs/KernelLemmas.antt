-- Kernel evidence passes on equal matrices alike.
use Rattle.std.proofs.Common.{ℕ, ◌%◌, ◌<◌, inl, inr, sym, ap, subst, ◌∙◌}
use Rattle.bmp_math.specs.Matrices.{Matrix, SameMatrix}
use Rattle.bmp_math.proofs.SameMatrices.{image_same, combination_same}
use Rattle.bmp_linear.specs.declared.evidence.KernelEvidence.{KernelEvidence}
use Rattle.bmp_linear.specs.declared.fault.RowFault.{RowFault}
use Rattle.bmp_linear.specs.Evidence.{EvidenceFits, vector_at}
use Rattle.bmp_linear.specs.Faults.{AllPass}
use Rattle.bmp_linear.specs.KernelChecks.{KernelCompares, ComparesFree, ComparesZero, ComparesPivot}
use Rattle.bmp_stalk.specs.Blocks.{KernelPassesOnEqual}

module _ {a b : Matrix} {e : KernelEvidence} (same : SameMatrix a b) (fits : EvidenceFits e a.rows a.cols) where
  pub fits_equal : EvidenceFits e b.rows b.cols
  fits_equal =
      subst (λ n. EvidenceFits e b.rows n) same.cols (subst (λ m. EvidenceFits e m a.cols) same.rows fits)

  free_back : (r : RowFault) → ComparesFree b.cols e r → ComparesFree a.cols e r
  free_back r c = subst (λ n. ComparesFree n e r) (sym same.cols) c

  zero_back : (p : ℕ) (r : RowFault) → ComparesZero p b e r → ComparesZero p a e r
  zero_back p r c =
      let i : ℕ = c.row.0 in
      record {
        basis = c.basis;
        row = (
          i,
          subst (λ n. i < n) (sym same.rows) c.row.1,
          c.row.2,
          c.row.3 ∙ ap (λ z. z % p) (sym (image_same same (vector_at e.basis r.index) i c.row.1)),
        );
        right_is = c.right_is;
      }

  pivot_back : (p : ℕ) (r : RowFault) → ComparesPivot p b e r → ComparesPivot p a e r
  pivot_back p r c =
      let i : ℕ = c.at_pivot.0 in
      let s : ℕ = c.at_pivot.1 in
      let inside : r.place < b.cols =
      subst (λ z. z < b.cols) (sym c.at_pivot.5) (fits_equal.pivots_below s 0 c.at_pivot.3) in
      record {
        at_pivot = (
          i,
          s,
          c.at_pivot.2,
          c.at_pivot.3,
          c.at_pivot.4,
          c.at_pivot.5,
          c.at_pivot.6 ∙ ap (λ z. z % p) (sym (combination_same same (vector_at e.rows i) r.place inside)),
          c.at_pivot.7,
        );
      }

  pub passes_on_equal : (p : ℕ) → AllPass (KernelCompares p a e) → AllPass (KernelCompares p b e)
  passes_on_equal p passes r (inl c) = passes r (inl (free_back r c))
  passes_on_equal p passes r (inr (inl c)) = passes r (inr (inl (zero_back p r c)))
  passes_on_equal p passes r (inr (inr c)) = passes r (inr (inr (pivot_back p r c)))

pub kernel_passes_on_equal : KernelPassesOnEqual
kernel_passes_on_equal p a b e same fits passes = (fits_equal same fits, passes_on_equal same fits p passes)
