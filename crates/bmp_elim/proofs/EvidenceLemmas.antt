-- Reduced rows with a trace give kernel evidence whose comparisons all pass.
use Rattle.std.proofs.Common.{◌≡◌, ℕ, ◌+◌, ◌*◌, ◌%◌, ◌<◌, ◌≤◌, List, [], length, get_or, inl, inr, sym, ap, ◌∙◌, subst, arith}
use Rattle.std.specs.List.Sorted.{IsStrictlyIncreasing}
use Rattle.std.specs.List.{All}
use Rattle.std.proofs.Math.Nat.{mod-eq_of_lt, zero-mod}
use Rattle.std.proofs.lemmas.Bool.{cases_eq}
use Rattle.std.proofs.lemmas.List.{get_or_default}
use Rattle.bmp_math.specs.Vectors.{unit}
use Rattle.bmp_math.specs.Matrices.{Matrix, combination, IsInKernel}
use Rattle.bmp_math.proofs.SumLemmas.{sum_below_same}
use Rattle.bmp_linear.specs.declared.vector.Entry.{Entry}
use Rattle.bmp_linear.specs.declared.evidence.KernelEvidence.{KernelEvidence}
use Rattle.bmp_linear.specs.SparseVectors.{FitsBelow, ValuesBelow}
use Rattle.bmp_linear.specs.FreePlaces.{free_places}
use Rattle.bmp_linear.specs.Faults.{AllPass}
use Rattle.bmp_linear.specs.Evidence.{EvidenceFits, EvidenceBelow, vector_at}
use Rattle.bmp_linear.specs.KernelChecks.{KernelCompares}
use Rattle.bmp_linear.proofs.ShapeLemmas.{all_from_index}
use Rattle.bmp_linear.proofs.FreeLemmas.{length-free_places, free_place_below}
use Rattle.bmp_linear.proofs.KernelSpans.{basis_in_kernel, kernel_independent, kernel_spans}
use Rattle.bmp_elim.specs.Eliminations.{IsEvidenceOf}
use Rattle.bmp_elim.specs.Echelons.{IsEchelon, IsReducedBelow}
use Rattle.bmp_elim.specs.Traces.{IsTrace}
use Rattle.bmp_linear.specs.RowVectors.{IsRowVector}
use Rattle.bmp_elim.specs.RowVectors.{AreRowVectors}
use Rattle.bmp_elim.specs.FreeVectors.{IsFreeVector, IsBasisBelow}
use Rattle.bmp_math.proofs.UnitLemmas.{unit_same, unit_other}
use Rattle.bmp_elim.proofs.EndLemmas.{free_vector_image, trace_at_pivot}
use Rattle.bmp_elim.proofs.FreeVectorLemmas.{IsFreePlace, free_place, not_place}

-- the pivots rise, place by place
pub pivots_rise : (a : Matrix) (ps : List ℕ) → IsEchelon a ps → IsStrictlyIncreasing ps
pivots_rise a ps r i l = r.rising i (i + 1) (omega arith) l

pub pivots_below : (a : Matrix) (ps : List ℕ) → IsEchelon a ps → All (λ j. j < a.cols) ps
pivots_below a ps r k d l = rw (get_or_default ps k d 0 l) (r.below k l)

unit_small : (p i j : ℕ) → 2 ≤ p → unit i j < p
unit_small p i j two =
    elim (cases_eq i j) [
      | inl same ↦ let one : unit i j ≡ 1 = ap (λ x. unit x j) same ∙ unit_same j in rw one (omega arith)
      | inr other ↦ let none : unit i j ≡ 0 = unit_other i j other in rw none (omega arith)
    ]

module _ (p : ℕ) (old a t : Matrix) (ps : List ℕ) (basis rows : List (List Entry)) (two : 2 ≤ p) (h : IsTrace p old a t)
    (r : IsEchelon a ps) (b : IsBasisBelow p a ps a.cols basis) (w : AreRowVectors p t 0 (length ps) rows) where
  abbrev evidence : KernelEvidence
  evidence = record { pivots = ps; basis = basis; rows = rows }

  pub row_count : length rows ≡ length ps
  row_count = omega (arith, w.one_for_each)

  pub row_each : (k : ℕ) → k < length rows → IsRowVector p t k (get_or rows k [])
  row_each k l = let same : 0 + k ≡ k = omega arith in
      subst (λ i. IsRowVector p t i (get_or rows k [])) same (w.each k l)

  pub evidence_fits : EvidenceFits evidence old.rows old.cols
  evidence_fits =
      let all : length (free_places ps a.cols) + length ps ≡ a.cols =
      length-free_places ps a.cols (pivots_rise a ps r) (pivots_below a ps r) in
      record {
        pivots_rise = pivots_rise a ps r;
        pivots_below = rw (← h.cols) (pivots_below a ps r);
        row_for_each = row_count;
        in_all = rw (← h.cols) (omega (arith, b.one_for_each));
        basis_fits = all_from_index (λ v. FitsBelow v old.cols) basis (length basis) [] (omega arith) (λ k l i d m.
            let fits : (get_or (get_or basis k []) i d).place < get_or (free_places ps a.cols) k 0 + 1 =
            (b.vectors k l).fits i d m in
            let below : get_or (free_places ps a.cols) k 0 < a.cols =
            free_place_below ps a.cols k (rw (← b.one_for_each) l) in
            omega (arith, h.cols));
        rows_fit = all_from_index (λ v. FitsBelow v old.rows) rows (length rows) [] (omega arith)
            (λ k l. rw (← h.trace_cols) (row_each k l).fits);
      }

  pub evidence_below : EvidenceBelow evidence p
  evidence_below = record {
    basis_below = all_from_index (λ v. ValuesBelow v p) basis (length basis) [] (omega arith)
        (λ k l. (b.vectors k l).below);
    rows_below = all_from_index (λ v. ValuesBelow v p) rows (length rows) [] (omega arith)
        (λ k l. (row_each k l).below);
  }

  free_at : (u : ℕ) → u < length basis → IsFreePlace ps a.cols u (get_or (free_places ps a.cols) u 0)
  free_at u l = free_place ps a.cols u (rw (← b.one_for_each) l)

  -- at the free places a basis vector is a unit
  basis_free : (k u : ℕ) → k < length basis → u < length basis → vector_at basis k (get_or (free_places ps a.cols) u 0)
      ≡ unit u k
  basis_free k u l m =
      let v : IsFreeVector p a ps (get_or (free_places ps a.cols) k 0) (get_or basis k []) = b.vectors k l in
      let f : IsFreePlace ps a.cols u (get_or (free_places ps a.cols) u 0) = free_at u m in
      let g : IsFreePlace ps a.cols k (get_or (free_places ps a.cols) k 0) = free_at k l in
      elim (cases_eq u k) [
        | inl same ↦ ap (λ i. vector_at basis k (get_or (free_places ps a.cols) i 0)) same ∙ v.at_free
            ∙ sym (unit_same k) ∙ ap (λ i. unit i k) (sym same)
        | inr other ↦
            v.elsewhere (get_or (free_places ps a.cols) u 0)
            (λ e. other (sym f.number ∙ ap (λ j. length (free_places ps j)) e ∙ g.number))
            (not_place ps (get_or (free_places ps a.cols) u 0) f.free)
            ∙ sym (unit_other u k other)
      ]

  -- the old rows send it to 0
  basis_kernel : (k : ℕ) → k < length basis → IsInKernel p old (vector_at basis k)
  basis_kernel k l =
      let v : IsFreeVector p a ps (get_or (free_places ps a.cols) k 0) (get_or basis k []) = b.vectors k l in
      let g : IsFreePlace ps a.cols k (get_or (free_places ps a.cols) k 0) = free_at k l in
      let reduced : IsReducedBelow old.cols a (length ps) (λ i. get_or ps i 0) =
      subst (λ n. IsReducedBelow n a (length ps) (λ i. get_or ps i 0)) h.cols r in
      free_vector_image p old a t (length ps) (λ i. get_or ps i 0) h reduced (get_or (free_places ps a.cols) k 0)
      (vector_at basis k) (rw (← h.cols) g.below) (not_place ps (get_or (free_places ps a.cols) k 0) g.free)
      v.at_free v.at_pivots v.elsewhere

  -- at the pivots a combination of the old rows is a unit
  row_pivot : (k s : ℕ) → k < length rows → s < length ps →
      combination (vector_at rows k) old.entry old.rows (get_or ps s 0) % p ≡ unit s k
  row_pivot k s l m =
      let v : IsRowVector p t k (get_or rows k []) = row_each k l in
      let pivot : ℕ = get_or ps s 0 in
      let reduced : IsReducedBelow old.cols a (length ps) (λ i. get_or ps i 0) =
      subst (λ n. IsReducedBelow n a (length ps) (λ i. get_or ps i 0)) h.cols r in
      let numbers : combination (vector_at rows k) old.entry old.rows pivot ≡ combination (t.entry k) old.entry old.rows
      pivot =
      sum_below_same (λ i. vector_at rows k i * old.entry i pivot) (λ i. t.entry k i * old.entry i pivot) old.rows
      (λ i c. ap (λ x. x * old.entry i pivot) (v.numbers i (rw h.trace_cols c))) in
      ap (λ x. x % p) numbers
      ∙ trace_at_pivot p old a t (length ps) (λ i. get_or ps i 0) h reduced k s (rw (← row_count) l) m
      ∙ mod-eq_of_lt (unit_small p s k two)

  pub evidence_passes : AllPass (KernelCompares p old evidence)
  evidence_passes f (inl c) =
      c.left_is
      ∙ ap (λ n. vector_at basis f.index (get_or (free_places ps n) f.place 0)) (sym h.cols)
      ∙ basis_free f.index f.place c.basis c.free
      ∙ sym c.right_is
  evidence_passes f (inr (inl c)) =
      c.row.3 ∙ basis_kernel f.index c.basis c.row.0 c.row.1 ∙ zero-mod p ∙ sym c.right_is
  evidence_passes f (inr (inr c)) =
      let k : ℕ = c.at_pivot.0 in
      let s : ℕ = c.at_pivot.1 in
      c.at_pivot.6
      ∙ ap (λ j. combination (vector_at rows k) old.entry old.rows j % p) c.at_pivot.5
      ∙ row_pivot k s c.at_pivot.2 c.at_pivot.3
      ∙ sym c.at_pivot.7

  pub evidence_made : IsEvidenceOf p old evidence
  evidence_made = record {
    fits = evidence_fits;
    below = evidence_below;
    passes = evidence_passes;
    kernel = basis_in_kernel p old evidence evidence_passes;
    independent = kernel_independent p old evidence evidence_fits evidence_passes;
    spans = kernel_spans p old evidence two evidence_fits evidence_passes;
  }
