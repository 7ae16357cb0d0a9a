-- Reduced rows with a trace give a solution, or numbers that refuse one.
use Rattle.std.proofs.Common.{◌≡◌, ℕ, zero, suc, ◌*◌, ◌%◌, ◌<◌, ◌≤◌, List, length, get_or, sym, ap, ◌∙◌, subst, arith}
use Rattle.std.proofs.Math.Nat.{mod-mod, zero-mod}
use Rattle.bmp_math.specs.Vectors.{dot}
use Rattle.bmp_math.specs.Matrices.{Matrix, image}
use Rattle.bmp_math.proofs.SumLemmas.{sum_below_same}
use Rattle.bmp_linear.specs.declared.vector.Entry.{Entry}
use Rattle.bmp_linear.specs.SparseVectors.{number_at}
use Rattle.bmp_linear.proofs.EntrySums.{products_turned}
use Rattle.bmp_elim.specs.Echelons.{IsEchelon, IsReducedBelow}
use Rattle.bmp_elim.specs.Traces.{IsTrace}
use Rattle.bmp_elim.specs.Systems.{HasSolution, IsSolution, IsObstruction}
use Rattle.bmp_linear.specs.RowVectors.{IsRowVector}
use Rattle.bmp_elim.specs.Images.{SaysZeroFrom, SaysOther, HasImages}
use Rattle.bmp_elim.proofs.EndLemmas.{solution, trace_late, refused_unsolved}

reduced_in : (old a : Matrix) (ps : List ℕ) → a.cols ≡ old.cols → IsEchelon a ps →
    IsReducedBelow old.cols a (length ps) (λ k. get_or ps k 0)
reduced_in old a ps cols r = subst (λ n. IsReducedBelow n a (length ps) (λ k. get_or ps k 0)) cols r

-- where the late rows of the trace say 0 of b, its first rows say the numbers of a solution
pub solution_made : (p : ℕ) (old a t : Matrix) (ps : List ℕ) (b : ℕ → ℕ) (x : List Entry) → 2 ≤ p → IsTrace p old a t →
    IsEchelon a ps → SaysZeroFrom p t (length ps) t.rows b → HasImages p t b ps x → IsSolution p old b x
solution_made zero old a t ps b x two h r late images = absurd (omega arith)
solution_made (suc q) old a t ps b x two h r late images = record {
  fits = images.fits old.cols (λ k l. rw (← h.cols) (r.below k l));
  below = images.below;
  solves = solution q old a t (length ps) (λ k. get_or ps k 0) h (reduced_in old a ps h.cols r) b (number_at x)
      (λ i l m. late i l (rw h.trace_rows m) ∙ sym (zero-mod (suc q)))
      (λ k l. ap (λ z. z % suc q) (images.at_places k l) ∙ mod-mod (image t b k) (suc q))
      (λ j l none. ap (λ z. z % suc q) (images.elsewhere j none));
}

-- a late row of the trace that doesn't say 0 of b refuses it
pub obstruction_made : (p : ℕ) (old a t : Matrix) (ps : List ℕ) (b : ℕ → ℕ) (row : ℕ) (y : List Entry) →
    IsTrace p old a t → IsEchelon a ps → SaysOther p t (length ps) row b → IsRowVector p t row y →
    IsObstruction p old b y
obstruction_made p old a t ps b row y h r other v =
    let within : row < old.rows = rw (← h.trace_rows) other.within in
    let read : (k : ℕ) → k < old.rows → number_at y k ≡ t.entry row k = λ k l. v.numbers k (rw h.trace_cols l) in
    record {
      fits = rw (← h.trace_cols) v.fits;
      below = v.below;
      refuses = record {
        zero = λ j l.
            ap (λ z. z % p) (sum_below_same (λ k. number_at y k * old.entry k j) (λ k. t.entry row k * old.entry k j)
            old.rows (λ k c. ap (λ z. z * old.entry k j) (read k c)))
            ∙ trace_late p old a t (length ps) (λ k. get_or ps k 0) h (reduced_in old a ps h.cols r) row j other.late
            within l;
        not_zero = λ e.
            let says : dot old.rows (number_at y) b ≡ image t b row =
            sum_below_same (λ k. number_at y k * b k) (λ k. t.entry row k * b k) old.rows
            (λ k c. ap (λ z. z * b k) (read k c))
            ∙ products_turned (t.entry row) b old.rows
            ∙ ap (λ n. dot n b (t.entry row)) (sym h.trace_cols) in
            other.not_zero (ap (λ z. z % p) (sym says) ∙ e ∙ zero-mod p);
      };
    }

pub solved : (p : ℕ) (a : Matrix) (b : ℕ → ℕ) (x : List Entry) → IsSolution p a b x → HasSolution p a b
solved p a b x s = record { solution = number_at x; solves = s.solves }

pub unsolved : (p : ℕ) (a : Matrix) (b : ℕ → ℕ) (y : List Entry) → IsObstruction p a b y → HasSolution p a b → ⊥
unsolved p a b y o s = refused_unsolved p a b (number_at y) s.solution o.refuses s.solves
