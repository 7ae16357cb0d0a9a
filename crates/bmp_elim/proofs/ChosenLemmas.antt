-- The chosen rows, reduced to the end: a change after a trace.
use Rattle.std.proofs.Common.{ℕ, ◌*◌, ◌%◌, ◌<◌, List, refl, sym, ap, ◌∙◌}
use Rattle.bmp_math.specs.Matrices.{Matrix, SameMatrix, combination, image, IsInKernel}
use Rattle.bmp_math.proofs.CongruenceLemmas.{same_mul}
use Rattle.bmp_math.proofs.SumLemmas.{sum_same_mod}
use Rattle.bmp_math.proofs.MatrixLemmas.{combination-combination}
use Rattle.bmp_elim.specs.Traces.{IsTrace, AreChangedAlike}
use Rattle.bmp_elim.specs.Steps.{IsEliminated}
use Rattle.bmp_elim.specs.Eliminations.{IsReducedOf}
use Rattle.bmp_elim.specs.GrowingBases.{chosen_rows, IsGrown}
use Rattle.bmp_elim.proofs.EndLemmas.{trace_moves}
use Rattle.bmp_elim.proofs.TraceLemmas.{trace_same}
use Rattle.bmp_math.specs.Congruences.{SameMod}
use Rattle.bmp_elim.proofs.StepLemmas.{eliminated_echelon}

-- a change that is made to rows and to their trace
module _ (p : ℕ) (old a t new_a new_t : Matrix) (h : IsTrace p old a t) (alike : AreChangedAlike p a new_a t new_t)
  where
    abbrev change : Matrix
    change = alike.trace

    pub trace_after : IsTrace p old new_a new_t
    trace_after = record {
      rows = alike.first.rows ∙ h.rows;
      cols = alike.first.cols ∙ h.cols;
      trace_rows = alike.second.rows ∙ h.trace_rows;
      trace_cols = alike.second.cols ∙ h.trace_cols;
      gives = λ i l j b.
          let row : i < a.rows = rw h.rows l in
          let through : SameMod p (combination (change.entry i) a.entry a.rows j) (combination (change.entry i) (λ k.
          combination (t.entry k) old.entry old.rows) a.rows j) =
          sum_same_mod p (λ k. change.entry i k * a.entry k j)
          (λ k. change.entry i k * combination (t.entry k) old.entry
          old.rows j) a.rows
          (λ k m. same_mul p (change.entry i k) (change.entry i k) (a.entry k j) (combination (t.entry k) old.entry
          old.rows j) refl (h.gives k (rw (← h.rows) m) j b)) in
          let back : SameMod p (combination (combination (change.entry i) t.entry a.rows) old.entry old.rows j)
          (combination (new_t.entry i) old.entry old.rows j) =
          sum_same_mod p (λ l. combination (change.entry i) t.entry a.rows l * old.entry l j) (λ l. new_t.entry i l *
          old.entry l j) old.rows
          (λ l m. same_mul p (combination (change.entry i) t.entry a.rows l) (new_t.entry i l) (old.entry l j)
          (old.entry
          l j)
          (ap (λ n. combination (change.entry i) t.entry n l % p) (h.rows ∙ sym h.trace_rows)
          ∙ sym (alike.second.gives i (rw h.trace_rows (rw (← h.rows) row)) l (rw h.trace_cols m))) refl) in
          alike.first.gives i row j (rw h.cols b) ∙ through
          ∙ ap (λ z. z % p) (combination-combination (change.entry i) t.entry old.entry a.rows old.rows j) ∙ back;
      faithful = λ y kernel k l.
          let moved : IsInKernel p change (image t y) = λ i m.
          let row : i < t.rows = rw (← alike.second.trace_rows) m in
          sym (trace_moves p t new_t change alike.second y i row)
          ∙ kernel i (rw alike.second.rows row) in
          let inner : IsInKernel p t y = λ i m. alike.second.faithful (image t y) moved i m in
          h.faithful y inner k l;
    }

-- the chosen rows, reduced from where they stood
pub chosen_reduced : {p : ℕ} {old a t first new_a new_t : Matrix} {ps chosen pivots : List ℕ} {count : ℕ} →
    IsGrown p old a t ps chosen count → SameMatrix first t →
    IsEliminated p a.cols a new_a first new_t pivots → IsReducedOf p (chosen_rows chosen old) new_a new_t pivots
chosen_reduced {p} {old} {a} {t} {first} {new_a} {new_t} {ps} {chosen} {pivots} grown same done =
    let C : Matrix = chosen_rows chosen old in
    let trace : IsTrace p C a first = trace_same p C a t first same.rows same.cols
    (λ i j l m. ap (λ z. z % p) (same.entries i j l m)) grown.trace in
    record {
      trace = trace_after p C a first new_a new_t trace done.alike;
      echelon = eliminated_echelon p a new_a first new_t pivots done;
      numbers = done.numbers;
      trace_numbers = done.other_numbers;
    }
