-- An elimination that is kept, and its answers: they are about any rows of which it is one.
--   IsReducedOf p old new t ps  new is old in reduced echelon form with the pivots ps, and the trace t leads there
--   IsSolvedFrom p old b s      the answer s to `old x = b`: a solution, or where there is none, numbers that refuse b
--   IsEvidenceOf p old e        e is evidence for what the rows send to 0: it passes, and its basis is one of that
use Rattle.std.specs.Prelude.{ℕ, ◌<◌, ◌↔◌, List, length}
use Rattle.bmp_math.specs.Matrices.{Matrix, NumbersBelow, IsInKernel, IsIndependent}
use Rattle.bmp_linear.specs.declared.evidence.KernelEvidence.{KernelEvidence}
use Rattle.bmp_linear.specs.Evidence.{EvidenceFits, EvidenceBelow, vector_at}
use Rattle.bmp_linear.specs.Faults.{AllPass}
use Rattle.bmp_linear.specs.KernelChecks.{KernelCompares, IsSpanned}
use Rattle.bmp_elim.specs.declared.systems.Solution.{Solution}
use Rattle.bmp_elim.specs.Echelons.{IsEchelon}
use Rattle.bmp_elim.specs.Traces.{IsTrace}
use Rattle.bmp_elim.specs.Systems.{HasSolution, IsSolution, IsObstruction, IsFound, IfFound, IfWithout}

pub record IsReducedOf (p : ℕ) (old new t : Matrix) (ps : List ℕ) : Type 0 where
  pub trace : IsTrace p old new t
  pub echelon : IsEchelon new ps
  pub numbers : NumbersBelow p new
  pub trace_numbers : NumbersBelow p t

pub record IsSolvedFrom (p : ℕ) (old : Matrix) (b : ℕ → ℕ) (s : Solution) : Type 0 where
  pub found : IfFound (IsSolution p old b) s
  pub without : IfWithout (IsObstruction p old b) s
  pub exactly : IsFound s ↔ HasSolution p old b

pub record IsEvidenceOf (p : ℕ) (old : Matrix) (e : KernelEvidence) : Type 0 where
  pub fits : EvidenceFits e old.rows old.cols
  pub below : EvidenceBelow e p
  pub passes : AllPass (KernelCompares p old e)
  pub kernel : (t : ℕ) → t < length e.basis → IsInKernel p old (vector_at e.basis t)
  pub independent : IsIndependent p old.cols (vector_at e.basis) (length e.basis)
  pub spans : (v : ℕ → ℕ) → IsInKernel p old v → IsSpanned p old.cols e v
