-- Laws of matrices modulo p, which no want of memory ends. In the order to read:
--   HasInverses p               each number below p other than 0 has an inverse
--   HasReducedForm p a          rows in reduced echelon form to which a faithful trace leads
--   HasKernelVector p a         a vector that isn't 0 and that the rows send to 0
--   IsLeftInverse p b a         b times a is the unit matrix
--   EachHasReducedForm p        every matrix has a reduced form
--   WideHaveKernelVectors p     a matrix with more columns than rows sends a vector to 0 that isn't 0
--   InversesAreSquare p         two matrices that are inverse to each other on both sides are square
--   BasesAreIndependent p       the basis of passed evidence is independent
--   DualsRead p                 a dual form says of a combination the factor of its chosen row
use Rattle.std.specs.Prelude.{◌≡◌, ◌≢◌, ℕ, ◌*◌, ◌%◌, ◌<◌, ◌≤◌, List, length, slice_index}
use Rattle.bmp_math.specs.Congruences.{SameMod}
use Rattle.bmp_math.specs.Vectors.{SameVector, unit, plus, dot}
use Rattle.bmp_math.specs.Matrices.{Matrix, combination, IsInKernel, IsIndependent}
use Rattle.bmp_linear.specs.declared.vector.Entry.{Entry}
use Rattle.bmp_linear.specs.declared.evidence.KernelEvidence.{KernelEvidence}
use Rattle.bmp_linear.specs.Evidence.{EvidenceFits, vector_at}
use Rattle.bmp_linear.specs.Faults.{AllPass}
use Rattle.bmp_linear.specs.KernelChecks.{KernelCompares}
use Rattle.bmp_elim.specs.Echelons.{IsEchelon}
use Rattle.bmp_elim.specs.Traces.{HasTrace}
use Rattle.bmp_elim.specs.Extensions.{AreDual}

pub record HasInverses (p : ℕ) : Type 0 where
  pub at_least_two : 2 ≤ p
  pub inverse : (n : ℕ) → n < p → n ≢ 0 → (m : ℕ) × (m < p) × ((n * m) % p ≡ 1)

pub record HasReducedForm (p : ℕ) (a : Matrix) : Type 0 where
  pub rows : Matrix
  pub pivots : List ℕ
  pub trace : HasTrace p a rows
  pub echelon : IsEchelon rows pivots

pub record HasKernelVector (p : ℕ) (a : Matrix) : Type 0 where
  pub vector : ℕ → ℕ
  pub place : ℕ
  pub within : place < a.cols
  pub not_zero : ¬ SameMod p (vector place) 0
  pub kernel : IsInKernel p a vector

-- b times a is the unit matrix
pub record IsLeftInverse (p : ℕ) (b a : Matrix) : Type 0 where
  pub rows : b.rows ≡ a.cols
  pub cols : b.cols ≡ a.rows
  pub product : (i : ℕ) → i < a.cols → SameVector p a.cols (combination (b.entry i) a.entry a.rows) (unit i)

abbrev pub EachHasReducedForm : ℕ → Type 0
EachHasReducedForm p = (a : Matrix) → HasReducedForm p a

abbrev pub WideHaveKernelVectors : ℕ → Type 0
WideHaveKernelVectors p = (a : Matrix) → a.rows < a.cols → HasKernelVector p a

abbrev pub InversesAreSquare : ℕ → Type 0
InversesAreSquare p = (a b : Matrix) → IsLeftInverse p b a → IsLeftInverse p a b → a.rows ≡ a.cols

abbrev pub BasesAreIndependent : ℕ → Type 0
BasesAreIndependent p = (a : Matrix) (e : KernelEvidence) → EvidenceFits e a.rows a.cols
    → AllPass (KernelCompares p a e) → IsIndependent p a.cols (vector_at e.basis) (length e.basis)

-- v is the combination s of the rows of the span and c of the chosen rows
abbrev pub DualsRead : ℕ → Type 0
DualsRead p = (span vectors : Matrix) (chosen : List ℕ) (duals : List (List Entry)) → span.cols ≡ vectors.cols
    → AreDual p span vectors chosen duals → (s c v : ℕ → ℕ)
    → SameVector p vectors.cols v (plus (combination s span.entry span.rows)
    (combination c (λ k. vectors.entry (slice_index chosen k)) (length chosen)))
    → (i : ℕ) → i < length chosen → SameMod p (dot vectors.cols (vector_at duals i) v) (c i)
