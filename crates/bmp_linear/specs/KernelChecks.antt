-- The comparisons of `check_kernel`, and what passed evidence says.
--   ComparesFree cols e r      a basis vector at a free place, with 1 at its own and 0 at the others
--   ComparesZero p a e r       what a row says of a basis vector, with 0
--   ComparesPivot p a e r      a combination of the rows at a pivot, with 1 at its own and 0 at the others
--   KernelCompares p a e r     one of these
--   IsSpanned p cols e v       v is the combination of the basis with its own numbers at the free places
use Rattle.std.specs.Prelude.{◌≡◌, ℕ, ◌+◌, ◌%◌, ◌<◌, ◌⊎◌, length, slice_index}
use Rattle.bmp_math.specs.Vectors.{SameVector, unit}
use Rattle.bmp_math.specs.Matrices.{Matrix, combination, image}
use Rattle.bmp_linear.specs.declared.evidence.KernelEvidence.{KernelEvidence}
use Rattle.bmp_linear.specs.declared.fault.RowFault.{RowFault}
use Rattle.bmp_linear.specs.FreePlaces.{free_places}
use Rattle.bmp_linear.specs.Evidence.{vector_at}

-- the place counts the free places
pub record ComparesFree (cols : ℕ) (e : KernelEvidence) (r : RowFault) : Type 0 where
  pub basis : r.index < length e.basis
  pub free : r.place < length e.basis
  pub left_is : r.left ≡ vector_at e.basis r.index (slice_index (free_places e.pivots cols) r.place)
  pub right_is : r.right ≡ unit r.place r.index

-- the places after the free ones count the rows
pub record ComparesZero (p : ℕ) (a : Matrix) (e : KernelEvidence) (r : RowFault) : Type 0 where
  pub basis : r.index < length e.basis
  pub row : (i : ℕ) × (i < a.rows) × (r.place ≡ length e.basis + i) ×
      (r.left ≡ image a (vector_at e.basis r.index) i % p)
  pub right_is : r.right ≡ 0

-- the indices after the basis vectors count the combinations, and the place is the pivot
pub record ComparesPivot (p : ℕ) (a : Matrix) (e : KernelEvidence) (r : RowFault) : Type 0 where
  pub at_pivot : (i s : ℕ) × (i < length e.rows) × (s < length e.pivots) × (r.index ≡ length e.basis + i) ×
      (r.place ≡ slice_index e.pivots s) × (r.left ≡ combination (vector_at e.rows i) a.entry a.rows r.place % p) ×
      (r.right ≡ unit s i)

abbrev pub KernelCompares : ℕ → Matrix → KernelEvidence → RowFault → Type 0
KernelCompares p a e r = ComparesFree a.cols e r ⊎ (ComparesZero p a e r ⊎ ComparesPivot p a e r)

-- v is the combination of the basis with its own numbers at the free places
abbrev pub IsSpanned : ℕ → ℕ → KernelEvidence → (ℕ → ℕ) → Type 0
IsSpanned p cols e v =
    SameVector p cols v
    (combination (λ t. v (slice_index (free_places e.pivots cols) t)) (vector_at e.basis) (length e.basis))
