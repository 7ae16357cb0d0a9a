-- The shape of kernel evidence.
--   vector_at vs i              the numbers of the i-th vector
--   EvidenceFits e rows cols    the evidence has the shape that rows and columns ask
--   EvidenceBelow e p           the numbers of the evidence are below p
use Rattle.std.specs.Prelude.{◌≡◌, ℕ, ◌+◌, ◌<◌, List, [], length, slice_index_or, All}
use Rattle.std.specs.List.Sorted.{IsStrictlyIncreasing}
use Rattle.bmp_linear.specs.declared.vector.Entry.{Entry}
use Rattle.bmp_linear.specs.declared.evidence.KernelEvidence.{KernelEvidence}
use Rattle.bmp_linear.specs.SparseVectors.{FitsBelow, ValuesBelow, number_at}

-- the numbers of the i-th vector
abbrev pub vector_at : List (List Entry) → ℕ → ℕ → ℕ
vector_at vs i = number_at (slice_index_or vs i [])

-- pivots rise, each has a combination of the rows, each other column a basis vector, and all is in range
pub record EvidenceFits (e : KernelEvidence) (rows cols : ℕ) : Type 0 where
  pub pivots_rise : IsStrictlyIncreasing e.pivots
  pub pivots_below : All (λ j. j < cols) e.pivots
  pub row_for_each : length e.rows ≡ length e.pivots
  pub in_all : length e.pivots + length e.basis ≡ cols
  pub basis_fits : All (λ v. FitsBelow v cols) e.basis
  pub rows_fit : All (λ v. FitsBelow v rows) e.rows

-- the numbers of the evidence are below p
pub record EvidenceBelow (e : KernelEvidence) (p : ℕ) : Type 0 where
  pub basis_below : All (λ v. ValuesBelow v p) e.basis
  pub rows_below : All (λ v. ValuesBelow v p) e.rows
