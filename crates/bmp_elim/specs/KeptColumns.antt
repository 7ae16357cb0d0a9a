-- Columns that are chosen behind the first ones of a matrix, and what is read off one elimination of it.
--   kept_place split chosen k             where the kept column number k stands
--   kept_columns split chosen o           the matrix of the kept columns of o: the first `split`, and the chosen ones
--   AreColumns split o chosen             the chosen columns, counted behind the first ones, rise and are columns of o
--   HasColumnDuals p split o chosen ds    for each chosen column a form: 1 on it, and 0 on the other kept columns
--   HasColumnSums p split o chosen sums   for each column from `split` on, how the kept columns combine to it
-- Of the code alone:
--   AreKeptPivots ps start split ks       the pivots ps, counted along the kept columns
--   AreKeptPivotsBelow ps start split n ks   the same of the first n of them
--   IsEntryOf a column k x                x is the number of row k in the column
--   IsPlacedColumn p a column ps v        v has the numbers of the column at the places, row by row, and 0 elsewhere
--   ArePlacedColumns p a ps from to vs    one such vector for each column from `from` on and before `to`
--   IsColumnChoice ps split start chosen kept   which columns are chosen, by the pivots
use Rattle.std.specs.Prelude.{◌≡◌, ℕ, ◌+◌, ◌-◌, ◌<◌, List, [], length, slice_index, slice_index_or, nat_le, if◌then◌else◌, All}
use Rattle.std.specs.List.Sorted.{IsStrictlyIncreasing}
use Rattle.bmp_math.specs.Congruences.{SameMod}
use Rattle.bmp_math.specs.Vectors.{unit}
use Rattle.bmp_math.specs.Matrices.{Matrix, combination}
use Rattle.bmp_linear.specs.declared.vector.Entry.{Entry}
use Rattle.bmp_linear.specs.SparseVectors.{FitsBelow, ValuesBelow}
use Rattle.bmp_linear.specs.Evidence.{vector_at}
use Rattle.bmp_elim.specs.Columns.{AreShifted}
use Rattle.bmp_elim.specs.Systems.{Solves}
use Rattle.bmp_elim.specs.FreeVectors.{IsPlacedBelow, IsCountBelow}

-- the first columns are kept, and behind them the chosen ones
abbrev pub kept_place : ℕ → List ℕ → ℕ → ℕ
kept_place split chosen k = if nat_le split k then split + slice_index chosen (k - split) else k

abbrev pub kept_columns : ℕ → List ℕ → Matrix → Matrix
kept_columns split chosen o = record {
  rows = o.rows;
  cols = split + length chosen;
  entry = λ i k. o.entry i (kept_place split chosen k);
}

-- the columns are chosen in rising order
pub record AreColumns (split : ℕ) (o : Matrix) (chosen : List ℕ) : Type 0 where
  pub rise : IsStrictlyIncreasing chosen
  pub below : (i : ℕ) → i < length chosen → split + slice_index chosen i < o.cols

-- the form number i is 1 on the chosen column number i, and 0 on the other kept columns
pub record HasColumnDuals (p split : ℕ) (o : Matrix) (chosen : List ℕ) (duals : List (List Entry)) : Type 0 where
  pub one_for_each : length duals ≡ length chosen
  pub fit : All (λ v. FitsBelow v o.rows) duals
  pub below : All (λ v. ValuesBelow v p) duals
  pub each : (i k : ℕ) → i < length chosen → k < split + length chosen
      → SameMod p (combination (vector_at duals i) (kept_columns split chosen o).entry o.rows k) (unit (split + i) k)

-- the kept columns, so combined, are the column number split + j
pub record HasColumnSums (p split : ℕ) (o : Matrix) (chosen : List ℕ) (sums : List (List Entry)) : Type 0 where
  pub one_for_each : split + length sums ≡ o.cols
  pub fit : All (λ v. FitsBelow v (split + length chosen)) sums
  pub below : All (λ v. ValuesBelow v p) sums
  pub each : (j : ℕ) → j < length sums → Solves p (kept_columns split chosen o) (λ i. o.entry i (split + j))
      (vector_at sums j)

-- how the first n pivots are counted along the kept columns: the first `start` of them are among the first columns
pub record AreKeptPivotsBelow (ps : List ℕ) (start split n : ℕ) (ks : List ℕ) : Type 0 where
  pub one_for_each : length ks ≡ n
  pub early : (k : ℕ) → k < start → k < n → slice_index ks k ≡ slice_index ps k
  pub late : (i : ℕ) → start + i < n → slice_index ks (start + i) ≡ split + i

abbrev pub AreKeptPivots : List ℕ → ℕ → ℕ → List ℕ → Type 0
AreKeptPivots ps start split ks = AreKeptPivotsBelow ps start split (length ps) ks

abbrev pub IsEntryOf : Matrix → ℕ → ℕ → ℕ → Type 0
IsEntryOf a column k x = x ≡ a.entry k column

abbrev pub IsPlacedColumn : ℕ → Matrix → ℕ → List ℕ → List Entry → Type 0
IsPlacedColumn p a column ps v = IsPlacedBelow p ps (length ps) (IsEntryOf a column) v

pub record ArePlacedColumns (p : ℕ) (a : Matrix) (ps : List ℕ) (from to : ℕ) (vs : List (List Entry)) : Type 0 where
  pub one_for_each : from + length vs ≡ to
  pub each : (j : ℕ) → j < length vs → IsPlacedColumn p a (from + j) ps (slice_index_or vs j [])

pub record IsColumnChoice (ps : List ℕ) (split start : ℕ) (chosen kept : List ℕ) : Type 0 where
  pub count : IsCountBelow ps split start
  pub shifted : AreShifted ps start split chosen
  pub pivots : AreKeptPivots ps start split kept
