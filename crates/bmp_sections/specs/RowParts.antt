-- A row that is kept in two parts, each as its entries. In the order to read:
--   negated p v                                minus the entries, modulo p
--   part_number p lower upper low high k       at column k the numbers of `lower` from column low on, minus those of
--                                              `upper` from column high on, 0 elsewhere
--   IsRowOfParts p a i lower upper low high    row i of the matrix a has these numbers
use Rattle.std.specs.Prelude.{◌≡◌, ℕ, ◌-◌, ◌*◌, ◌%◌, ◌<◌, ◌≤◌, nat_le, if◌then◌else◌, List, map}
use Rattle.bmp_math.specs.Matrices.{Matrix}
use Rattle.bmp_linear.specs.declared.vector.Entry.{Entry}
use Rattle.bmp_linear.specs.SparseVectors.{IsSparse, FitsBelow, ValuesBelow, number_at}
use Rattle.bmp_linear.specs.EntryChanges.{times_entry}

abbrev pub negated : ℕ → List Entry → List Entry
negated p v = map (times_entry p (p - 1)) v

abbrev pub part_number : ℕ → List Entry → List Entry → ℕ → ℕ → ℕ → ℕ
part_number p lower upper low high k =
    if nat_le high k then ((p - 1) * number_at upper (k - high)) % p
    else (if nat_le low k then number_at lower (k - low) else 0)

pub record IsRowOfParts (p : ℕ) (a : Matrix) (i : ℕ) (lower upper : List Entry) (low high : ℕ) : Type 0 where
  pub two : 2 ≤ p
  pub lower_sparse : IsSparse lower
  pub upper_sparse : IsSparse upper
  pub lower_below : ValuesBelow lower p
  pub upper_below : ValuesBelow upper p
  pub in_order : low ≤ high
  pub within : high ≤ a.cols
  pub lower_fits : FitsBelow lower (high - low)
  pub upper_fits : FitsBelow upper (a.cols - high)
  pub same : (k : ℕ) → k < a.cols → a.entry i k ≡ part_number p lower upper low high k
