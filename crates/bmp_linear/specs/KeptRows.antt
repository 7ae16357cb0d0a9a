-- The two ways in which a row of numbers is kept.
--   spread_numbers n es  the numbers of entries at the first n places
--   kept_numbers n k     the numbers of a row with n columns
--   KeepsRow n k         the entries stand below n, or there are n numbers
use Rattle.std.specs.Prelude.{◌≡◌, ℕ, List, length, map}
use Rattle.std.specs.List.{range_with_len}
use Rattle.bmp_linear.specs.declared.vector.Entry.{Entry}
use Rattle.bmp_linear.specs.declared.mixed_row.Kept.{Kept}
use Rattle.bmp_linear.specs.declared.mixed_row.Kept.TheVariants.{Entries, Numbers}
use Rattle.bmp_linear.specs.SparseVectors.{IsSparse, FitsBelow, number_at}

abbrev pub spread_numbers : ℕ → List Entry → List ℕ
spread_numbers n es = map (number_at es) (range_with_len 0 n)

abbrev pub kept_numbers : ℕ → Kept → List ℕ
kept_numbers n (Entries es) = spread_numbers n es.items
kept_numbers n (Numbers ns) = ns.items

abbrev pub KeepsRow : ℕ → Kept → Type 0
KeepsRow n (Entries es) = IsSparse es.items × FitsBelow es.items n
KeepsRow n (Numbers ns) = length ns.items ≡ n
