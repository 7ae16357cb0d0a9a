use Rattle.std.proofs.Common.{◌≡◌, ℕ, ◌%◌, ◌<◌, length, get_or, take}
use Rattle.bmp_linear.proofs.EntrySums.{entry_sum}
use Rattle.bmp_sections.specs.TupleLists.{value_matrix}
use Rattle.bmp_stalk.proofs.joined.add_combination.Given as goal

-- the rows of the entries so far are combined
abbrev pub invariant-loop-entry : goal.invariant-loop-entry
invariant-loop-entry g l = let a = value_matrix (g.T.Sections.list l.tuples) l.y in record {
  room : length l.sums ≡ length l.fn.sums;
  sums : (j : ℕ) → j < a.cols → get_or l.sums j 0
      ≡ entry_sum (take l.entry-index l.entry-items) (λ i. a.entry i j) % g.F.Field.size l.f;
}
