use Rattle.std.proofs.Common.{◌≡◌, ℕ, ◌+◌, ◌<◌}
use Rattle.std.specs.Prelude.{slice_index}
use Rattle.bmp_elim.proofs.extensions.write_column.Given as goal

-- the numbers that were passed are written, and those before `from` are as they were
abbrev pub invariant-loop-i : goal.invariant-loop-i
invariant-loop-i g l = record {
  written : (i : ℕ) → i < l.i → slice_index l.into (l.from + i) ≡ (g.A.Rows.matrix l.a).entry i l.column;
  before : (k : ℕ) → k < l.from → slice_index l.into k ≡ slice_index l.fn.into k;
}
