use Rattle.std.proofs.Common.{◌≡◌, ℕ, ◌<◌, length, get_or, take}
use Rattle.bmp_linear.specs.SparseVectors.{number_at}
use Rattle.bmp_sections.proofs.compatible.spread.Given as goal

-- zeros are written
abbrev pub invariant-loop-place : goal.invariant-loop-place
invariant-loop-place l = record {
  zeros : (j : ℕ) → j < l.place → get_or l.s.first j 0 ≡ 0;
  room : length l.s.first ≡ length l.fn.s.first;
}

-- the entries so far are written
abbrev pub invariant-loop-entry : goal.invariant-loop-entry
invariant-loop-entry l = record {
  written : (j : ℕ) → j < l.len → get_or l.s.first j 0 ≡ number_at (take l.entry-index l.entry-items) j;
  room : length l.s.first ≡ length l.fn.s.first;
}
