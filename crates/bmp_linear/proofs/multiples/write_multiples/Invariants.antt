use Rattle.std.proofs.Common.{◌≡◌, length}
use Rattle.bmp_linear.specs.Runs.{AreMultiples}
use Rattle.bmp_linear.proofs.multiples.write_multiples.Given as goal

-- the multiples before `c` are written
abbrev pub invariant-loop-c : goal.invariant-loop-c
invariant-loop-c g l =
    (length l.table ≡ length l.fn.table) × AreMultiples (g.F.Field.size l.f) l.c l.run l.table
