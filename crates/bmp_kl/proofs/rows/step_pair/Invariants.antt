use Rattle.std.proofs.Common.{◌≡◌}
use Rattle.bmp_hecke.specs.DifferenceBars.{previous}
use Rattle.bmp_kl.specs.BarRows.{behind, IsPairStepped}
use Rattle.bmp_kl.proofs.rows.step_pair.Given as goal

abbrev pub invariant-loop-j : goal.invariant-loop-j
invariant-loop-j l =
    IsPairStepped l.low l.high l.j l.fn.values.items l.values.items ×
    (l.carried ≡ previous (behind l.fn.values.items l.high) l.j)
