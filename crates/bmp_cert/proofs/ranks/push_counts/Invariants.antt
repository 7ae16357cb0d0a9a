use Rattle.std.proofs.Common.{◌≡◌, ◌++◌}
use Rattle.bmp_cert.specs.Counts.{counts_below}
use Rattle.bmp_cert.proofs.ranks.push_counts.Given as goal

abbrev pub invariant-degrees : goal.invariant-degrees
invariant-degrees l = l.numbers.items ≡ l.initial.numbers.items ++ counts_below l.degrees l.d
