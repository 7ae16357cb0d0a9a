use Rattle.std.proofs.Common.{◌≡◌}
use Rattle.bmp_cert.specs.Counts.{all_counts}
use Rattle.bmp_cert.proofs.ranks.numbers_of.Given as goal

abbrev pub invariant-vertices : goal.invariant-vertices
invariant-vertices l = l.numbers.items ≡ all_counts (record { degree = l.bound; parts = l.list }) l.x
