use Rattle.std.proofs.Common.{arith}
use Rattle.bmp_roots.proofs.RootsLemmas.{has_few_positives}
use Rattle.bmp_roots.proofs.root_system.Roots.positive.Goals as goal

pub returns-clause-few : goal.returns-clause-few
returns-clause-few c = omega (arith, has_few_positives c.args.self.now, c.len.ensures.is)
