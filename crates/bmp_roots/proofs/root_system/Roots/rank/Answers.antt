use Rattle.bmp_roots.proofs.RootsLemmas.{has_finite_system, has_positive_roots}
use Rattle.bmp_roots.proofs.root_system.Roots.rank.Goals as goal

pub returns-clause-finite : goal.returns-clause-finite
returns-clause-finite c = has_finite_system c.args.self.now

pub returns-clause-positive : goal.returns-clause-positive
returns-clause-positive c = has_positive_roots c.args.self.now
