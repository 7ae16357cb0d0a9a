use Rattle.bmp_roots.proofs.RootsLemmas.{has_finite_system}
use Rattle.bmp_roots.proofs.root_system.Roots.cartan.Goals as goal

pub returns-clause-finite : goal.returns-clause-finite
returns-clause-finite c = has_finite_system c.args.self.now
