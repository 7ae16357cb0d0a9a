use Rattle.bmp_roots.proofs.PairLemmas.{one_coroot}
use Rattle.bmp_roots.proofs.laws.roots_have_one_coroot.Goals as goal

pub returns : goal.returns
returns c m form finite = one_coroot m form finite
