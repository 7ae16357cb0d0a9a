use Rattle.bmp_roots.proofs.LawLemmas.{one_of_two_signs}
use Rattle.bmp_roots.proofs.laws.roots_have_one_sign.Goals as goal

pub returns : goal.returns
returns c m form finite = one_of_two_signs m form finite
