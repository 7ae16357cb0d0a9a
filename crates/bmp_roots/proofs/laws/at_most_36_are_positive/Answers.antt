use Rattle.bmp_roots.proofs.LawLemmas.{at_most_36}
use Rattle.bmp_roots.proofs.laws.at_most_36_are_positive.Goals as goal

pub returns : goal.returns
returns c m form finite = at_most_36 m form finite
