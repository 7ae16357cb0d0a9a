use Rattle.bmp_roots.proofs.LawLemmas.{simple_permutes}
use Rattle.bmp_roots.proofs.laws.simple_reflections_permute.Goals as goal

pub returns : goal.returns
returns c m form finite = simple_permutes m form finite
