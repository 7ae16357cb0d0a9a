use Rattle.bmp_roots.proofs.PairLemmas.{mirrored_is_pair}
use Rattle.bmp_roots.proofs.laws.reflections_keep_root_pairs.Goals as goal

pub returns : goal.returns
returns c m form = mirrored_is_pair m form
