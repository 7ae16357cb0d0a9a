use Rattle.bmp_poly.proofs.LawLemmas.{is_congruence}
use Rattle.bmp_poly.proofs.laws.congruence_is_kept.Goals as goal

pub returns : goal.returns
returns c = is_congruence
