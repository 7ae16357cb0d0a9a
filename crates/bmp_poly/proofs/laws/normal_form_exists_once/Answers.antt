use Rattle.bmp_poly.proofs.LawLemmas.{one_normal_form}
use Rattle.bmp_poly.proofs.laws.normal_form_exists_once.Goals as goal

pub returns : goal.returns
returns c = one_normal_form
