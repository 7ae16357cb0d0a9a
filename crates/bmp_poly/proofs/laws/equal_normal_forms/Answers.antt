use Rattle.bmp_poly.proofs.LawLemmas.{equal_where_congruent}
use Rattle.bmp_poly.proofs.laws.equal_normal_forms.Goals as goal

pub returns : goal.returns
returns c = equal_where_congruent
