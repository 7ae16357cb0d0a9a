use Rattle.bmp_elim.proofs.ReducedFormLemmas.{reduced_form}
use Rattle.bmp_elim.proofs.FieldLemmas.{field_inverses}
use Rattle.bmp_elim.proofs.laws.matrices_are_reduced.Goals as goal

pub returns : goal.returns
returns g c = reduced_form (g.F.Field.size c.args.f.now) (field_inverses g.met.F.Field.laws c.args.f.now)
