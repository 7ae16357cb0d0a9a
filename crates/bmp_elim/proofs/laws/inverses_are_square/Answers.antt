use Rattle.bmp_elim.proofs.LawLemmas.{inverses_square}
use Rattle.bmp_elim.proofs.FieldLemmas.{field_inverses}
use Rattle.bmp_elim.proofs.laws.inverses_are_square.Goals as goal

pub returns : goal.returns
returns g c = inverses_square (g.F.Field.size c.args.f.now) (field_inverses g.met.F.Field.laws c.args.f.now)
