use Rattle.bmp_elim.proofs.LawLemmas.{wide_kernel}
use Rattle.bmp_elim.proofs.FieldLemmas.{field_inverses}
use Rattle.bmp_elim.proofs.laws.wide_matrices_have_kernel_vectors.Goals as goal

pub returns : goal.returns
returns g c = wide_kernel (g.F.Field.size c.args.f.now) (field_inverses g.met.F.Field.laws c.args.f.now)
