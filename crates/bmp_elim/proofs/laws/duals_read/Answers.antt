use Rattle.bmp_elim.proofs.LawLemmas.{dual_reads}
use Rattle.bmp_elim.proofs.laws.duals_read.Goals as goal

pub returns : goal.returns
returns g c = dual_reads (g.F.Field.size c.args.f.now)
