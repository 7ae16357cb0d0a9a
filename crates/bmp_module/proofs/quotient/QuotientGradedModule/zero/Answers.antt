use Rattle.std.proofs.Common.{arith, ◌-◌}
use Rattle.bmp_graded.proofs.CopiesLemmas.{quotient_small}
use Rattle.bmp_module.proofs.quotient.QuotientGradedModule.zero.Goals as goal

pub dim-dim-requires-clause-small : goal.dim-dim-requires-clause-small
dim-dim-requires-clause-small g c =
    quotient_small (c.args.self.now.label.rank - 1) c.args.self.now.label.leading c.args.d _
    c.args.self.now.free.degrees.items (omega (arith, c.args.self.now.label.leads.rank)) c.requires.degree
    c.args.self.now.free.few
