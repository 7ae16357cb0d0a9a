use Rattle.bmp_graded.proofs.CopiesLemmas.{free_small}
use Rattle.bmp_module.proofs.free.FreeGradedModule.zero.Goals as goal

pub dim-dim-requires-clause-small : goal.dim-dim-requires-clause-small
dim-dim-requires-clause-small g c =
    free_small c.args.self.now.rank c.args.d c.args.self.now.degrees.items c.args.self.now.wide c.requires.degree
    c.args.self.now.few
