use Rattle.bmp_graded.proofs.CopiesLemmas.{free_small}
use Rattle.bmp_sheaf_tests.proofs.modules.free_dim.Goals as goal

pub dim-requires-clause-small : goal.dim-requires-clause-small
dim-requires-clause-small c = let s = c.args.free.now in
    free_small s.rank c.args.d s.degrees.items s.wide c.requires s.few
