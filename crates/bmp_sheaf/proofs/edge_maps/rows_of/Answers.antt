use Rattle.bmp_graded.proofs.CopiesLemmas.{free_small}
use Rattle.bmp_sheaf.proofs.edge_maps.rows_of.Goals as goal

pub dim-cols-requires-clause-small : goal.dim-cols-requires-clause-small
dim-cols-requires-clause-small g c =
    free_small c.args.from.now.rank c.args.d c.args.from.now.degrees.items c.args.from.now.wide c.requires.degree
    c.args.from.now.few
