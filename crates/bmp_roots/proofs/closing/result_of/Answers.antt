use Rattle.bmp_roots.proofs.ClosingSteps.{small_at}
use Rattle.bmp_roots.proofs.closing.result_of.Goals as goal

pub moved-requires-clause-small : goal.moved-requires-clause-small
moved-requires-clause-small c =
    small_at c.args.cartan.now c.args.list.now c.args.i c.at-pair.result c.requires.grown c.requires.place
    c.at-pair.ensures
