use Rattle.std.proofs.Common.{arith}
use Rattle.bmp_graph.proofs.GkmLemmas.{IsNextEnd-ending, IsNextEnd-starting, HasNoEnd-left}
use Rattle.bmp_graph.proofs.graph.MomentGraph.first_of.Goals as goal

pub returns-then-ending-edges : goal.returns-then-ending-edges
returns-then-ending-edges c =
    IsNextEnd-ending _ c.edges.ensures.graph c.args.x c.args.from c.args.ending c.requires.ending
    (omega (arith, c.edges.ensures.count))

pub returns-then-first-past : goal.returns-then-first-past
returns-then-first-past c =
    IsNextEnd-starting _ c.edges.ensures.graph c.args.x c.args.from c.args.ending _ _ c.requires.ending
    (omega (arith, c.edges.ensures.count))
    c.requires.starts c.up-first.ensures.range (omega arith)

pub returns-else-first-past : goal.returns-else-first-past
returns-else-first-past c =
    HasNoEnd-left _ c.edges.ensures.graph c.args.x c.args.from c.args.ending _ _ c.requires.ending
    (omega (arith, c.edges.ensures.count))
    c.up-first.ensures.range (omega arith)
