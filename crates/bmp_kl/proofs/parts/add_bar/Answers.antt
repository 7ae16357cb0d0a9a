use Rattle.std.proofs.Common.{arith}
use Rattle.std.proofs.lemmas.Int.{ints, to_z-of_z}
use mir.Syntax.{w128}
use Rattle.bmp_roots.specs.RootSystems.{matrix_of, positive_roots_of}
use Rattle.bmp_interval.specs.IntervalViews.{system_of, vertices_of}
use Rattle.bmp_kl.specs.IntervalBars.{counts_below}
use Rattle.bmp_kl.proofs.PartLemmas.{bar_none, bar_next}
use Rattle.bmp_kl.proofs.parts.add_bar.Goals as goal

pub loop-a-init : goal.loop-a-init
loop-a-init c =
    bar_none c.args.y c.args.tops.now
    (counts_below (matrix_of (system_of c.args.interval.now)) (positive_roots_of (system_of c.args.interval.now))
    (vertices_of c.args.interval.now) c.args.y) c.args.parts.now.items

pub loop-a-preserved : goal.loop-a-preserved
loop-a-preserved c =
    bar_next c.loop-a.a c.args.y c.args.tops.now _
    (counts_below (matrix_of (system_of c.args.interval.now)) (positive_roots_of (system_of c.args.interval.now))
    (vertices_of c.args.interval.now) c.args.y)
    c.args.parts.now.items c.loop-a.parts.items c.add_term.new.parts.items c.loop-a.invariant c.add_term.ensures
    (to_z-of_z w128 _ (omega (arith, ints, c.requires.small c.loop-a.a))) (omega arith)
