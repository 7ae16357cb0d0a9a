use Rattle.bmp_interval.specs.IntervalViews.{system_of, vertices_of}
use Rattle.bmp_bruhat.specs.Labels.{root_form}
use Rattle.bmp_bruhat.specs.Building.{IsError}
use Rattle.bmp_bruhat.specs.declared.error.BruhatError.TheVariants.{ZeroLabel}
use Rattle.bmp_bruhat.proofs.ZeroLemmas.{no_zero_root}
use Rattle.bmp_bruhat.proofs.graph.graph_of.Goals as goal

pub unreachable-requires : goal.unreachable-requires
unreachable-requires c =
    let error : IsError (system_of c.args.interval.now) (vertices_of c.args.interval.now) c.args.prime root_form
    (ZeroLabel c.in-ZeroLabel.lower c.in-ZeroLabel.upper) =
    rw c.in-ZeroLabel.is at c.in-Err.ensures.error in
    no_zero_root (system_of c.args.interval.now) (vertices_of c.args.interval.now) c.args.prime c.in-ZeroLabel.lower
    c.in-ZeroLabel.upper c.requires error
