use Rattle.std.proofs.Common.{◌≡◌, length, arith, subst}
use Rattle.bmp_interval.specs.IntervalViews.{system_of, vertices_of}
use Rattle.bmp_bruhat.specs.Building.{HasEdgesUpTo}
use Rattle.bmp_bruhat.proofs.building.edges_of.Goals as goal

pub returns : goal.returns
returns c =
    let all : c.loop-x.x ≡ length (vertices_of c.args.interval.now) = omega (arith, c.len-x-end.ensures.value) in
    subst (λ n. HasEdgesUpTo (system_of c.args.interval.now) (vertices_of c.args.interval.now) n 0 c.loop-x.edges.items)
    all c.loop-x.invariant
