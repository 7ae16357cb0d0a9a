use Rattle.std.proofs.Common.{◌≤◌, subst}
use Rattle.bmp_elim.proofs.PlacedLemmas.{count_ended}
use Rattle.bmp_elim.proofs.columns.count_below.Goals as goal

-- the place that ended the loop isn't below n
pub returns-else-at-n : goal.returns-else-at-n
returns-else-at-n c =
    count_ended c.args.places.now c.args.n c.loop-count.count c.requires c.loop-count.invariant.within
    c.loop-count.invariant.early (λ l. subst (λ x. c.args.n ≤ x) c.at.ensures c.if-at-n.false)
