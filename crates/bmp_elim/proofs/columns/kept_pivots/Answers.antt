use Rattle.std.proofs.Common.{◌∙◌}
use Rattle.bmp_elim.proofs.KeptColumnLemmas.{kept_pivots_more}
use Rattle.bmp_elim.proofs.columns.kept_pivots.Goals as goal

pub loop-k-preserved : goal.loop-k-preserved
loop-k-preserved c =
    rw c.in_ok-push.ensures.ok
    (kept_pivots_more c.loop-k.kept c.kept_place-place.result c.loop-k.invariant (λ early.
    c.kept_place-place.ensures.early early ∙ c.at.ensures) (λ late. c.kept_place-place.ensures.late late))
