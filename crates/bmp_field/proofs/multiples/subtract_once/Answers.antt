use Rattle.std.proofs.Common.{◌-◌, ◌∙◌, get_or, rules}
use Rattle.bmp_field.proofs.RunLemmas.{added_more, less_is_times}
use Rattle.bmp_field.proofs.multiples.subtract_once.Goals as goal

pub loop-j-preserved : goal.loop-j-preserved
loop-j-preserved c =
    added_more c.args.p (c.args.p - 1) c.args.from.now c.loop-j.j c.args.into.now c.loop-j.into c.reduced.result
    (search rules) c.loop-j.invariant
    (c.reduced.ensures ∙ less_is_times c.args.p (get_or c.loop-j.into c.loop-j.j 0)
    (get_or c.args.from.now c.loop-j.j 0) (search rules))
