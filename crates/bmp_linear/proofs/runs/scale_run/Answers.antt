use Rattle.std.proofs.Common.{◌∙◌, rules}
use Rattle.bmp_linear.proofs.RunRowLemmas.{multiplied_more, still_below}
use Rattle.bmp_linear.proofs.runs.scale_run.Goals as goal

pub from_num-number-requires : goal.from_num-number-requires
from_num-number-requires g c =
    still_below (g.F.Field.size c.args.f.now) (g.F.Field.num c.args.f.now c.args.c) c.args.start c.loop-j.j c.args.len
    c.args.numbers.now c.loop-j.numbers _ (search rules) c.requires.run c.loop-j.invariant c.from.ensures

pub loop-j-preserved : goal.loop-j-preserved
loop-j-preserved g c =
    multiplied_more (g.F.Field.size c.args.f.now) (g.F.Field.num c.args.f.now c.args.c) c.args.start c.loop-j.j
    c.args.numbers.now c.loop-j.numbers _ _ c.num.result
    (search rules) c.loop-j.invariant (c.from_num-number.ensures.number ∙ c.from.ensures) c.mul.ensures.number
    c.num.ensures
