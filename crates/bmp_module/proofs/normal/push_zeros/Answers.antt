use Rattle.bmp_module.proofs.Appending.{appended_none, appended_more}
use Rattle.bmp_module.proofs.normal.push_zeros.Goals as goal

pub loop-init : goal.loop-init
loop-init g c = appended_none (g.F.Field.is_value c.args.f.now) (g.F.Field.num c.args.f.now) c.args.numbers.now.items
    (λ i. 0) c.requires

pub loop-preserved : goal.loop-preserved
loop-preserved g c =
    rw c.in_ok-push.ensures.items
    (appended_more (g.F.Field.is_value c.args.f.now) (g.F.Field.num c.args.f.now) c.args.numbers.now.items
    c.loop.numbers.items _ (λ i. 0) c.zero.result c.loop.invariant c.zero.ensures.value c.zero.ensures.number)
