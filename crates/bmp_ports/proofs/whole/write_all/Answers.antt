use Rattle.std.proofs.Common.{arith, ◌∙◌, length-drop, length, drop, ◌-◌}
use Rattle.std.proofs.lemmas.List.{length-take}
use Rattle.bmp_ports.proofs.PortLemmas.{takes_rest}
use Rattle.bmp_ports.proofs.whole.write_all.Goals as goal

pub loop-at-preserved : goal.loop-at-preserved
loop-at-preserved g c = (
  omega (
    arith,
    c.in_ok-n.ensures.within,
    length-take (length c.args.bytes.now - c.loop-at.at) (drop c.loop-at.at c.args.bytes.now),
    length-drop c.loop-at.at c.args.bytes.now,
  ),
  omega (arith, c.in_ok-n.ensures.later),
  c.in_ok-n.ensures.same ∙ c.loop-at.invariant.2,
  takes_rest _ _ _ _ c.loop-at.at c.in_ok-n.n c.loop-at.invariant.0 c.loop-at.invariant.3 c.in_ok-n.ensures.takes,
)
