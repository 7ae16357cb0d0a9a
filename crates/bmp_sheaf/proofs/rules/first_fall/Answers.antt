use Rattle.std.proofs.Common.{rules}
use Rattle.bmp_sheaf.proofs.RuleLemmas.{risen_breaks}
use Rattle.bmp_sheaf.proofs.rules.first_fall.Goals as goal

pub returns-then-degree-before : goal.returns-then-degree-before
returns-then-degree-before c =
    risen_breaks c.args.degrees.now c.loop-i.i c.loop-i.before _ (search rules) c.loop-i.invariant
    c.if-degree-before.true c.loop-i-test.true
