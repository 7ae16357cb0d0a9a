use Rattle.std.proofs.Common.{arith, ap, ◌≡◌, ◌∙◌, sym}
use Rattle.bmp_poly.specs.Exponents.{count, level}
use Rattle.bmp_poly.proofs.Scanning.{level_down, level_here, level_zero}
use Rattle.bmp_poly.proofs.monomials.level.Goals as goal

pub loop-j-preserved : goal.loop-j-preserved
loop-j-preserved c = (
  c.loop-j.invariant.0 ∙ level_down (count c.args.n) c.args.i c.loop-j.j c.loop-j-test.true
      (omega (arith, c.before-in-loop-j.ensures)),
  omega arith,
)

pub returns-else-before-i : goal.returns-else-before-i
returns-else-before-i c =
    sym (c.loop-j.invariant.0
    ∙ level_here (count c.args.n) c.args.i c.loop-j.j (omega (arith, c.before-in-loop-j.ensures)))

pub returns-after-loop-j : goal.returns-after-loop-j
returns-after-loop-j c = let none : c.loop-j.j ≡ 0 = omega arith in
    sym (c.loop-j.invariant.0 ∙ ap (level (count c.args.n) c.args.i) none ∙ level_zero (count c.args.n) c.args.i
    ∙ sym none)
