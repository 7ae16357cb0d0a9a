use Rattle.std.proofs.Common.{arith, rules, ◌<◌, ◌∙◌, sym, length, true≢false}
use Rattle.bmp_poly.proofs.CoefficientLemmas.{coefficient_read}
use Rattle.bmp_module.proofs.Changing.{same_here, same_more}
use Rattle.bmp_module.proofs.coordinates.Coordinates.same.Goals as goal

pub returns-then-num : goal.returns-then-num
returns-then-num g c = (
  (λ t. absurd (true≢false (sym t))),
  (λ same.
      let here : c.loop-i.i < length c.args.self.now.numbers.items = search rules in
      let there : c.loop-i.i < length c.args.other.now.numbers.items = omega (arith, c.requires.sized) in
      let a = coefficient_read (g.F.Field.num c.args.f.now) c.args.self.now.numbers.items c.loop-i.i c.index.result.now
      here c.index.ensures in
      let b = coefficient_read (g.F.Field.num c.args.f.now) c.args.other.now.numbers.items c.loop-i.i
      c.index-in-loop-i.result.now there c.index-in-loop-i.ensures in
      absurd (c.if-num.true (c.num.ensures ∙ sym a ∙ same c.loop-i.i here ∙ b ∙ sym c.num-in-loop-i.ensures))),
)

pub loop-i-preserved : goal.loop-i-preserved
loop-i-preserved g c =
    let here : c.loop-i.i < length c.args.self.now.numbers.items = search rules in
    let there : c.loop-i.i < length c.args.other.now.numbers.items = omega (arith, c.requires.sized) in
    same_more _ _ c.loop-i.i c.loop-i.invariant
    (same_here (g.F.Field.num c.args.f.now) c.args.self.now.numbers.items c.args.other.now.numbers.items c.loop-i.i
    c.index.result.now c.index-in-loop-i.result.now here there c.index.ensures c.index-in-loop-i.ensures
    (sym c.num.ensures ∙ c.if-num.false ∙ c.num-in-loop-i.ensures))
