use Rattle.std.proofs.Common.{arith, ◌≡◌, ◌+◌, ◌<◌, length, ap}
use Rattle.bmp_module.proofs.TupledMultiples.{multiple_more, multiple_element, multiple_numbers}
use Rattle.bmp_module.proofs.tuple.TupleGradedModule.act.Goals as goal

pub loop-k-preserved : goal.loop-k-preserved
loop-k-preserved g c =
    multiple_more (λ m a. g.M.GradedModule.is_element m c.args.f.now a) g.M.GradedModule.degree g.M.GradedModule.graded
    (λ m a. g.M.GradedModule.coordinate m c.args.f.now a) (g.F.Field.size c.args.f.now) c.args.m c.args.e.now.degree
    c.args.self.now.parts.items c.args.e.now.parts.items
    c.loop-k.parts.items c.push.new.self.items c.loop-k.k c.index.result.now c.index-in-loop-k.result.now
    c.in_ok-part.part c.index.ensures c.index-in-loop-k.ensures
    (let here : c.loop-k.k < length c.args.self.now.parts.items = omega (
      arith,
      c.loop-k-test.true,
      c.len-k-end.ensures,
    ) in here) c.requires.element c.in_ok-part.ensures.element c.in_ok-part.ensures.degree
    c.in_ok-part.ensures.multiple c.in_ok-push.ensures.items c.loop-k.invariant

pub returns-clause-element : goal.returns-clause-element
returns-clause-element g c = rw c.degree_of.ensures
    (multiple_element (λ m a. g.M.GradedModule.is_element m c.args.f.now a) g.M.GradedModule.degree
    g.M.GradedModule.graded (λ m a. g.M.GradedModule.coordinate m c.args.f.now a) (g.F.Field.size c.args.f.now)
    c.args.m c.args.e.now.degree c.args.self.now.parts.items c.args.e.now.parts.items
    c.loop-k.parts.items c.loop-k.k c.len-k-end.result
    (let all : c.len-k-end.result ≡ length c.args.self.now.parts.items = omega (arith, c.len-k-end.ensures) in all)
    c.loop-k-test.false c.loop-k.auto.k-end c.requires.degree c.loop-k.invariant)

pub returns-clause-multiple : goal.returns-clause-multiple
returns-clause-multiple g c =
    multiple_numbers (λ m a. g.M.GradedModule.is_element m c.args.f.now a) g.M.GradedModule.degree
    g.M.GradedModule.graded (λ m a. g.M.GradedModule.coordinate m c.args.f.now a) (g.F.Field.size c.args.f.now)
    c.args.m c.args.e.now.degree c.args.self.now.parts.items c.args.e.now.parts.items
    (λ m. g.M.GradedModule.fits m (g.F.Field.size c.args.f.now)) g.M.GradedModule.rank c.loop-k.parts.items c.loop-k.k
    c.len-k-end.result (c.args.e.now.degree + c.degree_of.result)
    (ap (λ z. c.args.e.now.degree + z) c.degree_of.ensures)
    (let all : c.len-k-end.result ≡ length c.args.self.now.parts.items = omega (arith, c.len-k-end.ensures) in all)
    c.loop-k-test.false c.loop-k.auto.k-end
    (λ m. g.met.M.GradedModule.laws m c.args.f.now) c.requires.fits c.requires.monomial c.requires.element
    c.loop-k.invariant
