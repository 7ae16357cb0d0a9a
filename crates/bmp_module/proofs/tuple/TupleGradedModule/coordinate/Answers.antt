use Rattle.std.proofs.Common.{rules, arith, ◌≡◌, ◌<◌, length}
use Rattle.bmp_module.proofs.TupledPlaces.{part_small, place_start, place_more, place_read, place_end}
use Rattle.bmp_module.proofs.tuple.TupleGradedModule.coordinate.Goals as goal

pub loop-k-init : goal.loop-k-init
loop-k-init g c = place_start (λ m. (g.M.GradedModule.graded m).dim c.args.e.now.degree) c.args.i

pub dim-dim-requires-clause-small : goal.dim-dim-requires-clause-small
dim-dim-requires-clause-small g c =
    let inside : c.loop-k.k < length c.args.self.now.parts.items = search rules in
    part_small g.M.GradedModule.graded c.args.e.now.degree _ c.args.self.now.parts.items c.loop-k.k c.index.result.now
    c.index.ensures inside c.requires.small

pub returns-then-place-dim-clause-number : goal.returns-then-place-dim-clause-number
returns-then-place-dim-clause-number g c =
    let inside : c.loop-k.k < length c.args.self.now.parts.items = search rules in
    place_read (λ m. (g.M.GradedModule.graded m).dim c.args.e.now.degree)
    (λ m a. g.M.GradedModule.coordinate m c.args.f.now a) c.args.self.now.parts.items c.args.e.now.parts.items
    c.args.i c.loop-k.k c.loop-k.place c.dim-dim.result c.index.result.now c.index-then-place-dim.result.now
    c.index-then-place-dim-2.result.now c.index.ensures c.index-then-place-dim.ensures
    c.index-then-place-dim-2.ensures inside c.requires.element.sized c.dim-dim.ensures c.if-place-dim.true
    c.loop-k.invariant c.coordinate.ensures.number

pub loop-k-preserved : goal.loop-k-preserved
loop-k-preserved g c =
    let inside : c.loop-k.k < length c.args.self.now.parts.items = search rules in
    place_more (λ m. (g.M.GradedModule.graded m).dim c.args.e.now.degree) c.args.self.now.parts.items c.args.i
    c.loop-k.k c.loop-k.place c.dim-dim.result c.index.result.now c.index.ensures inside c.dim-dim.ensures
    c.if-place-dim.false c.loop-k.invariant

pub returns-clause-number : goal.returns-clause-number
returns-clause-number g c =
    let end : c.loop-k.k ≡ length c.args.self.now.parts.items =
    omega (arith, c.len-k-end.ensures, c.loop-k-test.false, c.loop-k.auto.k-end) in
    place_end g.M.GradedModule.graded c.args.e.now.degree _ _ c.args.self.now.parts.items c.args.i c.loop-k.k
    c.loop-k.place end c.requires.place c.loop-k.invariant
