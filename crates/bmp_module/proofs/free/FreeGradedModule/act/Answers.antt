use Rattle.std.proofs.Common.{arith, rules, ◌+◌, ◌≤◌, ◌<◌, ◌^◌, length, refl}
use Rattle.bmp_graded.specs.Modules.{polynomials}
use Rattle.bmp_graded.proofs.GradedLemmas.{polynomials_is_module}
use Rattle.bmp_module.proofs.Acting.{acted_start, acted_inside, acted_more, acted_element, acted_numbers}
use Rattle.bmp_module.proofs.free.FreeGradedModule.act.Goals as goal

pub overflow_add-end : goal.overflow_add-end
overflow_add-end g c =
    let inside = acted_inside (g.F.Field.is_value c.args.f.now) (g.F.Field.num c.args.f.now)
    (g.F.Field.size c.args.f.now) (polynomials c.args.self.now.rank) c.args.m c.args.e.now.degree
    c.args.self.now.degrees.items c.args.e.now.numbers.items c.deref-g-items.result.now c.loop-g.g-index
    c.loop-g.start c.loop-g.numbers.items c.deref-g-items.ensures.value c.loop-g-test.true c.requires.element.sized
    c.loop-g.invariant in
    let few : length c.args.e.now.numbers.items < 2 ^ 64 = search rules in
    omega (arith, inside, few, c.block_length.ensures)

pub offset_bounds-deref-start : goal.offset_bounds-deref-start
offset_bounds-deref-start g c =
    let inside = acted_inside (g.F.Field.is_value c.args.f.now) (g.F.Field.num c.args.f.now)
    (g.F.Field.size c.args.f.now) (polynomials c.args.self.now.rank) c.args.m c.args.e.now.degree
    c.args.self.now.degrees.items c.args.e.now.numbers.items c.deref-g-items.result.now c.loop-g.g-index
    c.loop-g.start c.loop-g.numbers.items c.deref-g-items.ensures.value c.loop-g-test.true c.requires.element.sized
    c.loop-g.invariant in
    rw c.deref.ensures.value (omega (arith, inside))

pub slice_bounds-block-end : goal.slice_bounds-block-end
slice_bounds-block-end g c =
    let inside = acted_inside (g.F.Field.is_value c.args.f.now) (g.F.Field.num c.args.f.now)
    (g.F.Field.size c.args.f.now) (polynomials c.args.self.now.rank) c.args.m c.args.e.now.degree
    c.args.self.now.degrees.items c.args.e.now.numbers.items c.deref-g-items.result.now c.loop-g.g-index
    c.loop-g.start c.loop-g.numbers.items c.deref-g-items.ensures.value c.loop-g-test.true c.requires.element.sized
    c.loop-g.invariant in
    let within : c.loop-g.start + c.block_length.result ≤ length c.deref.result.now =
    rw c.deref.ensures.value (omega (arith, inside, c.block_length.ensures)) in
    search rules

pub loop-g-init : goal.loop-g-init
loop-g-init g c =
    acted_start (g.F.Field.is_value c.args.f.now) (g.F.Field.num c.args.f.now) (g.F.Field.size c.args.f.now)
    (polynomials c.args.self.now.rank) c.args.m c.args.e.now.degree c.args.self.now.degrees.items
    c.args.e.now.numbers.items _ c.new-numbers.ensures.items
    (rw c.new-numbers.ensures.items (λ k d h. absurd (omega arith)))

pub loop-g-preserved : goal.loop-g-preserved
loop-g-preserved g c =
    acted_more (g.F.Field.is_value c.args.f.now) (g.F.Field.num c.args.f.now) (g.F.Field.size c.args.f.now)
    (polynomials c.args.self.now.rank) c.args.m c.args.e.now.degree c.args.self.now.degrees.items
    c.args.e.now.numbers.items
    c.args.self.now.rank c.deref-g-items.result.now c.loop-g.g-index c.loop-g.start _ c.deref.result.now
    c.loop-g.numbers.items _ _
    (polynomials_is_module (g.F.Field.size c.args.f.now) c.args.self.now.rank c.args.self.now.wide) c.requires.monomial
    (g.met.F.Field.laws.below_size c.args.f.now) c.deref-g-items.ensures.value c.deref.ensures.value
    c.loop-g-test.true
    (let size = c.block_length.ensures in omega (arith, size)) c.in_ok-push_multiple.ensures (λ j b. refl)
    c.loop-g.invariant

pub returns-clause-element : goal.returns-clause-element
returns-clause-element g c =
    rw c.degree_of.ensures
    (acted_element (g.F.Field.is_value c.args.f.now) (g.F.Field.num c.args.f.now) (g.F.Field.size c.args.f.now)
    (polynomials c.args.self.now.rank) c.args.m c.args.e.now.degree c.args.self.now.degrees.items
    c.args.e.now.numbers.items c.deref-g-items.result.now c.loop-g.g-index c.loop-g.start c.loop-g.numbers.items
    c.deref-g-items.ensures.value c.loop-g-test.false c.requires.degree c.loop-g.invariant)

pub returns-clause-multiple : goal.returns-clause-multiple
returns-clause-multiple g c =
    acted_numbers (g.F.Field.is_value c.args.f.now) (g.F.Field.num c.args.f.now) (g.F.Field.size c.args.f.now)
    (polynomials c.args.self.now.rank) c.args.m c.args.e.now.degree c.args.self.now.degrees.items
    c.args.e.now.numbers.items c.deref-g-items.result.now c.loop-g.g-index c.loop-g.start c.loop-g.numbers.items
    c.deref-g-items.ensures.value c.loop-g-test.false c.loop-g.invariant
