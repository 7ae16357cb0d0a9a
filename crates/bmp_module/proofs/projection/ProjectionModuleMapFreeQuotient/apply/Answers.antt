use Rattle.std.proofs.Common.{arith, rules, ◌+◌, ◌≤◌, ◌<◌, ◌^◌, length}
use Rattle.bmp_module.proofs.Projecting.{projected_start, projected_inside, projected_more, projected_element, projected_numbers}
use Rattle.bmp_module.proofs.projection.ProjectionModuleMapFreeQuotient.apply.Goals as goal

pub overflow_add-end : goal.overflow_add-end
overflow_add-end g c =
    let inside = projected_inside (g.F.Field.is_value c.args.f.now) (g.F.Field.num c.args.f.now)
    (g.F.Field.size c.args.f.now) c.args.self.now.quotient.now.label.prime c.args.self.now.quotient.now.label.rank
    c.args.self.now.quotient.now.label.leading c.args.self.now.quotient.now.label.coords c.args.e.now.degree
    c.args.self.now.quotient.now.free.degrees.items c.args.e.now.numbers.items
    c.args.self.now.quotient.now.free.rank c.deref-g-items.result.now c.loop-g.g-index c.loop-g.start
    c.loop-g.numbers.items c.args.self.now.quotient.now.agree c.args.self.now.quotient.now.label.leads.here
    c.deref-g-items.ensures.value c.loop-g-test.true c.requires.element.sized c.loop-g.invariant in
    let few : length c.args.e.now.numbers.items < 2 ^ 64 = search rules in
    omega (arith, inside, few, c.block_length.ensures)

pub offset_bounds-deref-start : goal.offset_bounds-deref-start
offset_bounds-deref-start g c =
    let inside = projected_inside (g.F.Field.is_value c.args.f.now) (g.F.Field.num c.args.f.now)
    (g.F.Field.size c.args.f.now) c.args.self.now.quotient.now.label.prime c.args.self.now.quotient.now.label.rank
    c.args.self.now.quotient.now.label.leading c.args.self.now.quotient.now.label.coords c.args.e.now.degree
    c.args.self.now.quotient.now.free.degrees.items c.args.e.now.numbers.items
    c.args.self.now.quotient.now.free.rank c.deref-g-items.result.now c.loop-g.g-index c.loop-g.start
    c.loop-g.numbers.items c.args.self.now.quotient.now.agree c.args.self.now.quotient.now.label.leads.here
    c.deref-g-items.ensures.value c.loop-g-test.true c.requires.element.sized c.loop-g.invariant in
    rw c.deref.ensures.value (omega (arith, inside))

pub slice_bounds-block-end : goal.slice_bounds-block-end
slice_bounds-block-end g c =
    let inside = projected_inside (g.F.Field.is_value c.args.f.now) (g.F.Field.num c.args.f.now)
    (g.F.Field.size c.args.f.now) c.args.self.now.quotient.now.label.prime c.args.self.now.quotient.now.label.rank
    c.args.self.now.quotient.now.label.leading c.args.self.now.quotient.now.label.coords c.args.e.now.degree
    c.args.self.now.quotient.now.free.degrees.items c.args.e.now.numbers.items
    c.args.self.now.quotient.now.free.rank c.deref-g-items.result.now c.loop-g.g-index c.loop-g.start
    c.loop-g.numbers.items c.args.self.now.quotient.now.agree c.args.self.now.quotient.now.label.leads.here
    c.deref-g-items.ensures.value c.loop-g-test.true c.requires.element.sized c.loop-g.invariant in
    let within : c.loop-g.start + c.block_length.result ≤ length c.deref.result.now =
    rw c.deref.ensures.value (omega (arith, inside, c.block_length.ensures)) in
    search rules

pub loop-g-init : goal.loop-g-init
loop-g-init g c =
    projected_start (g.F.Field.is_value c.args.f.now) (g.F.Field.num c.args.f.now) (g.F.Field.size c.args.f.now)
    c.args.self.now.quotient.now.label.prime c.args.self.now.quotient.now.label.rank
    c.args.self.now.quotient.now.label.leading c.args.self.now.quotient.now.label.coords c.args.e.now.degree
    c.args.self.now.quotient.now.free.degrees.items c.args.e.now.numbers.items _ c.new-numbers.ensures.items
    (rw c.new-numbers.ensures.items (λ k d h. absurd (omega arith)))

pub loop-g-preserved : goal.loop-g-preserved
loop-g-preserved g c =
    projected_more (g.F.Field.is_value c.args.f.now) (g.F.Field.num c.args.f.now) (g.F.Field.size c.args.f.now)
    c.args.self.now.quotient.now.label.prime c.args.self.now.quotient.now.label.rank
    c.args.self.now.quotient.now.label.leading c.args.self.now.quotient.now.label.coords c.args.e.now.degree
    c.args.self.now.quotient.now.free.degrees.items c.args.e.now.numbers.items
    c.args.self.now.quotient.now.free.rank c.deref-g-items.result.now c.loop-g.g-index c.loop-g.start _
    c.deref.result.now c.loop-g.numbers.items _
    c.args.self.now.quotient.now.agree c.requires.map (g.met.F.Field.laws.at_least_two c.args.f.now)
    (g.met.F.Field.laws.inverse c.args.f.now) c.args.self.now.quotient.now.label.leads
    (g.met.F.Field.laws.below_size c.args.f.now) c.deref-g-items.ensures.value c.deref.ensures.value
    c.loop-g-test.true
    (let size = c.block_length.ensures in omega (arith, size)) c.in_ok-push_component.ensures c.loop-g.invariant

pub returns-clause-element : goal.returns-clause-element
returns-clause-element g c =
    projected_element (g.F.Field.is_value c.args.f.now) (g.F.Field.num c.args.f.now) (g.F.Field.size c.args.f.now)
    c.args.self.now.quotient.now.label.prime c.args.self.now.quotient.now.label.rank
    c.args.self.now.quotient.now.label.leading c.args.self.now.quotient.now.label.coords c.args.e.now.degree
    c.args.self.now.quotient.now.free.degrees.items c.args.e.now.numbers.items c.deref-g-items.result.now
    c.loop-g.g-index c.loop-g.start c.loop-g.numbers.items c.deref-g-items.ensures.value c.loop-g-test.false
    c.requires.element.small c.loop-g.invariant

pub returns-clause-image : goal.returns-clause-image
returns-clause-image g c =
    projected_numbers (g.F.Field.is_value c.args.f.now) (g.F.Field.num c.args.f.now) (g.F.Field.size c.args.f.now)
    c.args.self.now.quotient.now.label.prime c.args.self.now.quotient.now.label.rank
    c.args.self.now.quotient.now.label.leading c.args.self.now.quotient.now.label.coords c.args.e.now.degree
    c.args.self.now.quotient.now.free.degrees.items c.args.e.now.numbers.items c.deref-g-items.result.now
    c.loop-g.g-index c.loop-g.start c.loop-g.numbers.items c.deref-g-items.ensures.value c.loop-g-test.false
    c.loop-g.invariant
