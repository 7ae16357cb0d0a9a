use Rattle.std.proofs.Common.{arith, rules, ◌≡◌, ◌+◌, ◌-◌, ◌≤◌, ◌<◌, ◌^◌, ◌∙◌, length, length-drop, drop, get_or, suc, ap, ℕ}
use Rattle.std.proofs.Math.Nat.{mod-mod}
use Rattle.std.proofs.lemmas.List.{length-take-le}
use Rattle.bmp_poly.specs.Forms.{Form}
use Rattle.bmp_graded.specs.Modules.{moved, polynomials}
use Rattle.bmp_graded.specs.NormalForms.{normal_by}
use Rattle.bmp_graded.specs.Quotients.{reduced}
use Rattle.bmp_graded.proofs.CopiesLemmas.{reduced_block}
use Rattle.bmp_graded.proofs.PassLaws.{reduced_over}
use Rattle.bmp_module.specs.Components.{component_of}
use Rattle.bmp_module.proofs.Acting.{acted_start, acted_inside, acted_more, acted_element, acted_numbers}
use Rattle.bmp_module.proofs.tabled.act_by_table.Goals as goal

-- the size of a block, by the label's rank
size_is : (r r' l g d n : ℕ) (normal : ℕ → Form → Form) → r' ≡ r → n ≡ (moved g (polynomials (r' - 1))).dim d →
    n ≡ (moved g (reduced (r - 1) l normal)).dim d
size_is r r' l g d n normal same h = h ∙ ap (λ z. (moved g (polynomials (z - 1))).dim d) same
    ∙ reduced_block (r - 1) l g d normal

pub overflow_add-end : goal.overflow_add-end
overflow_add-end g c =
    let inside = acted_inside (g.F.Field.is_value c.args.f.now) (g.F.Field.num c.args.f.now)
    (g.F.Field.size c.args.f.now) (component_of c.args.over.now.label) c.args.m c.args.e.now.degree
    c.args.over.now.free.degrees.items c.args.e.now.numbers.items c.deref-g-items.result.now c.loop-g.g-index
    c.loop-g.start c.loop-g.numbers.items c.deref-g-items.ensures.value c.loop-g-test.true c.requires.element.sized
    c.loop-g.invariant in
    let few : length c.args.e.now.numbers.items < 2 ^ 64 = search rules in
    let size = size_is c.args.over.now.label.rank c.args.over.now.free.rank c.args.over.now.label.leading
    (get_or c.deref-g-items.result.now c.loop-g.g-index 0) c.args.e.now.degree c.block_length.result
    (normal_by c.args.over.now.label.prime (suc (c.args.over.now.label.rank - 1)) c.args.over.now.label.leading
    (λ k. get_or c.args.over.now.label.coords k 0)) c.args.over.now.agree c.block_length.ensures in
    omega (arith, inside, few, size)

pub offset_bounds-deref-start : goal.offset_bounds-deref-start
offset_bounds-deref-start g c =
    let inside = acted_inside (g.F.Field.is_value c.args.f.now) (g.F.Field.num c.args.f.now)
    (g.F.Field.size c.args.f.now) (component_of c.args.over.now.label) c.args.m c.args.e.now.degree
    c.args.over.now.free.degrees.items c.args.e.now.numbers.items c.deref-g-items.result.now c.loop-g.g-index
    c.loop-g.start c.loop-g.numbers.items c.deref-g-items.ensures.value c.loop-g-test.true c.requires.element.sized
    c.loop-g.invariant in
    rw c.deref.ensures.value (omega (arith, inside))

pub slice_bounds-block-end : goal.slice_bounds-block-end
slice_bounds-block-end g c =
    let inside = acted_inside (g.F.Field.is_value c.args.f.now) (g.F.Field.num c.args.f.now)
    (g.F.Field.size c.args.f.now) (component_of c.args.over.now.label) c.args.m c.args.e.now.degree
    c.args.over.now.free.degrees.items c.args.e.now.numbers.items c.deref-g-items.result.now c.loop-g.g-index
    c.loop-g.start c.loop-g.numbers.items c.deref-g-items.ensures.value c.loop-g-test.true c.requires.element.sized
    c.loop-g.invariant in
    let within : c.loop-g.start + c.block_length.result ≤ length c.deref.result.now =
    rw c.deref.ensures.value
    (let size = size_is c.args.over.now.label.rank c.args.over.now.free.rank c.args.over.now.label.leading
    (get_or c.deref-g-items.result.now c.loop-g.g-index 0) c.args.e.now.degree c.block_length.result
    (normal_by c.args.over.now.label.prime (suc (c.args.over.now.label.rank - 1)) c.args.over.now.label.leading
    (λ k. get_or c.args.over.now.label.coords k 0)) c.args.over.now.agree c.block_length.ensures in
    omega (arith, inside, size)) in
    search rules

pub push_multiple-requires-clause-sized : goal.push_multiple-requires-clause-sized
push_multiple-requires-clause-sized g c =
    let inside = acted_inside (g.F.Field.is_value c.args.f.now) (g.F.Field.num c.args.f.now)
    (g.F.Field.size c.args.f.now) (component_of c.args.over.now.label) c.args.m c.args.e.now.degree
    c.args.over.now.free.degrees.items c.args.e.now.numbers.items c.deref-g-items.result.now c.loop-g.g-index
    c.loop-g.start c.loop-g.numbers.items c.deref-g-items.ensures.value c.loop-g-test.true c.requires.element.sized
    c.loop-g.invariant in
    let size = size_is c.args.over.now.label.rank c.args.over.now.free.rank c.args.over.now.label.leading
    (get_or c.deref-g-items.result.now c.loop-g.g-index 0) c.args.e.now.degree c.block_length.result
    (normal_by c.args.over.now.label.prime (suc (c.args.over.now.label.rank - 1)) c.args.over.now.label.leading
    (λ k. get_or c.args.over.now.label.coords k 0)) c.args.over.now.agree c.block_length.ensures in
    let within : c.loop-g.start + c.block_length.result ≤ length c.deref.result.now =
    rw c.deref.ensures.value (omega (arith, inside, size)) in
    length-take-le (c.loop-g.start + c.block_length.result - c.loop-g.start) (drop c.loop-g.start c.deref.result.now)
    (omega (arith, length-drop c.loop-g.start c.deref.result.now, within)) ∙ omega (arith, size)

pub loop-g-init : goal.loop-g-init
loop-g-init g c =
    acted_start (g.F.Field.is_value c.args.f.now) (g.F.Field.num c.args.f.now) (g.F.Field.size c.args.f.now)
    (component_of c.args.over.now.label) c.args.m c.args.e.now.degree c.args.over.now.free.degrees.items
    c.args.e.now.numbers.items _ c.new-numbers.ensures.items
    (rw c.new-numbers.ensures.items (λ k d h. absurd (omega arith)))

pub loop-g-preserved : goal.loop-g-preserved
loop-g-preserved g c =
    acted_more (g.F.Field.is_value c.args.f.now) (g.F.Field.num c.args.f.now) (g.F.Field.size c.args.f.now)
    (component_of c.args.over.now.label) c.args.m c.args.e.now.degree c.args.over.now.free.degrees.items
    c.args.e.now.numbers.items
    c.args.over.now.label.rank c.deref-g-items.result.now c.loop-g.g-index c.loop-g.start _ c.deref.result.now
    c.loop-g.numbers.items _ _
    (reduced_over (g.F.Field.size c.args.f.now) c.args.over.now.label.prime c.args.over.now.label.rank
    c.args.over.now.label.leading c.args.over.now.label.coords c.requires.fits
    (g.met.F.Field.laws.at_least_two c.args.f.now) (g.met.F.Field.laws.inverse c.args.f.now)
    c.args.over.now.label.leads) c.requires.monomial (g.met.F.Field.laws.below_size c.args.f.now)
    c.deref-g-items.ensures.value c.deref.ensures.value c.loop-g-test.true
    (let size = size_is c.args.over.now.label.rank c.args.over.now.free.rank c.args.over.now.label.leading
    (get_or c.deref-g-items.result.now c.loop-g.g-index 0) c.args.e.now.degree c.block_length.result
    (normal_by c.args.over.now.label.prime (suc (c.args.over.now.label.rank - 1)) c.args.over.now.label.leading
    (λ k. get_or c.args.over.now.label.coords k 0)) c.args.over.now.agree c.block_length.ensures in
    omega (arith, size)) c.in_ok-push_multiple.ensures (λ j b. mod-mod _ (g.F.Field.size c.args.f.now))
    c.loop-g.invariant

pub returns-clause-element : goal.returns-clause-element
returns-clause-element g c =
    rw c.degree_of.ensures
    (acted_element (g.F.Field.is_value c.args.f.now) (g.F.Field.num c.args.f.now) (g.F.Field.size c.args.f.now)
    (component_of c.args.over.now.label) c.args.m c.args.e.now.degree c.args.over.now.free.degrees.items
    c.args.e.now.numbers.items c.deref-g-items.result.now c.loop-g.g-index c.loop-g.start c.loop-g.numbers.items
    c.deref-g-items.ensures.value c.loop-g-test.false c.requires.degree c.loop-g.invariant)

pub returns-clause-multiple : goal.returns-clause-multiple
returns-clause-multiple g c =
    acted_numbers (g.F.Field.is_value c.args.f.now) (g.F.Field.num c.args.f.now) (g.F.Field.size c.args.f.now)
    (component_of c.args.over.now.label) c.args.m c.args.e.now.degree c.args.over.now.free.degrees.items
    c.args.e.now.numbers.items c.deref-g-items.result.now c.loop-g.g-index c.loop-g.start c.loop-g.numbers.items
    c.deref-g-items.ensures.value c.loop-g-test.false c.loop-g.invariant
