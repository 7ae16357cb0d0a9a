use Rattle.std.proofs.Common.{arith, rules, ◌≡◌, ◌+◌, ◌≤◌, ◌<◌, ◌^◌, ◌∙◌, sym, ap, ℕ, List, length, get_or}
use Rattle.std.specs.List.{slice_range}
use Rattle.std.proofs.lemmas.Grind.{get_or_default_zero}
use Rattle.bmp_poly.specs.Coefficients.{coefficient}
use Rattle.bmp_graded.specs.Modules.{moved, polynomials}
use Rattle.bmp_graded.proofs.CoordinateLemmas.{coefficient_range}
use Rattle.bmp_graded.proofs.GradedLemmas.{narrower_module}
use Rattle.bmp_module.specs.Images.{image_coordinates}
use Rattle.bmp_module.proofs.Extending.{added_in, image_read, extended_start, extended_inside, extended_more, extended_end}
use Rattle.bmp_module.proofs.linear.LinearModuleMapFree.apply.Goals as goal

read_is : (gs : List ℕ) (h x : ℕ) → h < length gs → x ≡ get_or gs h x → x ≡ get_or gs h 0
read_is gs h x inside x_is = x_is ∙ get_or_default_zero gs h x inside

pub overflow_add-end : goal.overflow_add-end
overflow_add-end g c =
    let here : c.loop-h.h < length c.args.self.now.from.now.degrees.items = search rules in
    let degree = read_is c.args.self.now.from.now.degrees.items c.loop-h.h c.index-generator.result.now here
    c.index-generator.ensures in
    let inside = extended_inside (g.F.Field.size c.args.f.now) c.args.self.now.from.now.rank
    (g.N.GradedModule.graded c.args.self.now.into.now) c.args.self.now.from.now.degrees.items
    (image_coordinates (g.N.GradedModule.coordinate c.args.self.now.into.now c.args.f.now)
    c.args.self.now.images.now) c.args.e.now.degree
    (coefficient (g.F.Field.num c.args.f.now) c.args.e.now.numbers.items)
    (g.N.GradedModule.coordinate c.args.self.now.into.now c.args.f.now c.loop-h.total) c.loop-h.h c.loop-h.start
    (length c.args.e.now.numbers.items) here c.requires.element.sized c.loop-h.invariant.extended in
    let size : c.block_length.result
    ≡ (moved (get_or c.args.self.now.from.now.degrees.items c.loop-h.h 0)
    (polynomials c.args.self.now.from.now.rank)).dim c.args.e.now.degree = c.block_length.ensures
    ∙ ap (λ z. (moved z (polynomials c.args.self.now.from.now.rank)).dim c.args.e.now.degree) degree in
    let few : length c.args.e.now.numbers.items < 2 ^ 64 = search rules in
    omega (arith, inside, few, size)

pub offset_bounds-deref-start : goal.offset_bounds-deref-start
offset_bounds-deref-start g c =
    let here : c.loop-h.h < length c.args.self.now.from.now.degrees.items = search rules in
    let degree = read_is c.args.self.now.from.now.degrees.items c.loop-h.h c.index-generator.result.now here
    c.index-generator.ensures in
    let inside = extended_inside (g.F.Field.size c.args.f.now) c.args.self.now.from.now.rank
    (g.N.GradedModule.graded c.args.self.now.into.now) c.args.self.now.from.now.degrees.items
    (image_coordinates (g.N.GradedModule.coordinate c.args.self.now.into.now c.args.f.now)
    c.args.self.now.images.now) c.args.e.now.degree
    (coefficient (g.F.Field.num c.args.f.now) c.args.e.now.numbers.items)
    (g.N.GradedModule.coordinate c.args.self.now.into.now c.args.f.now c.loop-h.total) c.loop-h.h c.loop-h.start
    (length c.args.e.now.numbers.items) here c.requires.element.sized c.loop-h.invariant.extended in
    let size : c.block_length.result
    ≡ (moved (get_or c.args.self.now.from.now.degrees.items c.loop-h.h 0)
    (polynomials c.args.self.now.from.now.rank)).dim c.args.e.now.degree = c.block_length.ensures
    ∙ ap (λ z. (moved z (polynomials c.args.self.now.from.now.rank)).dim c.args.e.now.degree) degree in
    rw c.deref.ensures.value (omega (arith, inside))

pub slice_bounds-block-end : goal.slice_bounds-block-end
slice_bounds-block-end g c =
    let here : c.loop-h.h < length c.args.self.now.from.now.degrees.items = search rules in
    let degree = read_is c.args.self.now.from.now.degrees.items c.loop-h.h c.index-generator.result.now here
    c.index-generator.ensures in
    let inside = extended_inside (g.F.Field.size c.args.f.now) c.args.self.now.from.now.rank
    (g.N.GradedModule.graded c.args.self.now.into.now) c.args.self.now.from.now.degrees.items
    (image_coordinates (g.N.GradedModule.coordinate c.args.self.now.into.now c.args.f.now)
    c.args.self.now.images.now) c.args.e.now.degree
    (coefficient (g.F.Field.num c.args.f.now) c.args.e.now.numbers.items)
    (g.N.GradedModule.coordinate c.args.self.now.into.now c.args.f.now c.loop-h.total) c.loop-h.h c.loop-h.start
    (length c.args.e.now.numbers.items) here c.requires.element.sized c.loop-h.invariant.extended in
    let size : c.block_length.result
    ≡ (moved (get_or c.args.self.now.from.now.degrees.items c.loop-h.h 0)
    (polynomials c.args.self.now.from.now.rank)).dim c.args.e.now.degree = c.block_length.ensures
    ∙ ap (λ z. (moved z (polynomials c.args.self.now.from.now.rank)).dim c.args.e.now.degree) degree in
    let within : c.loop-h.start + c.block_length.result ≤ length c.deref.result.now =
    rw c.deref.ensures.value (omega (arith, inside, size)) in
    search rules

pub loop-h-init : goal.loop-h-init
loop-h-init g c = record {
  element = c.in_ok-total.ensures.element;
  degree = c.in_ok-total.ensures.degree;
  extended = extended_start (g.F.Field.size c.args.f.now) c.args.self.now.from.now.rank
      (g.N.GradedModule.graded c.args.self.now.into.now) c.args.self.now.from.now.degrees.items
      (image_coordinates (g.N.GradedModule.coordinate c.args.self.now.into.now c.args.f.now) c.args.self.now.images.now)
      c.args.e.now.degree (coefficient (g.F.Field.num c.args.f.now) c.args.e.now.numbers.items)
      (g.N.GradedModule.coordinate c.args.self.now.into.now c.args.f.now c.in_ok-total.total)
      c.in_ok-total.ensures.zero;
}

pub returns-clause-image : goal.returns-clause-image
returns-clause-image g c =
    let past : length c.args.self.now.from.now.degrees.items ≤ c.loop-h.h = search rules in
    extended_end (g.F.Field.size c.args.f.now) c.args.self.now.from.now.rank
    (g.N.GradedModule.graded c.args.self.now.into.now) c.args.self.now.from.now.degrees.items
    (image_coordinates (g.N.GradedModule.coordinate c.args.self.now.into.now c.args.f.now)
    c.args.self.now.images.now) c.args.e.now.degree
    (coefficient (g.F.Field.num c.args.f.now) c.args.e.now.numbers.items)
    (g.N.GradedModule.coordinate c.args.self.now.into.now c.args.f.now c.loop-h.total) c.loop-h.h c.loop-h.start
    past
    (λ j l. g.met.N.GradedModule.numbers c.args.self.now.into.now c.args.f.now c.loop-h.total c.loop-h.invariant.element
    j (rw c.loop-h.invariant.degree l)) c.loop-h.invariant.extended

pub loop-h-preserved : goal.loop-h-preserved
loop-h-preserved g c =
    let here : c.loop-h.h < length c.args.self.now.from.now.degrees.items = search rules in
    let degree = read_is c.args.self.now.from.now.degrees.items c.loop-h.h c.index-generator.result.now here
    c.index-generator.ensures in
    let image : c.loop-h.h < length c.args.self.now.images.now = omega (arith, here, c.requires.map.2.counted) in
    record {
      element = c.in_ok-add_multiples.ensures.element;
      degree = c.in_ok-add_multiples.ensures.degree ∙ c.loop-h.invariant.degree;
      extended = extended_more (g.F.Field.size c.args.f.now) c.args.self.now.from.now.rank
          (g.N.GradedModule.graded c.args.self.now.into.now) c.args.self.now.from.now.degrees.items
          (image_coordinates (g.N.GradedModule.coordinate c.args.self.now.into.now c.args.f.now)
          c.args.self.now.images.now) c.args.e.now.degree
          (coefficient (g.F.Field.num c.args.f.now) c.args.e.now.numbers.items)
          (g.N.GradedModule.coordinate c.args.self.now.into.now c.args.f.now c.loop-h.total)
          (g.N.GradedModule.coordinate c.args.self.now.into.now c.args.f.now c.add_multiples.new.total) c.loop-h.h
          c.loop-h.start (c.loop-h.start + c.block_length.result) c.index-generator.result.now
          (g.N.GradedModule.coordinate c.args.self.now.into.now c.args.f.now
          (get_or c.args.self.now.images.now c.loop-h.h c.index-self-h.result))
          (coefficient (g.F.Field.num c.args.f.now)
          (slice_range c.deref.result.now c.loop-h.start (c.loop-h.start + c.block_length.result)))
          c.args.self.now.from.now.wide
          (narrower_module (g.F.Field.size c.args.f.now) c.args.self.now.from.now.rank
          (g.N.GradedModule.rank c.args.self.now.into.now) (g.N.GradedModule.graded c.args.self.now.into.now)
          c.requires.map.1 (g.met.N.GradedModule.laws c.args.self.now.into.now c.args.f.now c.requires.map.0)) here
          degree
          (sym (image_read (g.N.GradedModule.coordinate c.args.self.now.into.now c.args.f.now)
          c.args.self.now.images.now c.loop-h.h (get_or c.args.self.now.images.now c.loop-h.h c.index-self-h.result)
          image (ap (λ z. get_or c.args.self.now.images.now c.loop-h.h z) c.index-self-h.is)))
          (ap (λ z. c.loop-h.start + z) c.block_length.ensures)
          (λ i inner. coefficient_range (g.F.Field.num c.args.f.now) c.deref.result.now c.loop-h.start
          (c.loop-h.start + c.block_length.result) i (omega (arith, inner, c.block_length.ensures))
          ∙ ap (λ z. coefficient (g.F.Field.num c.args.f.now) z (c.loop-h.start + i)) c.deref.ensures.value)
          (added_in (g.F.Field.size c.args.f.now) c.args.self.now.from.now.rank
          (g.N.GradedModule.graded c.args.self.now.into.now) c.index-generator.result.now
          (g.N.GradedModule.degree c.args.self.now.into.now c.loop-h.total) c.args.e.now.degree
          (g.N.GradedModule.coordinate c.args.self.now.into.now c.args.f.now
          (get_or c.args.self.now.images.now c.loop-h.h c.index-self-h.result))
          (coefficient (g.F.Field.num c.args.f.now)
          (slice_range c.deref.result.now c.loop-h.start (c.loop-h.start + c.block_length.result)))
          (g.N.GradedModule.coordinate c.args.self.now.into.now c.args.f.now c.loop-h.total)
          (g.N.GradedModule.coordinate c.args.self.now.into.now c.args.f.now c.add_multiples.new.total)
          c.loop-h.invariant.degree c.in_ok-add_multiples.ensures.added)
          c.loop-h.invariant.extended;
    }
