use Rattle.std.proofs.Common.{◌≡◌, ◌-◌, ◌%◌, ◌≤◌, ◌∙◌, length, get_or, ap, subst, arith}
use Rattle.bmp_poly.specs.Coefficients.{coefficient}
use Rattle.bmp_graded.specs.NormalForms.{HasInverses}
use Rattle.bmp_graded.specs.Maps.{projection}
use Rattle.bmp_graded.specs.Components.{IsGenerator}
use Rattle.bmp_sheaf.proofs.EdgeImages.{images_more, images_all, generator_number}
use Rattle.bmp_sheaf.proofs.edge_maps.generators.Goals as goal

pub loop-g-preserved : goal.loop-g-preserved
loop-g-preserved g c =
    let image = rw c.new-projection.ensures at c.in_ok-image.ensures in
    let made = rw c.free-free.ensures at c.in_ok-generator.ensures in
    let two : 2 ≤ c.args.quotient.now.label.prime =
    subst (λ z. 2 ≤ z) c.requires.prime (g.met.F.Field.laws.at_least_two c.args.f.now) in
    let inverses : HasInverses c.args.quotient.now.label.prime =
    subst HasInverses c.requires.prime (g.met.F.Field.laws.inverse c.args.f.now) in
    rw c.in_ok-push.ensures.items
    (images_more _ _ _ _ _ _ _ c.loop-g.g c.loop-g.images.items c.in_ok-image.image c.loop-g.invariant image.element
    (image.degree ∙ made.degree)
    (λ i below.
    generator_number c.args.quotient.now.label.prime c.args.quotient.now.label.rank c.args.quotient.now.label.leading
    c.args.quotient.now.label.coords two inverses c.args.quotient.now.label.leads
    c.args.quotient.now.free.degrees.items
    c.in_ok-generator.generator.degree c.loop-g.g i
    (coefficient (g.F.Field.num c.args.f.now) c.in_ok-generator.generator.numbers.items)
    (coefficient (g.F.Field.num c.args.f.now) c.in_ok-image.image.numbers.items) made.degree
    (subst (λ z. IsGenerator z c.args.quotient.now.free.degrees.items c.loop-g.g
    (coefficient (g.F.Field.num c.args.f.now) c.in_ok-generator.generator.numbers.items)) c.args.quotient.now.agree
    made.generator)
    (λ j b. image.image j b
    ∙ ap (λ z. projection c.args.quotient.now.label.prime (c.args.quotient.now.label.rank - 1)
    c.args.quotient.now.label.leading (λ k. get_or c.args.quotient.now.label.coords k 0)
    c.args.quotient.now.free.degrees.items c.in_ok-generator.generator.degree
    (coefficient (g.F.Field.num c.args.f.now) c.in_ok-generator.generator.numbers.items) j % z) c.requires.prime)
    below))

pub returns : goal.returns
returns g c =
    let sized : c.generators-g-end.result ≡ length c.args.quotient.now.free.degrees.items =
    rw c.free-free.ensures at c.generators-g-end.ensures in
    images_all _ _ _ _ _ _ _ c.loop-g.g c.loop-g.images.items (omega (arith, sized, c.loop-g.auto.g-end))
    (omega (arith, sized, c.loop-g-test.false)) c.loop-g.invariant
