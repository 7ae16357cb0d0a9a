use Rattle.std.proofs.Common.{◌≡◌, ◌-◌, ◌%◌, ◌<◌, ◌≤◌, ◌∙◌, List, [], length, get_or, sym, ap, subst, arith}
use Rattle.std.proofs.lemmas.List.{get_or_read, with_items_is}
use Rattle.bmp_linear.specs.declared.vector.Entry.{Entry}
use Rattle.bmp_linear.specs.SparseVectors.{FitsBelow, ValuesBelow, number_at}
use Rattle.bmp_poly.specs.Coefficients.{coefficient}
use Rattle.bmp_graded.specs.NormalForms.{HasInverses}
use Rattle.bmp_graded.specs.Maps.{projection}
use Rattle.bmp_graded.proofs.CopiesLemmas.{free_small}
use Rattle.bmp_sheaf.specs.Coordinates.{stalk_count}
use Rattle.bmp_sheaf.proofs.ModuleLemmas.{free_count}
use Rattle.bmp_sheaf.proofs.EdgeImages.{images_more, lift_number, number_at_below}
use Rattle.bmp_sheaf.proofs.edge_maps.lifted.Goals as goal

pub dim-requires-clause-small : goal.dim-requires-clause-small
dim-requires-clause-small g c =
    let inside : c.loop-g.g < length c.args.from.now.degrees.items =
    omega (arith, c.loop-g-test.true, c.generators-g-end.ensures) in
    let small : c.degree_of-a.result ≤ 6 =
    subst (λ z. z ≤ 6) (sym c.degree_of-a.ensures) (c.requires.degrees c.loop-g.g 0 inside) in
    free_small c.free-into.result.now.rank c.degree_of-a.result c.free-into.result.now.degrees.items
    c.free-into.result.now.wide small c.free-into.result.now.few

pub spread-requires : goal.spread-requires
spread-requires g c =
    let inside : c.loop-g.g < length c.args.lifts.now =
    omega (arith, c.loop-g-test.true, c.generators-g-end.ensures, c.requires.lifts) in
    let read : c.index-lifts-g.result ≡ get_or c.args.lifts.now c.loop-g.g [] =
    get_or_read c.args.lifts.now c.loop-g.g c.index-lifts-g.result inside c.index-lifts-g.is [] in
    let count = rw c.free-into.ensures at c.dim.ensures in
    let stalk : c.dim.result ≡ stalk_count c.args.quotient.now.free.rank c.args.quotient.now.free.degrees.items
    (get_or c.args.from.now.degrees.items c.loop-g.g 0) =
    count ∙ free_count c.args.quotient.now.free.rank c.degree_of-a.result c.args.quotient.now.free.degrees.items
    ∙ ap (stalk_count c.args.quotient.now.free.rank c.args.quotient.now.free.degrees.items) c.degree_of-a.ensures in
    let room : stalk_count c.args.quotient.now.free.rank c.args.quotient.now.free.degrees.items
    (get_or c.args.from.now.degrees.items c.loop-g.g 0) ≡ length c.deref_mut.result.now =
    omega (arith, stalk, c.deref_mut.ensures.len, c.in_ok-numbers.ensures.len) in
    subst (FitsBelow c.index-lifts-g.result) room
    (subst (λ v. FitsBelow v
    (stalk_count c.args.quotient.now.free.rank c.args.quotient.now.free.degrees.items
    (get_or c.args.from.now.degrees.items c.loop-g.g 0))) (sym read) (c.requires.fit c.loop-g.g inside))

pub element-requires-clause-sized : goal.element-requires-clause-sized
element-requires-clause-sized g c =
    let long : length c.spread.new.into ≡ c.in_ok-numbers.numbers.len =
    omega (arith, c.spread.auto.into, c.deref_mut.ensures.len) in
    let read : c.deref.result.now ≡ c.spread.new.into =
    c.deref.ensures.value ∙ with_items_is c.in_ok-numbers.numbers c.spread.new.into long in
    let whole : c.in_ok-numbers.numbers.len ≡ c.dim.result = omega (arith, c.in_ok-numbers.ensures.len) in
    ap length read ∙ long ∙ whole ∙ c.dim.ensures

pub element-requires-clause-below : goal.element-requires-clause-below
element-requires-clause-below g c = λ j below.
    let inside : c.loop-g.g < length c.args.lifts.now =
    omega (arith, c.loop-g-test.true, c.generators-g-end.ensures, c.requires.lifts) in
    let lift_is : c.index-lifts-g.result ≡ get_or c.args.lifts.now c.loop-g.g [] =
    get_or_read c.args.lifts.now c.loop-g.g c.index-lifts-g.result inside c.index-lifts-g.is [] in
    let small : ValuesBelow c.index-lifts-g.result (g.F.Field.size c.args.f.now) =
    subst (λ v. ValuesBelow v (g.F.Field.size c.args.f.now)) (sym lift_is)
    (c.requires.values c.loop-g.g [] inside) in
    let long : length c.spread.new.into ≡ c.in_ok-numbers.numbers.len =
    omega (arith, c.spread.auto.into, c.deref_mut.ensures.len) in
    let read : c.deref.result.now ≡ c.spread.new.into =
    c.deref.ensures.value ∙ with_items_is c.in_ok-numbers.numbers c.spread.new.into long in
    let within : j < length c.spread.new.into = subst (λ xs. j < length xs) read below in
    let some : 0 < g.F.Field.size c.args.f.now = let two = g.met.F.Field.laws.at_least_two c.args.f.now in
    omega arith in
    let number : get_or c.deref.result.now j 0 ≡ number_at c.index-lifts-g.result j =
    ap (λ xs. get_or xs j 0) read ∙ c.spread.ensures j within in
    subst (λ z. z < g.F.Field.size c.args.f.now) (sym number)
    (number_at_below c.index-lifts-g.result j (g.F.Field.size c.args.f.now) some small)

pub loop-g-preserved : goal.loop-g-preserved
loop-g-preserved g c =
    let image = rw c.new-projection.ensures at c.in_ok-image.ensures in
    let two : 2 ≤ c.args.quotient.now.label.prime =
    subst (λ z. 2 ≤ z) c.requires.prime (g.met.F.Field.laws.at_least_two c.args.f.now) in
    let inverses : HasInverses c.args.quotient.now.label.prime =
    subst HasInverses c.requires.prime (g.met.F.Field.laws.inverse c.args.f.now) in
    let inside : c.loop-g.g < length c.args.lifts.now =
    omega (arith, c.loop-g-test.true, c.generators-g-end.ensures, c.requires.lifts) in
    let lift_is : c.index-lifts-g.result ≡ get_or c.args.lifts.now c.loop-g.g [] =
    get_or_read c.args.lifts.now c.loop-g.g c.index-lifts-g.result inside c.index-lifts-g.is [] in
    let long : length c.spread.new.into ≡ c.in_ok-numbers.numbers.len =
    omega (arith, c.spread.auto.into, c.deref_mut.ensures.len) in
    let read : c.deref.result.now ≡ c.spread.new.into =
    c.deref.ensures.value ∙ with_items_is c.in_ok-numbers.numbers c.spread.new.into long in
    let count = rw c.free-into.ensures at c.dim.ensures in
    let stalk : c.dim.result ≡ stalk_count c.args.quotient.now.label.rank c.args.quotient.now.free.degrees.items
    (get_or c.args.from.now.degrees.items c.loop-g.g 0) =
    count ∙ free_count c.args.quotient.now.free.rank c.degree_of-a.result c.args.quotient.now.free.degrees.items
    ∙ ap (stalk_count c.args.quotient.now.free.rank c.args.quotient.now.free.degrees.items) c.degree_of-a.ensures
    ∙ ap (λ r. stalk_count r c.args.quotient.now.free.degrees.items
    (get_or c.args.from.now.degrees.items c.loop-g.g 0)) c.args.quotient.now.agree in
    let size : length c.spread.new.into ≡ stalk_count c.args.quotient.now.label.rank
    c.args.quotient.now.free.degrees.items (get_or c.args.from.now.degrees.items c.loop-g.g 0) =
    omega (arith, long, c.in_ok-numbers.ensures.len, stalk) in
    rw c.in_ok-push.ensures.items
    (images_more _ _ _ _ _ _ _ c.loop-g.g c.loop-g.images.items c.in_ok-image.image c.loop-g.invariant image.element
    (image.degree ∙ c.in_ok-lift.ensures.degree ∙ c.degree_of-a.ensures)
    (λ i below.
    lift_number c.args.quotient.now.label.prime c.args.quotient.now.label.rank c.args.quotient.now.label.leading
    c.args.quotient.now.label.coords two inverses c.args.quotient.now.label.leads
    c.args.quotient.now.free.degrees.items
    c.in_ok-lift.lift.degree (get_or c.args.from.now.degrees.items c.loop-g.g 0) i
    (coefficient (g.F.Field.num c.args.f.now) c.in_ok-lift.lift.numbers.items)
    (number_at (get_or c.args.lifts.now c.loop-g.g []))
    (coefficient (g.F.Field.num c.args.f.now) c.in_ok-image.image.numbers.items)
    (c.in_ok-lift.ensures.degree ∙ c.degree_of-a.ensures)
    (λ j inner.
    let within : j < length c.spread.new.into = omega (arith, inner, size) in
    c.in_ok-lift.ensures.numbers j (subst (λ xs. j < length xs) (sym read) within) ∙ ap (λ xs. get_or xs j 0) read
    ∙ c.spread.ensures j within ∙ ap (λ (v : List Entry). number_at v j) lift_is)
    (λ j b. image.image j b
    ∙ ap (λ z. projection c.args.quotient.now.label.prime (c.args.quotient.now.label.rank - 1)
    c.args.quotient.now.label.leading (λ k. get_or c.args.quotient.now.label.coords k 0)
    c.args.quotient.now.free.degrees.items c.in_ok-lift.lift.degree
    (coefficient (g.F.Field.num c.args.f.now) c.in_ok-lift.lift.numbers.items) j % z) c.requires.prime) below))
