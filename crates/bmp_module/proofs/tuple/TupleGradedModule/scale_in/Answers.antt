use Rattle.std.proofs.Common.{arith, rules, ◌≡◌, ◌*◌, ◌%◌, ◌∙◌, ◌≤◌, ◌<◌, length, refl}
use Rattle.bmp_module.proofs.TupledChanges.{changed_more, changed_tuple, changed_coordinates, changed_part}
use Rattle.bmp_module.proofs.tuple.TupleGradedModule.scale_in.Goals as goal

pub loop-k-preserved : goal.loop-k-preserved
loop-k-preserved g c =
    let here : c.loop-k.k < length c.args.self.now.parts.items = search rules in
    let sized : length c.args.into.now.parts.items ≡ length c.args.self.now.parts.items = c.requires.into.sized in
    let left = c.loop-k.invariant.1.left c.loop-k.k c.index_mut.result.now (omega arith) in (
      c.loop-k.invariant.0,
      changed_more c.args.into.now.parts.items c.loop-k.into.parts.items c.loop-k.k c.scale_in.new.into
          c.loop-k.invariant.1 (omega (arith, here, sized))
          (λ a m. changed_part (λ m a. g.M.GradedModule.is_element m c.args.f.now a) g.M.GradedModule.degree
          (λ m. (g.M.GradedModule.graded m).dim) (λ m a. g.M.GradedModule.coordinate m c.args.f.now a)
          (λ u v. (g.F.Field.num c.args.f.now c.args.c * u) % g.F.Field.size c.args.f.now) c.args.into.now.degree
          c.args.self.now.parts.items c.args.into.now.parts.items c.loop-k.into.parts.items
          c.args.into.now.parts.items c.loop-k.k c.index.result.now c.index_mut.result.now c.index_mut.result.now
          c.scale_in.new.into
          c.requires.into here sized left c.index.ensures c.index_mut.ensures.value (c.index_mut.ensures.value ∙ left)
          c.scale_in.ensures.element c.scale_in.ensures.degree c.scale_in.ensures.product a m a),
    )

pub returns-clause-element : goal.returns-clause-element
returns-clause-element g c =
    let past : length c.args.self.now.parts.items ≤ c.loop-k.k = search rules in
    changed_tuple (λ m a. g.M.GradedModule.is_element m c.args.f.now a) g.M.GradedModule.degree c.args.into.now.degree
    c.loop-k.into.degree c.args.self.now.parts.items c.args.into.now.parts.items c.loop-k.into.parts.items
    c.loop-k.k c.requires.into past c.loop-k.invariant.0 c.loop-k.invariant.1
    (λ i a b m l q. let each = q m in (each.0, each.1))

pub returns-clause-product : goal.returns-clause-product
returns-clause-product g c =
    let past : length c.args.self.now.parts.items ≤ c.loop-k.k = search rules in
    changed_coordinates (λ u v. (g.F.Field.num c.args.f.now c.args.c * u) % g.F.Field.size c.args.f.now)
    g.M.GradedModule.graded (λ m a. g.M.GradedModule.coordinate m c.args.f.now a) c.args.into.now.degree
    c.args.into.now.degree c.loop-k.into.degree c.args.self.now.parts.items c.args.into.now.parts.items
    c.args.into.now.parts.items c.loop-k.into.parts.items c.loop-k.k c.requires.into.sized c.requires.into.sized
    past c.loop-k.invariant.0 refl c.loop-k.invariant.1
    (λ i j a b m l below q. let each = q m in each.2 j below)
