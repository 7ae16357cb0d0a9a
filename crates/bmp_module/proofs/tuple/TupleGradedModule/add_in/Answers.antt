use Rattle.std.proofs.Common.{arith, rules, ◌≡◌, ◌+◌, ◌%◌, ◌≤◌, ◌<◌, length, sym}
use Rattle.bmp_module.proofs.TupledChanges.{changed_more, changed_tuple, changed_coordinates, changed_part}
use Rattle.bmp_module.proofs.tuple.TupleGradedModule.add_in.Goals as goal

pub loop-k-preserved : goal.loop-k-preserved
loop-k-preserved g c =
    let here : c.loop-k.k < length c.args.self.now.parts.items = search rules in
    let sized : length c.args.into.now.parts.items ≡ length c.args.self.now.parts.items = c.requires.into.sized in (
      c.loop-k.invariant.0,
      changed_more c.args.into.now.parts.items c.loop-k.into.parts.items c.loop-k.k c.add_in.new.into
          c.loop-k.invariant.1 (omega (arith, here, sized))
          (changed_part (λ m a. g.M.GradedModule.is_element m c.args.f.now a) g.M.GradedModule.degree
          (λ m. (g.M.GradedModule.graded m).dim) (λ m a. g.M.GradedModule.coordinate m c.args.f.now a)
          (λ u v. (u + v) % g.F.Field.size c.args.f.now) c.args.into.now.degree c.args.self.now.parts.items
          c.args.into.now.parts.items c.loop-k.into.parts.items c.args.other.now.parts.items c.loop-k.k
          c.index.result.now c.index_mut.result.now c.index-in-loop-k.result.now c.add_in.new.into
          c.requires.into here c.requires.other.sized
          (c.loop-k.invariant.1.left c.loop-k.k c.index_mut.result.now (omega arith)) c.index.ensures
          c.index_mut.ensures.value c.index-in-loop-k.ensures c.add_in.ensures.element c.add_in.ensures.degree
          c.add_in.ensures.sum),
    )

pub returns-clause-element : goal.returns-clause-element
returns-clause-element g c =
    let past : length c.args.self.now.parts.items ≤ c.loop-k.k = search rules in
    changed_tuple (λ m a. g.M.GradedModule.is_element m c.args.f.now a) g.M.GradedModule.degree c.args.into.now.degree
    c.loop-k.into.degree c.args.self.now.parts.items c.args.into.now.parts.items c.loop-k.into.parts.items
    c.loop-k.k c.requires.into past c.loop-k.invariant.0 c.loop-k.invariant.1
    (λ i a b m l q. let each = q m a in (each.0, each.1))

pub returns-clause-sum : goal.returns-clause-sum
returns-clause-sum g c =
    let past : length c.args.self.now.parts.items ≤ c.loop-k.k = search rules in
    changed_coordinates (λ u v. (u + v) % g.F.Field.size c.args.f.now) g.M.GradedModule.graded
    (λ m a. g.M.GradedModule.coordinate m c.args.f.now a) c.args.into.now.degree c.args.other.now.degree
    c.loop-k.into.degree c.args.self.now.parts.items c.args.into.now.parts.items c.args.other.now.parts.items
    c.loop-k.into.parts.items c.loop-k.k c.requires.into.sized c.requires.other.sized past c.loop-k.invariant.0
    (sym c.requires.degree) c.loop-k.invariant.1
    (λ i j a b m l below q. let each = q m a in each.2 j below)
