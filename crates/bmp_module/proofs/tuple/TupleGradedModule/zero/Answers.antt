use Rattle.std.proofs.Common.{rules, ◌≤◌, length}
use Rattle.bmp_module.proofs.TupledSums.{tuple_zero}
use Rattle.bmp_module.proofs.tuple.TupleGradedModule.zero.Goals as goal

pub returns-clause-zero : goal.returns-clause-zero
returns-clause-zero g c =
    let past : length c.args.self.now.parts.items ≤ c.loop-k.k = search rules in
    let within : c.loop-k.k ≤ length c.args.self.now.parts.items = search rules in
    tuple_zero (λ m e. g.M.GradedModule.is_element m c.args.f.now e) g.M.GradedModule.degree g.M.GradedModule.graded
    (λ m e. g.M.GradedModule.coordinate m c.args.f.now e) c.args.d c.loop-k.k c.args.self.now.parts.items
    c.loop-k.parts.items past within c.loop-k.invariant
