use Rattle.bmp_module.proofs.Projecting.{Projected}
use Rattle.bmp_module.proofs.projection.ProjectionModuleMapFreeQuotient.apply.Given as goal

abbrev pub invariant-loop-g : goal.invariant-loop-g
invariant-loop-g g l =
    Projected (g.F.Field.is_value l.fn.f) (g.F.Field.num l.fn.f) (g.F.Field.size l.fn.f)
    l.fn.self.quotient.now.label.prime l.fn.self.quotient.now.label.rank l.fn.self.quotient.now.label.leading
    l.fn.self.quotient.now.label.coords l.fn.e.degree l.fn.self.quotient.now.free.degrees.items l.fn.e.numbers.items
    l.g-index l.start l.numbers.items
