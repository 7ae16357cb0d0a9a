use Rattle.bmp_graded.specs.Modules.{polynomials}
use Rattle.bmp_module.proofs.Acting.{Acted}
use Rattle.bmp_module.proofs.free.FreeGradedModule.act.Given as goal

abbrev pub invariant-loop-g : goal.invariant-loop-g
invariant-loop-g g l =
    Acted (g.F.Field.is_value l.fn.f) (g.F.Field.num l.fn.f) (g.F.Field.size l.fn.f) (polynomials l.fn.self.rank) l.fn.m
    l.fn.e.degree l.fn.self.degrees.items l.fn.e.numbers.items l.g-index l.start l.numbers.items
