use Rattle.bmp_module.specs.Components.{component_of}
use Rattle.bmp_module.proofs.Acting.{Acted}
use Rattle.bmp_module.proofs.tabled.act_by_table.Given as goal

abbrev pub invariant-loop-g : goal.invariant-loop-g
invariant-loop-g g l =
    Acted (g.F.Field.is_value l.fn.f) (g.F.Field.num l.fn.f) (g.F.Field.size l.fn.f) (component_of l.fn.over.label)
    l.fn.m l.fn.e.degree l.fn.over.free.degrees.items l.fn.e.numbers.items l.g-index l.start l.numbers.items
