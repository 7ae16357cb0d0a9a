use Rattle.bmp_module.proofs.TabledBlocks.{AreNumbersBelow}
use Rattle.bmp_module.proofs.tabled.push_multiple.Given as goal

abbrev pub invariant-loop-i : goal.invariant-loop-i
invariant-loop-i g l =
    AreNumbersBelow (g.F.Field.is_value l.fn.f) (g.F.Field.num l.fn.f) (g.F.Field.size l.fn.f) l.fn.label.prime
    l.fn.label.rank l.fn.label.leading l.fn.label.coords l.s l.places.items l.fn.block l.fn.numbers.items
    l.numbers.items l.i
