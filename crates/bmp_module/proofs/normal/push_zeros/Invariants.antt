use Rattle.bmp_module.specs.Appended.{IsAppended}
use Rattle.bmp_module.proofs.normal.push_zeros.Given as goal

abbrev pub invariant-loop : goal.invariant-loop
invariant-loop g l =
    IsAppended (g.F.Field.is_value l.fn.f) (g.F.Field.num l.fn.f) l.fn.numbers.items l.numbers.items l.counter (λ i. 0)
