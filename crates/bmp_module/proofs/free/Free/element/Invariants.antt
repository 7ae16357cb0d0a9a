use Rattle.std.proofs.Common.{[], get_or}
use Rattle.bmp_module.specs.Appended.{IsAppended}
use Rattle.bmp_module.proofs.free.Free.element.Given as goal

-- the values so far
abbrev pub invariant-loop-number : goal.invariant-loop-number
invariant-loop-number g l =
    IsAppended (g.F.Field.is_value l.fn.f) (g.F.Field.num l.fn.f) [] l.values.items l.number-index
    (λ i. get_or l.fn.numbers i 0)
