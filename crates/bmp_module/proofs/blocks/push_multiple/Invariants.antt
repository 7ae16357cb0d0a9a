use Rattle.bmp_poly.specs.Exponents.{place, exponents}
use Rattle.bmp_poly.specs.Coefficients.{coefficient}
use Rattle.bmp_poly.specs.Shifts.{shift}
use Rattle.bmp_module.specs.Appended.{IsAppended}
use Rattle.bmp_module.proofs.blocks.push_multiple.Given as goal

abbrev pub invariant-loop-i : goal.invariant-loop-i
invariant-loop-i g l =
    IsAppended (g.F.Field.is_value l.f) (g.F.Field.num l.f) l.fn.numbers.items l.numbers.items l.i
    (λ i. shift l.m (λ e. coefficient (g.F.Field.num l.f) l.block (place l.rank e)) (exponents 6 l.rank l.rest i))
