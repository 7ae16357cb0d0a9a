use Rattle.std.proofs.Common.{[]}
use Rattle.bmp_math.specs.Vectors.{unit}
use Rattle.bmp_module.specs.Appended.{IsAppended}
use Rattle.bmp_module.proofs.coordinates.unit.Given as goal

-- the values so far
abbrev pub invariant-loop-i : goal.invariant-loop-i
invariant-loop-i g l =
    IsAppended (g.F.Field.is_value l.fn.f) (g.F.Field.num l.fn.f) [] l.values.items l.i (unit l.fn.place)
