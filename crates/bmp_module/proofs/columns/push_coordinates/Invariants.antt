use Rattle.bmp_module.specs.Columns.{HasColumns}
use Rattle.bmp_module.proofs.columns.push_coordinates.Given as goal

-- the numbers so far, as columns of one number
abbrev pub invariant-loop-i : goal.invariant-loop-i
invariant-loop-i g l =
    HasColumns 1 l.i (λ j i. g.N.GradedModule.coordinate l.fn.over l.fn.f l.fn.e j) l.fn.columns.items l.columns.items
