use Rattle.bmp_linear.specs.Runs.{IsRunMultiplied}
use Rattle.bmp_linear.proofs.runs.scale_run.Given as goal

-- the first numbers of the run are multiplied
abbrev pub invariant-loop-j : goal.invariant-loop-j
invariant-loop-j g l = IsRunMultiplied (g.F.Field.size l.f) (g.F.Field.num l.f l.c) l.start l.j l.fn.numbers l.numbers
