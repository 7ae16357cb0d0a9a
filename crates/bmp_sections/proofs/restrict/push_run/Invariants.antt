use Rattle.bmp_sections.proofs.RestrictLemmas.{IsRunPushed}
use Rattle.bmp_sections.proofs.restrict.push_run.Given as goal

-- the numbers so far
abbrev pub invariant-loop-c : goal.invariant-loop-c
invariant-loop-c l = IsRunPushed l.entries l.start l.place l.c l.fn.v l.v
