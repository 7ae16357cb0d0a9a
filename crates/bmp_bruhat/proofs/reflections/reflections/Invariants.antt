use Rattle.bmp_bruhat.specs.Building.{HasReflections}
use Rattle.bmp_bruhat.proofs.reflections.reflections.Given as goal

-- the reflections so far
abbrev pub invariant-loop-i : goal.invariant-loop-i
invariant-loop-i l = HasReflections l.roots l.i l.reflections.items
