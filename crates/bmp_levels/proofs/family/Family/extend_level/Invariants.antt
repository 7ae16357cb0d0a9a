use Rattle.bmp_levels.proofs.Filling.{IsFilled}
use Rattle.bmp_levels.proofs.family.Family.extend_level.Given as goal

-- the vertices so far are filled in
abbrev pub invariant-loop-b : goal.invariant-loop-b
invariant-loop-b g l = IsFilled l.sheaf l.k l.d (g.B.LevelBlocks.block l.blocks) l.fn.self l.b l.family
