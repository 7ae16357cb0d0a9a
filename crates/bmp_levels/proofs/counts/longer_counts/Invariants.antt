use Rattle.bmp_levels.proofs.CountLemmas.{AreCounted}
use Rattle.bmp_levels.proofs.counts.longer_counts.Given as goal

-- the vertices so far are counted
abbrev pub invariant-loop-b : goal.invariant-loop-b
invariant-loop-b g l = AreCounted l.graph l.d (g.B.LevelBlocks.block l.blocks) l.b l.sum l.counts.items
