use Rattle.bmp_check.specs.BlockData.{no_block}
use Rattle.bmp_build.specs.BuiltGraphs.{IsHeldBlock}
use Rattle.bmp_build.proofs.HeldLemmas.{HoldsUpTo}
use Rattle.bmp_build.proofs.held.read_blocks.Given as goal

-- the blocks so far
abbrev pub invariant-each : goal.invariant-each
invariant-each l = HoldsUpTo IsHeldBlock no_block l.blocks l.i
