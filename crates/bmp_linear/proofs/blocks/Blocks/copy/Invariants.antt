use Rattle.std.proofs.Common.{◌≡◌, take}
use Rattle.bmp_linear.proofs.blocks.Blocks.copy.Given as goal

-- the blocks so far are copied
abbrev pub invariant-loop-block : goal.invariant-loop-block
invariant-loop-block l = l.copy ≡ take l.block-index l.block-items
