-- The blocks of one degree in memory. In the order to read:
--   has_block b x        the vertex x has a block of this degree, as a test
--   block_at b x         its block
use Rattle.std.specs.Prelude.{ℕ, nat_lt, Bool, ◌&&◌, length}
use Rattle.bmp_linear.specs.declared.blocks.DegreeBlock.{DegreeBlock}
use Rattle.bmp_cert.specs.Counts.{part_of}
use Rattle.bmp_check.specs.declared.degree_blocks.DegreeBlocks.{DegreeBlocks}
use Rattle.bmp_check.specs.BlockData.{block_of}
use Rattle.bmp_check.specs.ShapedViews.{written_in}

abbrev pub has_block : DegreeBlocks → ℕ → Bool
has_block b x = nat_lt x (length b.given.parts.now) && nat_lt b.degree (length (part_of (written_in b.given) x).blocks)

abbrev pub block_at : DegreeBlocks → ℕ → DegreeBlock
block_at b x = block_of (written_in b.given) x b.degree
