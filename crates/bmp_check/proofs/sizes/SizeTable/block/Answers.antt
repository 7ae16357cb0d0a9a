use Rattle.bmp_check.proofs.SizeLemmas.{tuples_there, block_counts}
use Rattle.bmp_check.proofs.sizes.SizeTable.block.Goals as goal

pub at-tuples-requires : goal.at-tuples-requires
at-tuples-requires c =
    tuples_there c.requires.sizes c.requires.top c.args.x c.args.d c.requires.vertex c.requires.degree

pub returns : goal.returns
returns c =
    block_counts c.requires.sizes c.requires.top c.args.x c.args.d c.requires.vertex c.requires.degree _
    c.kernel_sizes-columns.ensures.columns
    c.kernel_sizes-columns.ensures.rows c.at.ensures.number c.at-2.ensures.number c.at-tuples.ensures
