use Rattle.std.proofs.Common.{◌∙◌, sym}
use Rattle.bmp_graded.specs.Modules.{polynomials}
use Rattle.bmp_graded.proofs.CopiesLemmas.{moved_dim, moved_none, polynomials_dim}
use Rattle.bmp_module.proofs.blocks.block_length.Goals as goal

pub returns-then-generator-degree : goal.returns-then-generator-degree
returns-then-generator-degree c =
    c.count.ensures.number
    ∙ sym (moved_dim (polynomials c.args.rank) c.args.generator c.args.degree c.if-generator-degree.true
    ∙ polynomials_dim c.args.rank _)

pub returns-else-generator-degree : goal.returns-else-generator-degree
returns-else-generator-degree c =
    sym (moved_none (polynomials c.args.rank) c.args.generator c.args.degree c.if-generator-degree.false)
