use Rattle.std.proofs.Common.{rules}
use Rattle.bmp_packed.proofs.WordRowLemmas.{bit_read}
use Rattle.bmp_packed.proofs.packed.PackedRowsRowsBitField.at.Goals as goal

pub returns-clause-number : goal.returns-clause-number
returns-clause-number c =
    bit_read c.args.self.now c.self.inside.rows c.self.inside.cols c.self.inside.words.items c.args.i c.args.j
    c.width.result c.index-word.result.now c.self.view_is c.self.invariant.2 (search rules) (search rules)
    c.width.ensures c.index-word.ensures
