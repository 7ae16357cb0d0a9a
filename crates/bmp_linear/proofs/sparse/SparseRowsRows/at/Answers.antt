use Rattle.std.proofs.Common.{◌∙◌}
use Rattle.bmp_linear.proofs.RowTableLemmas.{entry_is}
use Rattle.bmp_linear.proofs.sparse.SparseRowsRows.at.Goals as goal

pub from_num-requires : goal.from_num-requires
from_num-requires g c =
    rw (c.from.ensures ∙ entry_is c.args.self.now c.self.inside.cols c.self.inside.rows.items c.args.i
    c.index-row.result.now c.args.j c.number_in.result c.self.view_is c.requires.row c.index-row.ensures
    (rw c.as_slice.ensures at c.number_in.ensures))
    (c.requires.numbers c.args.i c.args.j c.requires.row c.requires.column)

pub returns-clause-number : goal.returns-clause-number
returns-clause-number g c =
    c.from_num.ensures.number ∙ c.from.ensures
    ∙ entry_is c.args.self.now c.self.inside.cols c.self.inside.rows.items c.args.i c.index-row.result.now c.args.j
    c.number_in.result c.self.view_is c.requires.row c.index-row.ensures
    (rw c.as_slice.ensures at c.number_in.ensures)
