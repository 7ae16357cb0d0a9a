use Rattle.std.proofs.Common.{◌∙◌, sym}
use Rattle.bmp_sections.proofs.equations.EquationsRows.at.Goals as goal

pub from_num-requires : goal.from_num-requires
from_num-requires g c =
    let same = c.from.ensures ∙ c.number.ensures ∙ sym (c.parts-row.ensures.same c.args.j c.requires.column) in
    rw same (c.requires.numbers c.args.i c.args.j c.requires.row c.requires.column)

pub returns-clause-number : goal.returns-clause-number
returns-clause-number g c =
    c.from_num.ensures.number ∙ c.from.ensures ∙ c.number.ensures
    ∙ sym (c.parts-row.ensures.same c.args.j c.requires.column)
