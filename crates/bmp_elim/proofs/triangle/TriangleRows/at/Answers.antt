use Rattle.std.proofs.Common.{◌≡◌, get_or, ◌∙◌, rules, arith}
use Rattle.bmp_elim.proofs.triangle.TriangleRows.at.Goals as goal

pub from_num-requires : goal.from_num-requires
from_num-requires g c =
    let at : c.from.result ≡ get_or c.row.result.now c.args.j 0 = search rules in
    rw (at ∙ c.row.ensures.numbers c.args.j (omega arith)) (c.requires.numbers c.args.i c.args.j c.requires.row
    c.requires.column)

pub returns-clause-number : goal.returns-clause-number
returns-clause-number g c =
    let at : c.from.result ≡ get_or c.row.result.now c.args.j 0 = search rules in
    c.from_num.ensures.number ∙ at ∙ c.row.ensures.numbers c.args.j (omega arith)
