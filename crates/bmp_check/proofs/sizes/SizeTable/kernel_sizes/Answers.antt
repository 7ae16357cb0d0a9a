use Rattle.std.proofs.Common.{◌∙◌, sym}
use Rattle.bmp_check.proofs.SizeLemmas.{spaces_columns, spaces_rows, levels_columns, levels_rows}
use Rattle.bmp_check.proofs.sizes.SizeTable.kernel_sizes.Goals as goal

pub returns-in-Spaces-clause-columns : goal.returns-in-Spaces-clause-columns
returns-in-Spaces-clause-columns c =
    spaces_columns c.requires.sizes c.requires.top c.args.x c.args.d c.requires.vertex c.requires.degree _
    (sym c.method.ensures ∙ c.in-Spaces.is)
    c.sum_above.ensures.sum

pub returns-in-Spaces-clause-rows : goal.returns-in-Spaces-clause-rows
returns-in-Spaces-clause-rows c =
    spaces_rows c.requires.sizes c.requires.top c.args.x c.args.d c.requires.vertex c.requires.degree _
    c.sum_above.ensures.graph (sym c.method.ensures ∙ c.in-Spaces.is)
    c.sum_above-in-Spaces.ensures.sum

pub returns-in-Levels-clause-columns : goal.returns-in-Levels-clause-columns
returns-in-Levels-clause-columns c =
    levels_columns c.requires.sizes c.requires.top c.args.x c.args.d c.requires.vertex c.requires.degree _
    (sym c.method.ensures ∙ c.in-Levels.is)
    c.at.ensures.number

pub returns-in-Levels-clause-rows : goal.returns-in-Levels-clause-rows
returns-in-Levels-clause-rows c =
    levels_rows c.requires.sizes c.requires.top c.args.x c.args.d c.requires.vertex c.requires.degree _
    (sym c.method.ensures ∙ c.in-Levels.is)
    c.at-in-Levels.ensures.number
