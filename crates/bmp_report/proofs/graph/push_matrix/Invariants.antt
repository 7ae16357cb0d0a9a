use Rattle.std.proofs.Common.{◌≡◌, ◌++◌, ◌-◌}
use Rattle.bmp_text.specs.Printing.{spaced_words, range_text}
use Rattle.bmp_report.specs.GraphText.{row_words, matrix_words}
use Rattle.bmp_report.proofs.graph.push_matrix.Given as goal

abbrev pub invariant-rows : goal.invariant-rows
invariant-rows l = l.out.items ++ spaced_words (range_text (row_words l.rank l.e) l.i (l.rank - l.i))
    ≡ l.initial.out.items ++ spaced_words (matrix_words l.rank l.e)
