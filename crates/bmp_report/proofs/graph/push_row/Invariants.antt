use Rattle.std.proofs.Common.{◌≡◌, ◌++◌, ◌-◌, [], ◌∷◌}
use Rattle.std.specs.Fmt.{signed_decimal}
use Rattle.bmp_text.specs.Printing.{spaced_words, range_text}
use Rattle.bmp_weyl.specs.Matrices.{cell}
use Rattle.bmp_report.specs.GraphText.{row_words}
use Rattle.bmp_report.proofs.graph.push_row.Given as goal

abbrev pub invariant-columns : goal.invariant-columns
invariant-columns l =
    l.out.items ++ spaced_words (range_text (λ j. signed_decimal (cell l.e.entries l.i j) ∷ []) l.j (l.rank - l.j))
    ≡ l.initial.out.items ++ spaced_words (row_words l.rank l.e l.i)
