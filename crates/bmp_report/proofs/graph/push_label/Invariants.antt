use Rattle.std.proofs.Common.{◌≡◌, ◌++◌, ◌-◌, [], ◌∷◌}
use Rattle.std.specs.Fmt.{decimal}
use Rattle.bmp_text.specs.Printing.{spaced_words, range_text}
use Rattle.bmp_graph.specs.Graph.{label}
use Rattle.bmp_report.proofs.graph.push_label.Given as goal

abbrev pub invariant-coordinates : goal.invariant-coordinates
invariant-coordinates l =
    l.out.items ++ spaced_words (range_text (λ i. decimal (label l.graph l.fn.e i) ∷ []) l.i (l.rank - l.i))
    ≡ l.initial.out.items ++ spaced_words (range_text (λ i. decimal (label l.graph l.fn.e i) ∷ []) 0 l.rank)
