use Rattle.std.proofs.Common.{◌≡◌, ◌++◌, ◌+◌, ◌-◌, [], ◌∷◌}
use Rattle.std.specs.Fmt.{decimal}
use Rattle.bmp_text.specs.Printing.{spaced_words, range_text}
use Rattle.bmp_cert.specs.Counts.{rank_in}
use Rattle.bmp_report.specs.SummaryText.{total}
use Rattle.bmp_report.proofs.summary.push_totals.Given as goal

abbrev pub invariant-degrees : goal.invariant-degrees
invariant-degrees l =
    l.out.items ++ spaced_words
    (range_text (λ d. decimal (total (rank_in l.r) l.r.vertices d) ∷ []) l.d (l.bound + 1 - l.d))
    ≡ l.initial.out.items ++ spaced_words
    (range_text (λ d. decimal (total (rank_in l.r) l.r.vertices d) ∷ []) 0 (l.bound + 1))
