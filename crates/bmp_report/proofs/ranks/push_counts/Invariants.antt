use Rattle.std.proofs.Common.{◌≡◌, ◌++◌, ◌+◌, ◌-◌, [], ◌∷◌}
use Rattle.std.specs.Fmt.{decimal}
use Rattle.bmp_text.specs.Printing.{spaced_words, range_text}
use Rattle.bmp_cert.specs.Counts.{rank_in}
use Rattle.bmp_report.proofs.ranks.push_counts.Given as goal

abbrev pub invariant-degrees : goal.invariant-degrees
invariant-degrees l =
    l.out.items ++ spaced_words (range_text (λ d. decimal (rank_in l.r l.x d) ∷ []) l.d (l.bound + 1 - l.d))
    ≡ l.initial.out.items ++ spaced_words (range_text (λ d. decimal (rank_in l.r l.x d) ∷ []) 0 (l.bound + 1))
