use Rattle.std.proofs.Common.{◌≡◌, ◌++◌, ◌∷◌, [], drop}
use Rattle.std.specs.Fmt.{signed_decimal}
use Rattle.bmp_text.specs.Printing.{spaced_words, chain_text}
use Rattle.bmp_text.specs.Readers.{same}
use Rattle.bmp_cert.proofs.print.push_entries.Given as goal

abbrev pub invariant-entries : goal.invariant-entries
invariant-entries l =
    l.out.items ++ spaced_words
    (chain_text (λ (s : Unit {0}) x. signed_decimal x ∷ []) same tt (drop l.entry-index l.row))
    ≡ l.initial.out.items ++ spaced_words (chain_text (λ (s : Unit {0}) x. signed_decimal x ∷ []) same tt l.row)
