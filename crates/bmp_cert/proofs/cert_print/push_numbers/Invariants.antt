use Rattle.std.proofs.Common.{◌≡◌, ◌++◌, ◌∷◌, [], drop}
use Rattle.std.specs.Fmt.{decimal}
use Rattle.bmp_text.specs.Printing.{spaced_words, chain_text}
use Rattle.bmp_text.specs.Readers.{same}
use Rattle.bmp_cert.proofs.cert_print.push_numbers.Given as goal

abbrev pub invariant-numbers : goal.invariant-numbers
invariant-numbers l =
    l.out.items ++ spaced_words (chain_text (λ (s : Unit {0}) x. decimal x ∷ []) same tt (drop l.n-index l.numbers))
    ≡ l.initial.out.items ++ spaced_words (chain_text (λ (s : Unit {0}) x. decimal x ∷ []) same tt l.numbers)
