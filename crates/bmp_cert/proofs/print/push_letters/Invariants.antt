use Rattle.std.proofs.Common.{◌≡◌, ◌++◌, ◌∷◌, [], drop}
use Rattle.std.specs.Fmt.{decimal}
use Rattle.bmp_text.specs.Printing.{spaced_words, chain_text}
use Rattle.bmp_text.specs.Readers.{same}
use Rattle.bmp_cert.proofs.print.push_letters.Given as goal

abbrev pub invariant-letters : goal.invariant-letters
invariant-letters l =
    l.out.items ++ spaced_words
    (chain_text (λ (s : Unit {0}) x. decimal x ∷ []) same tt (drop l.letter-index l.letters))
    ≡ l.initial.out.items ++ spaced_words (chain_text (λ (s : Unit {0}) x. decimal x ∷ []) same tt l.letters)
