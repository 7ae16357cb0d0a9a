use Rattle.std.proofs.Common.{◌≡◌, ◌+◌, ◌-◌, ◌<◌, ◌^◌, []}
use Rattle.bmp_text.specs.Readers.{onto, list_with, chain}
use Rattle.bmp_cert.specs.VectorGrammar.{MOST}
use Rattle.bmp_text.specs.Cursor.{natural}
use Rattle.bmp_cert.proofs.vector.places_of.Given as goal

abbrev pub invariant-places : goal.invariant-places
invariant-places l =
    (l.next < 2 ^ 33) ×
    (onto list_with l.places (chain (λ low. natural low MOST) (λ p low. p + 1) (l.count - l.counter) l.next l.line)
    ≡ onto list_with [] (chain (λ low. natural low MOST) (λ p low. p + 1) l.count 0 l.initial.line))
