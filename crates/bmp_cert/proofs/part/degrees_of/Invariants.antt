use Rattle.std.proofs.Common.{◌≡◌, ◌-◌, []}
use Rattle.bmp_text.specs.Readers.{onto, list_with, chain}
use Rattle.bmp_text.specs.Cursor.{natural}
use Rattle.bmp_cert.specs.CertGrammar.{from_degree}
use Rattle.bmp_cert.proofs.part.degrees_of.Given as goal

abbrev pub invariant-degrees : goal.invariant-degrees
invariant-degrees l =
    onto list_with l.list (chain (λ low. natural low l.most) from_degree (l.count - l.counter) l.low l.line)
    ≡ onto list_with [] (chain (λ low. natural low l.most) from_degree l.count 0 l.initial.line)
