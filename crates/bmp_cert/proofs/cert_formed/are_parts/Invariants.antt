use Rattle.bmp_text.specs.Printing.{ChainFits}
use Rattle.bmp_cert.specs.CertGrammar.{step_down, IsPartAt}
use Rattle.bmp_cert.proofs.FormedLemmas.{Decides}
use Rattle.bmp_cert.proofs.cert_formed.are_parts.Given as goal

abbrev pub invariant-each : goal.invariant-each
invariant-each l =
    Decides (ChainFits (IsPartAt l.version l.last l.most l.degree) step_down l.last l.parts)
    (IsPartAt l.version l.last l.most l.degree) step_down l.parts l.i l.number
