use Rattle.std.proofs.Common.{◌≡◌, ◌++◌, drop}
use Rattle.bmp_text.specs.Printing.{chain_text}
use Rattle.bmp_cert.specs.CertGrammar.{part_at_text, step_down}
use Rattle.bmp_cert.proofs.cert_print.push_vertices.Given as goal

abbrev pub invariant-each : goal.invariant-each
invariant-each l =
    l.out.items ++ chain_text (part_at_text l.version l.last) step_down l.number (drop l.vertex-index l.parts)
    ≡ l.initial.out.items ++ chain_text (part_at_text l.version l.last) step_down l.last l.parts
