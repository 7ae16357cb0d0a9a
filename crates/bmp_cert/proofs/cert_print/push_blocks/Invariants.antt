use Rattle.std.proofs.Common.{◌≡◌, ◌++◌, drop}
use Rattle.bmp_text.specs.Printing.{chain_text}
use Rattle.bmp_cert.specs.BlockGrammar.{block_text}
use Rattle.bmp_cert.specs.CertGrammar.{step_up}
use Rattle.bmp_cert.proofs.cert_print.push_blocks.Given as goal

abbrev pub invariant-each : goal.invariant-each
invariant-each l =
    (l.degree ≡ l.block-index) ×
    (l.out.items ++ chain_text (block_text l.version) step_up l.degree (drop l.block-index l.list)
    ≡ l.initial.out.items ++ chain_text (block_text l.version) step_up 0 l.list)
