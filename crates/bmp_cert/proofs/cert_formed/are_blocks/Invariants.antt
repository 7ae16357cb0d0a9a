use Rattle.std.proofs.Common.{◌≡◌, ◌==◌, count_by, length}
use Rattle.bmp_text.specs.Printing.{ChainFits}
use Rattle.bmp_cert.specs.BlockGrammar.{IsBlock}
use Rattle.bmp_cert.specs.CertGrammar.{step_up}
use Rattle.bmp_cert.proofs.FormedLemmas.{Decides}
use Rattle.bmp_cert.proofs.cert_formed.are_blocks.Given as goal

abbrev pub invariant-each : goal.invariant-each
invariant-each l =
    Decides ((length l.blocks ≡ l.count) × ChainFits (IsBlock l.version l.most (λ d. count_by (λ e. e == d) l.degrees))
    step_up 0 l.blocks)
    (IsBlock l.version l.most (λ d. count_by (λ e. e == d) l.degrees)) step_up l.blocks l.i l.i
