use Rattle.std.proofs.Common.{◌≡◌, ◌-◌, ◌==◌, count_by, []}
use Rattle.bmp_text.specs.LaterLines.{PassesLines}
use Rattle.bmp_text.specs.Readers.{onto, list_with, chain}
use Rattle.bmp_cert.specs.BlockGrammar.{block}
use Rattle.bmp_cert.specs.CertGrammar.{step_up}
use Rattle.bmp_cert.proofs.block.blocks_of.Given as goal

abbrev pub invariant-each : goal.invariant-each
invariant-each l = record {
  read : onto list_with l.list
      (chain (block l.version l.most (λ d. count_by (λ e. e == d) l.degrees)) step_up (l.count - l.degree) l.degree
      l.lines) ≡ onto list_with []
      (chain (block l.version l.most (λ d. count_by (λ e. e == d) l.degrees)) step_up l.count 0 l.initial.lines);
  later : PassesLines l.initial.lines l.lines;
}
