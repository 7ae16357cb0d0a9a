use Rattle.std.proofs.Common.{◌≡◌, ◌-◌, ◌<◌, ◌^◌, []}
use Rattle.bmp_text.specs.LaterLines.{PassesLines}
use Rattle.bmp_text.specs.Readers.{onto, list_with, chain}
use Rattle.bmp_cert.specs.CertGrammar.{part_at, step_down}
use Rattle.bmp_cert.proofs.part.parts_of.Given as goal

abbrev pub invariant-parts : goal.invariant-parts
invariant-parts l = record {
  small : l.number < 2 ^ 32;
  read : onto list_with l.list
      (chain (part_at l.version (l.count - 1) l.most l.degree) step_down (l.count - l.counter) l.number l.lines)
      ≡ onto list_with []
      (chain (part_at l.version (l.count - 1) l.most l.degree) step_down l.count (l.count - 1) l.initial.lines);
  later : PassesLines l.initial.lines l.lines;
}
