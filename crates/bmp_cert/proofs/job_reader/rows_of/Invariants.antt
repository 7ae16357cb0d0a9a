use Rattle.std.proofs.Common.{◌≡◌, ◌-◌}
use Rattle.bmp_cert.specs.JobGrammar.{with_row, entries, rows}
use Rattle.bmp_text.specs.LaterLines.{PassesLines}
use Rattle.bmp_text.specs.Readers.{onto, chain, line, same}
use Rattle.std.proofs.Common.{codes}
use Rattle.bmp_cert.proofs.job_reader.rows_of.Given as goal

abbrev pub invariant-rows : goal.invariant-rows
invariant-rows l = record {
  read : onto with_row l.entries
      (chain (λ (s : Unit {0}). line (codes "row") (entries l.rank)) same (l.rank - l.counter) tt l.lines)
      ≡ rows l.rank l.initial.lines;
  later : PassesLines l.initial.lines l.lines;
}
