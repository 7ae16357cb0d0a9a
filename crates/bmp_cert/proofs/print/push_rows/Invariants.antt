use Rattle.std.proofs.Common.{◌≡◌, ◌++◌, ◌-◌, ◌*◌, drop}
use Rattle.bmp_cert.specs.JobGrammar.{cut_rows, row_lists_text, rows_text}
use Rattle.bmp_cert.proofs.print.push_rows.Given as goal

abbrev pub invariant-rows : goal.invariant-rows
invariant-rows l = l.out.items ++ row_lists_text (cut_rows (l.rank - l.i) l.rank (drop (l.i * l.rank) l.entries))
    ≡ l.initial.out.items ++ rows_text l.rank l.entries
