use Rattle.std.proofs.Common.{◌≡◌, ◌++◌, ◌-◌}
use Rattle.bmp_text.specs.Printing.{range_text}
use Rattle.bmp_kl.specs.KlTables.{count_of, coefficient_of}
use Rattle.bmp_report.specs.TableText.{kl_line, kl_lines}
use Rattle.bmp_report.proofs.table.push_lines.Given as goal

abbrev pub invariant-vertices : goal.invariant-vertices
invariant-vertices l =
    l.out.items ++ range_text (kl_line (coefficient_of l.table)) l.x (count_of l.table - l.x)
    ≡ l.initial.out.items ++ kl_lines (count_of l.table) (coefficient_of l.table)
