use Rattle.std.proofs.Common.{◌≡◌, ◌++◌, ◌-◌}
use Rattle.bmp_text.specs.Printing.{range_text}
use Rattle.bmp_report.specs.CompareText.{comparison_of, vertex_lines, differ_lines}
use Rattle.bmp_report.proofs.compare.push_differences.Given as goal

abbrev pub invariant-vertices : goal.invariant-vertices
invariant-vertices l =
    l.out.items ++ range_text (vertex_lines (comparison_of l.r l.table)) l.x (l.r.vertices - l.x)
    ≡ l.initial.out.items ++ differ_lines (comparison_of l.r l.table)
