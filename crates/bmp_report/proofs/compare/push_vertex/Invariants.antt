use Rattle.std.proofs.Common.{◌≡◌, ◌++◌, ◌+◌, ◌-◌}
use Rattle.bmp_text.specs.Printing.{range_text}
use Rattle.bmp_cert.specs.Counts.{rank_in}
use Rattle.bmp_report.specs.CompareText.{polynomial_of, comparison_of, differ_line, vertex_lines}
use Rattle.bmp_report.proofs.compare.push_vertex.Given as goal

abbrev pub invariant-degrees : goal.invariant-degrees
invariant-degrees l =
    l.out.items ++ range_text (λ d. differ_line l.x d (rank_in l.r l.x d) (polynomial_of l.table l.x d)) l.d
    (l.r.degree + 1 - l.d)
    ≡ l.initial.out.items ++ vertex_lines (comparison_of l.r l.table) l.x
