use Rattle.std.proofs.Common.{◌≡◌, ◌++◌, drop}
use Rattle.bmp_text.specs.Printing.{chain_text}
use Rattle.bmp_interval.specs.IntervalViews.{system_of, vertices_of}
use Rattle.bmp_report.specs.GraphText.{vertex_line, next_number, vertex_lines}
use Rattle.bmp_report.proofs.graph.push_vertices.Given as goal

abbrev pub invariant-vertices : goal.invariant-vertices
invariant-vertices l =
    l.out.items ++ chain_text (vertex_line (system_of l.interval)) next_number l.x (drop l.x (vertices_of l.interval))
    ≡ l.initial.out.items ++ vertex_lines (system_of l.interval) (vertices_of l.interval)
