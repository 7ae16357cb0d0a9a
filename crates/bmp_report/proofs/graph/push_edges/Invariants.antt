use Rattle.std.proofs.Common.{◌≡◌, ◌++◌, ◌-◌}
use Rattle.bmp_text.specs.Printing.{range_text}
use Rattle.bmp_graph.specs.Graph.{edge_count}
use Rattle.bmp_report.specs.GraphText.{edge_line, edge_lines}
use Rattle.bmp_report.proofs.graph.push_edges.Given as goal

abbrev pub invariant-edges : goal.invariant-edges
invariant-edges l = l.out.items ++ range_text (edge_line l.graph) l.e (edge_count l.graph - l.e)
    ≡ l.initial.out.items ++ edge_lines l.graph
