use Rattle.std.proofs.Common.{◌+◌, ◌-◌, arith}
use Rattle.bmp_text.proofs.PrintingLoops.{range_on}
use Rattle.bmp_graph.specs.Graph.{edge_count}
use Rattle.bmp_report.specs.GraphText.{edge_line}
use Rattle.bmp_report.proofs.graph.push_edges.Goals as goal

pub edges-preserved : goal.edges-preserved
edges-preserved c =
    rw c.in_ok-push_edge.ensures
    (range_on (edge_line c.args.graph.now) c.edges.out.items _ c.edges.e (edge_count c.args.graph.now - c.edges.e)
    (edge_count c.args.graph.now - (c.edges.e + 1)) (omega (arith, c.edges-e-end.ensures.count)) c.edges.invariant)
