use Rattle.std.proofs.Common.{◌+◌, ◌-◌, arith}
use Rattle.bmp_text.proofs.PrintingLoops.{range_on}
use Rattle.bmp_report.specs.CompareText.{comparison_of, vertex_lines}
use Rattle.bmp_report.proofs.compare.push_differences.Goals as goal

pub vertices-preserved : goal.vertices-preserved
vertices-preserved c =
    rw c.in_ok-push_vertex.ensures
    (range_on (vertex_lines (comparison_of c.args.r.now c.args.table.now)) c.vertices.out.items _ c.vertices.x
    (c.args.r.now.vertices - c.vertices.x) (c.args.r.now.vertices - (c.vertices.x + 1))
    (omega (arith, c.vertices-x-end.ensures)) c.vertices.invariant)
