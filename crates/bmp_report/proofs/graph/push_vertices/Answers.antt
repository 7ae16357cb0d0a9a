use Rattle.std.proofs.Common.{◌<◌, length, arith}
use Rattle.bmp_text.proofs.PrintingLoops.{states_end}
use Rattle.bmp_interval.specs.IntervalViews.{system_of, vertices_of}
use Rattle.bmp_report.specs.GraphText.{vertex_line, next_number}
use Rattle.bmp_report.proofs.MatrixLemmas.{vertices_on}
use Rattle.bmp_report.proofs.graph.push_vertices.Goals as goal

pub vertices-preserved : goal.vertices-preserved
vertices-preserved c =
    let within : c.vertices.x < length (vertices_of c.args.interval.now) =
    omega (arith, c.len-x-end.ensures.value, c.vertices-test.true) in
    vertices_on (system_of c.args.interval.now) c.vertices.out.items c.push_vertex.new.out.items _
    (vertices_of c.args.interval.now) c.vertices.x within c.in_ok-push_vertex.ensures c.vertices.invariant

pub returns : goal.returns
returns c =
    states_end (vertex_line (system_of c.args.interval.now)) next_number c.vertices.out.items _
    (vertices_of c.args.interval.now) c.vertices.x c.vertices.x
    (omega (arith, c.len-x-end.ensures.value, c.vertices-test.false)) c.vertices.invariant
