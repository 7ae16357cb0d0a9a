use Rattle.std.proofs.Common.{◌+◌, ◌-◌, arith}
use Rattle.bmp_text.proofs.PrintingLoops.{range_on}
use Rattle.bmp_kl.specs.KlTables.{count_of, coefficient_of}
use Rattle.bmp_report.specs.TableText.{kl_line}
use Rattle.bmp_report.proofs.table.push_lines.Goals as goal

pub vertices-preserved : goal.vertices-preserved
vertices-preserved c =
    rw c.in_ok-push_line.ensures
    (range_on (kl_line (coefficient_of c.args.table.now)) c.vertices.out.items _ c.vertices.x
    (count_of c.args.table.now - c.vertices.x) (count_of c.args.table.now - (c.vertices.x + 1))
    (omega (arith, c.vertices-x-end.ensures.value)) c.vertices.invariant)
