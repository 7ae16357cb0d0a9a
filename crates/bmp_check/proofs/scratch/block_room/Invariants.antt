use Rattle.bmp_check.specs.ShapedViews.{graph_in, method_at, cert_in}
use Rattle.bmp_check.proofs.BlockLemmas.{HoldsBefore}
use Rattle.bmp_check.proofs.RoomLemmas.{IsWithin}
use Rattle.bmp_check.proofs.scratch.block_room.Given as goal

-- the sizes of the blocks so far
abbrev pub invariant-each : goal.invariant-each
invariant-each l =
    HoldsBefore (IsWithin (graph_in l.s) (method_at l.s) (cert_in l.s) l.rows l.most l.sections) l.vertices l.degree l.i
