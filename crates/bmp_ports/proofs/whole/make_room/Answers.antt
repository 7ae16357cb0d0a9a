use Rattle.std.proofs.Common.{arith, is_ok}
use Rattle.bmp_ports.proofs.PortLemmas.{front_filled_up}
use Rattle.bmp_ports.proofs.whole.make_room.Goals as goal

pub returns-clause-filled : goal.returns-clause-filled
returns-clause-filled c =
    rw c.resize.ensures.items
    (front_filled_up (is_ok c.resize.result) c.args.bytes.now.items _ c.args.filled c.min.result
    (omega arith) (omega (arith, c.requires.front, c.args.bytes.now.ok.0)))
