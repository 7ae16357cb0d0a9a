use Rattle.std.proofs.Common.{arith, ◌≡◌, ◌<◌, ◌+◌, ◌++◌, ℕ, List, length, take, drop}
use Rattle.std.proofs.lemmas.List.{length-take, length-append}
use Rattle.bmp_ports.proofs.PortLemmas.{passes_on, front_written, length-written}
use Rattle.bmp_ports.proofs.whole.read_all.Goals as goal

pub returns-in_err-n-clause-fault_within : goal.returns-in_err-n-clause-fault_within
returns-in_err-n-clause-fault_within g c = λ _. (
  take c.pieces.filled c.pieces.bytes.items,
  omega (arith, length-take c.pieces.filled c.pieces.bytes.items),
  rw c.in_err-n.ensures.stays c.pieces.invariant.passes,
)

pub returns-then-filled-limit-clause-too_long : goal.returns-then-filled-limit-clause-too_long
returns-then-filled-limit-clause-too_long g c = λ _. (
  take c.pieces.filled c.pieces.bytes.items ++ take c.in_ok-n.n c.read.new.buf,
  omega (
    arith,
    length-append (take c.pieces.filled c.pieces.bytes.items) (take c.in_ok-n.n c.read.new.buf),
    length-take c.pieces.filled c.pieces.bytes.items,
    length-take c.in_ok-n.n c.read.new.buf,
    c.in_ok-n.ensures.within,
    c.slice_mut.ensures.len,
    c.read.auto.buf,
    c.make_room.ensures.most,
  ),
  passes_on _ _ _ _ _ c.pieces.invariant.passes c.in_ok-n.ensures.passes,
)

pub pieces-preserved : goal.pieces-preserved
pieces-preserved g c =
    let piece = c.read.new.buf in
    let items = c.make_room.new.bytes.items in
    let more : List ℕ = drop (length piece) (drop c.pieces.filled items) in
    let rest : List ℕ = drop (length (take c.pieces.filled items ++ (piece ++ more))) items in
    let size : length items ≡ c.make_room.new.bytes.len = omega (arith, c.make_room.new.bytes.ok.0) in
    let front : c.pieces.filled < length items = omega (arith, size, c.in_ok-make_room.ensures.room) in
    let room : c.pieces.filled + length piece ≡ length items =
    omega (arith, front, c.slice_mut.ensures.len, c.read.auto.buf) in
    record {
      within = omega arith;
      room = rw (length-written items piece more rest c.pieces.filled c.make_room.new.bytes.len (omega arith) size
          (omega arith))
          (omega (arith, c.in_ok-n.ensures.within, room));
      most = rw (length-written items piece more rest c.pieces.filled c.make_room.new.bytes.len (omega arith) size
          (omega arith))
          (omega (arith, c.make_room.ensures.most));
      later = omega (arith, c.in_ok-n.ensures.later);
      passes =
          rw (front_written items piece more rest c.pieces.filled c.in_ok-n.n c.make_room.new.bytes.len
          (omega arith) c.in_ok-n.ensures.within (omega (arith, c.in_ok-n.ensures.within, room)))
          (rw c.make_room.ensures.filled (passes_on _ _ _ _ _ c.pieces.invariant.passes c.in_ok-n.ensures.passes));
    }
