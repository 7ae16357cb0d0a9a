use Rattle.std.proofs.Common.{◌≤◌, ◌+◌, ◌-◌, length, take}
use Rattle.bmp_ports.specs.Ports.{Passes}
use Rattle.bmp_ports.proofs.whole.read_all.Given as goal

-- the front of the bytes came, and the rest is room
abbrev pub invariant-pieces : goal.invariant-pieces
invariant-pieces g l = record {
  within : l.filled ≤ l.limit;
  room : l.filled ≤ length l.bytes.items;
  most : length l.bytes.items ≤ l.limit + 1;
  later : g.S.Source.faults l.initial.source ≤ g.S.Source.faults l.source;
  passes : Passes (g.S.Source.left l.initial.source) (g.S.Source.left l.source) (take l.filled l.bytes.items);
}

abbrev pub decreases-pieces : goal.decreases-pieces
decreases-pieces g l = l.limit + 1 - l.filled
