use Rattle.std.proofs.Common.{◌≡◌, length}
use Rattle.bmp_check.specs.Pieces.{HaveRoom}
use Rattle.bmp_check.proofs.pieces.pieces_for.Given as goal

-- the pieces so far
abbrev pub invariant-pieces : goal.invariant-pieces
invariant-pieces l = record { count : length l.pieces.items ≡ l.counter; room : HaveRoom l.s l.pieces.items }
