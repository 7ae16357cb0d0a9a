use Rattle.std.proofs.Common.{ℕ}
use Rattle.bmp_check.specs.FirstRefusals.{IsOfFirst, KeepsFirst}
use Rattle.bmp_check.specs.Pieces.{EachKeeps}
use Rattle.bmp_check.specs.declared.shaped.Shaped.{Shaped}
use Rattle.bmp_check.proofs.pieces.first_kept.Given as goal

-- the first of those that the pieces so far keep
abbrev pub invariant-loop-piece : goal.invariant-loop-piece
invariant-loop-piece l = (s : Shaped) (workers : ℕ) → EachKeeps s workers l.pieces →
    KeepsFirst s (IsOfFirst s workers l.piece-index) l.first
