use Rattle.bmp_elim.specs.KeptColumns.{AreKeptPivotsBelow}
use Rattle.bmp_elim.proofs.columns.kept_pivots.Given as goal

-- the places of the pivots that were passed
abbrev pub invariant-loop-k : goal.invariant-loop-k
invariant-loop-k l = AreKeptPivotsBelow l.pivots l.start l.split l.k l.kept
