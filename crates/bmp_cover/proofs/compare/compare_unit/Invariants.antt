use Rattle.std.proofs.Common.{get_or}
use Rattle.bmp_math.specs.Vectors.{unit}
use Rattle.bmp_cover.proofs.FaultLemmas.{AgreeBelow}
use Rattle.bmp_cover.proofs.compare.compare_unit.Given as goal

-- the places so far agree
abbrev pub invariant-loop-place : goal.invariant-loop-place
invariant-loop-place l = AgreeBelow l.place (λ k. get_or l.s.first k 0) (unit l.own)
