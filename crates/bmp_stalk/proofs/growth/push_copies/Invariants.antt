use Rattle.std.proofs.Common.{◌≡◌, []}
use Rattle.std.specs.Prelude.{slice_index_or}
use Rattle.bmp_stalk.specs.Growth.{AreAppended}
use Rattle.bmp_stalk.proofs.growth.push_copies.Given as goal

-- the vectors that were copied
abbrev pub invariant-loop-vector : goal.invariant-loop-vector
invariant-loop-vector l = AreAppended [] (λ i v. v ≡ slice_index_or l.vectors i []) l.vector-index l.fn.lifts l.lifts
