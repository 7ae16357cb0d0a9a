use Rattle.bmp_sheaf.proofs.SizeLemmas.{IsRoomBefore}
use Rattle.bmp_sheaf.proofs.sheaf.Sheaf.scratch_len.Given as goal

abbrev pub invariant-loop-x : goal.invariant-loop-x
invariant-loop-x g l = IsRoomBefore l.self l.d l.x l.most
