use Rattle.std.proofs.Common.{◌≡◌}
use Rattle.bmp_kl.specs.PartLists.{part_value}
use Rattle.bmp_kl.specs.HornerRows.{before, IsMultiplied}
use Rattle.bmp_kl.proofs.horner.multiply.Given as goal

abbrev pub invariant-loop-i : goal.invariant-loop-i
invariant-loop-i l = IsMultiplied (part_value l.parts l.x l.d) l.i l.fn.row l.row × (l.before ≡ before l.fn.row l.i)
