use Rattle.std.proofs.Common.{◌≡◌}
use Rattle.bmp_stalk.specs.Growth.{AreAppended}
use Rattle.bmp_stalk.proofs.growth.grown_degrees.Given as goal

-- the generators that were added
abbrev pub invariant-chosen : goal.invariant-chosen
invariant-chosen l = AreAppended 0 (λ i b. b ≡ l.d) l.counter l.from l.degrees
