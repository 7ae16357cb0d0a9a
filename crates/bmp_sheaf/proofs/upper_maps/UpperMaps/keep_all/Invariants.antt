use Rattle.std.proofs.Common.{ℕ, map}
use Rattle.std.specs.Arc.{arc_value}
use Rattle.bmp_sheaf.specs.UpperTables.{AreUpperTables}
use Rattle.bmp_sheaf.proofs.upper_maps.UpperMaps.keep_all.Given as goal

abbrev pub invariant-loop-upper : goal.invariant-loop-upper
invariant-loop-upper g l =
    (D : ℕ) → AreUpperTables D l.fn.self → AreUpperTables D (map arc_value l.uppers) → AreUpperTables D l.self
