use Rattle.std.proofs.Common.{◌+◌}
use Rattle.bmp_module.specs.FreeModules.{degrees_of}
use Rattle.bmp_sheaf.specs.States.{with_stalk}
use Rattle.bmp_sheaf.proofs.NewMaps.{LowerBefore, before_edge}
use Rattle.bmp_sheaf.proofs.sheaf.Sheaf.lower_up.Given as goal

abbrev pub invariant-loop-e : goal.invariant-loop-e
invariant-loop-e g l =
    let s = with_stalk l.self (record { degrees = degrees_of l.from; lifts = l.lifts }) in
    LowerBefore s l.first (before_edge s l.first l.e) l.lower.items

abbrev pub invariant-loop-d : goal.invariant-loop-d
invariant-loop-d g l =
    let s = with_stalk l.self (record { degrees = degrees_of l.from; lifts = l.lifts }) in
    LowerBefore s l.first (before_edge s l.first l.e + l.d) l.lower.items
