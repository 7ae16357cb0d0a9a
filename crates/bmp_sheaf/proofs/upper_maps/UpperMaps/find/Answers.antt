use Rattle.std.proofs.Common.{sym, subst, arith}
use Rattle.std.specs.List.{All}
use Rattle.std.specs.Arc.{arc_value}
use Rattle.bmp_sheaf.specs.UpperTables.{IsUpperTable}
use Rattle.bmp_sheaf.proofs.upper_maps.UpperMaps.find.Goals as goal

pub returns-then-is_of-clause-rows : goal.returns-then-is_of-clause-rows
returns-then-is_of-clause-rows g c = λ D all.
    let maps : All (IsUpperTable D) c.self.inside.maps = rw c.self.view_is all in
    subst (IsUpperTable D) (sym c.at-upper.ensures)
    (maps c.loop-i.i (arc_value c.at-upper.result.now) (omega (arith, c.loop-i-test.true, c.len-i-end.ensures)))
