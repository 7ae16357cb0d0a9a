use Rattle.std.specs.Arc.{arc_value}
use Rattle.std.proofs.lemmas.List.Elements.{All-push}
use Rattle.bmp_sheaf.specs.UpperTables.{IsUpperTable}
use Rattle.bmp_sheaf.proofs.upper_maps.UpperMaps.keep.Goals as goal

pub returns-in_ok-push : goal.returns-in_ok-push
returns-in_ok-push g c = λ D all one.
    rw c.in_ok-push.ensures.ok
    (All-push (IsUpperTable D) c.self.inside.maps (arc_value c.in_ok-try_clone.field-0) (rw c.self.view_is all)
    (rw c.in_ok-try_clone.ensures one))
