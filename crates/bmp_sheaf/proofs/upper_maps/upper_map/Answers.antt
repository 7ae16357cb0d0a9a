use Rattle.bmp_sheaf.specs.UpperTables.{upper_map_of}
use Rattle.bmp_sheaf.proofs.NewMaps.{maps_none, maps_more}
use Rattle.bmp_sheaf.proofs.upper_maps.upper_map.Goals as goal

pub loop-d-init : goal.loop-d-init
loop-d-init g c = rw c.in_ok-rows.ensures.items (maps_none (upper_map_of c.in_ok-quotient.quotient))

pub loop-d-preserved : goal.loop-d-preserved
loop-d-preserved g c =
    rw c.in_ok-push.ensures.items
    (maps_more (upper_map_of c.in_ok-quotient.quotient) c.loop-d.d c.loop-d.rows.items c.in_ok-upper_rows.field-0
    c.loop-d.invariant c.in_ok-upper_rows.ensures)
