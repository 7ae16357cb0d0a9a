use Rattle.bmp_sheaf.specs.UpperTables.{upper_map_of}
use Rattle.bmp_sheaf.proofs.NewMaps.{MapsBefore}
use Rattle.bmp_sheaf.proofs.upper_maps.upper_map.Given as goal

-- the maps so far
abbrev pub invariant-loop-d : goal.invariant-loop-d
invariant-loop-d g l = MapsBefore (upper_map_of l.quotient) l.d l.rows.items
