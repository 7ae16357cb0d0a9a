use Rattle.bmp_graded.proofs.ProjectionMaps.{projections_are_maps}
use Rattle.bmp_graded.proofs.laws.projections_are_maps.Goals as goal

pub returns : goal.returns
returns c = projections_are_maps
