use Rattle.bmp_graded.proofs.Generators.{maps_determined}
use Rattle.bmp_graded.proofs.laws.maps_are_determined.Goals as goal

pub returns : goal.returns
returns c = maps_determined
