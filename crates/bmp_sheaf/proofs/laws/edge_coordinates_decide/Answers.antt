use Rattle.bmp_sheaf.proofs.CoordinateLemmas.{edge_coordinates_decide}
use Rattle.bmp_sheaf.proofs.laws.edge_coordinates_decide.Goals as goal

pub returns : goal.returns
returns c = edge_coordinates_decide
