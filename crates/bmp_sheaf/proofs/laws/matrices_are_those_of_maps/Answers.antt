use Rattle.bmp_sheaf.proofs.EdgeMaps.{lower_image, upper_image}
use Rattle.bmp_sheaf.proofs.BoundaryMaps.{boundary_image}
use Rattle.bmp_sheaf.proofs.laws.matrices_are_those_of_maps.Goals as goal

pub returns-clause-lower : goal.returns-clause-lower
returns-clause-lower c = λ G F d e u i over inside. lower_image G over F d e inside u i

pub returns-clause-upper : goal.returns-clause-upper
returns-clause-upper c = λ G F d e u i over inside. upper_image G over F d e inside u i

pub returns-clause-boundary : goal.returns-clause-boundary
returns-clause-boundary c = λ G F x d u k over. boundary_image G over F x d u k
