use Rattle.bmp_sheaf.proofs.BoundaryNumbers.{boundary_numbers_decide}
use Rattle.bmp_sheaf.proofs.laws.boundary_numbers_decide.Goals as goal

pub returns : goal.returns
returns c = λ G F x d b e over. boundary_numbers_decide G F x d over b e
