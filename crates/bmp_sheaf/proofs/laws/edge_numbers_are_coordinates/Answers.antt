use Rattle.bmp_sheaf.proofs.OnEdge.{on_edge_below, on_edge_are_coordinates}
use Rattle.bmp_sheaf.proofs.laws.edge_numbers_are_coordinates.Goals as goal

pub returns-clause-coordinates : goal.returns-clause-coordinates
returns-clause-coordinates c = λ G F d e a over inside. on_edge_are_coordinates G over F d e inside a

pub returns-clause-small : goal.returns-clause-small
returns-clause-small c = λ G F d e a i over inside. on_edge_below G over F d e inside a i
