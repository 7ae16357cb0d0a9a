-- What can be checked is over a field.
use Rattle.bmp_field.specs.PrimeLaws.{listed_range, listed_inverse}
use Rattle.bmp_graph.specs.Graph.{Graph}
use Rattle.bmp_sheaf.specs.Fields.{IsOverField}
use Rattle.bmp_check.specs.Accepted.{IsCheckableGraph}

pub over_field : {G : Graph} → IsCheckableGraph G → IsOverField G
over_field {G = G} checkable = record {
  is_graph = checkable.graph;
  two = (listed_range G.prime checkable.prime).0;
  inverses = listed_inverse G.prime checkable.prime;
}
