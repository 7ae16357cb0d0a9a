use Rattle.bmp_sheaf.proofs.EdgeLabels.{label_coordinates, label_leads}
use Rattle.bmp_graph.specs.Graph.{lower, upper}
use Rattle.bmp_sheaf.specs.Coordinates.{leading}
use Rattle.std.proofs.Common.{◌-◌}
use Rattle.bmp_sheaf.proofs.ModuleLemmas.{free_count, quotient_count, component_is, same_modulo_is_congruent, edge_number_is, lower_is_map, upper_is_map}
use Rattle.bmp_sheaf.specs.Numbers.{lower_matrix, upper_matrix}
use Rattle.bmp_math.proofs.SameMatrices.{same_matrix-reflexive}
use Rattle.bmp_sheaf.proofs.EdgeMatrices.{lower_of_map, upper_of_map}
use Rattle.bmp_sheaf.proofs.laws.stalks_and_edges_are_graded_modules.Goals as goal

pub returns-clause-stalks : goal.returns-clause-stalks
returns-clause-stalks c = λ r d degrees. (free_count r d degrees, λ g u inside. component_is r d g degrees u inside)

pub returns-clause-edges : goal.returns-clause-edges
returns-clause-edges c = λ p r l d c degrees. quotient_count p (r - 1) l d c degrees

pub returns-clause-equality : goal.returns-clause-equality
returns-clause-equality c = λ p r d c degrees u v. same_modulo_is_congruent p r d c degrees u v

pub returns-clause-coordinates : goal.returns-clause-coordinates
returns-clause-coordinates c = λ p r l d i c degrees u some below. edge_number_is p r l d i c degrees u some below

pub returns-clause-maps : goal.returns-clause-maps
returns-clause-maps c = λ G F e over inside. record {
  lower_one = lower_is_map G.prime G.rank (leading G e) (label_coordinates G e) over.two over.inverses
      (label_leads G over e inside) (F.degrees (upper G e)) (F.degrees (lower G e)) (F.lift e);
  upper_one = upper_is_map G.prime G.rank (leading G e) (label_coordinates G e) over.two over.inverses
      (label_leads G over e inside) (F.degrees (upper G e));
}

pub returns-clause-matrices : goal.returns-clause-matrices
returns-clause-matrices c = λ G F d e over inside. record {
  lower_one = lower_of_map G over F d e inside (lower_matrix G F d e) (same_matrix-reflexive (lower_matrix G F d e));
  upper_one = upper_of_map G over F d e inside (upper_matrix G F d e) (same_matrix-reflexive (upper_matrix G F d e));
}
