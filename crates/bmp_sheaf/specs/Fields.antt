-- Graphs whose labels have numbers from a field.
--   IsOverField G    a moment graph; its prime is 2 or more, and each number below it but 0 has an inverse modulo it
use Rattle.std.specs.Prelude.{◌≤◌}
use Rattle.bmp_graded.specs.NormalForms.{HasInverses}
use Rattle.bmp_graph.specs.Graph.{Graph, IsGraph}

pub record IsOverField (G : Graph) : Type 0 where
  pub is_graph : IsGraph G
  pub two : 2 ≤ G.prime
  pub inverses : HasInverses G.prime
