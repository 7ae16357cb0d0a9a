use Rattle.std.proofs.Common.{◌-◌, length}
use Rattle.bmp_graph.specs.Graph.{vertex_count}
use Rattle.bmp_sheaf.proofs.OpeningLemmas.{IsOpening}
use Rattle.bmp_sheaf.proofs.sheaf.Sheaf.open_vertices.Given as goal

-- the vertices so far
abbrev pub invariant-vertices : goal.invariant-vertices
invariant-vertices g l = IsOpening l.fn.self l.self l.k

-- the vertices that are left
abbrev pub decreases-vertices : goal.decreases-vertices
decreases-vertices g l = vertex_count l.fn.self.graph - length l.self.stalks
