use Rattle.std.proofs.Common.{sym, subst}
use Rattle.bmp_graph.specs.Graph.{Graph, HasGkm}
use Rattle.bmp_cert.proofs.prepared.Accepted.graph.Goals as goal

pub returns-clause-gkm : goal.returns-clause-gkm
returns-clause-gkm c = subst (λ (g : Graph). HasGkm g) (sym c.graph.ensures) c.args.self.now.holds
