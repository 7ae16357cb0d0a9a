use Rattle.std.proofs.Common.{◌<◌, subst, sym}
use Rattle.bmp_graph.specs.Graph.{vertex_count, IsUpRange}
use Rattle.bmp_graph.proofs.TableLemmas.{IsUpRange-read}
use Rattle.bmp_graph.proofs.graph.MomentGraph.up.Goals as goal

pub returns-clause-range : goal.returns-clause-range
returns-clause-range c =
    subst (λ g. IsUpRange g c.args.x c.index.result.now c.index-2.result.now) c.self.view_is
    (IsUpRange-read _ c.self.inside.starts.items c.args.x _ _ c.self.invariant.starts
    (subst (λ g. c.args.x < vertex_count g) (sym c.self.view_is) c.requires) c.index.ensures c.index-2.ensures)
