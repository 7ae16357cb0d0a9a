use Rattle.std.proofs.Common.{◌-◌, ◌∙◌, sym, ap, subst}
use Rattle.bmp_graded.specs.Graded.{Graded}
use Rattle.bmp_graph.specs.Graph.{upper, label}
use Rattle.bmp_sheaf.specs.Coordinates.{leading}
use Rattle.bmp_sheaf.specs.States.{stalk_of}
use Rattle.bmp_sheaf.specs.UpperTables.{UpperTable, IsEdgeModule}
use Rattle.bmp_sheaf.proofs.ModuleLemmas.{quotient_count}
use Rattle.bmp_sheaf.proofs.EdgeMatrices.{module_kept_is}
use Rattle.bmp_sheaf.proofs.sheaf.Sheaf.edge_module.Goals as goal

pub returns-clause-module : goal.returns-clause-module
returns-clause-module g c =
    subst (λ (u : UpperTable). IsEdgeModule c.args.self.now c.args.e u.quotient) (sym c.behind-self.view_is)
    c.upper.ensures.upper.edge

pub returns-clause-graded : goal.returns-clause-graded
returns-clause-graded g c =
    module_kept_is c.args.self.now c.args.e c.behind-self.inside.quotient (returns-clause-module g c)

pub returns-clause-dimension : goal.returns-clause-dimension
returns-clause-dimension g c = λ d.
    let s = c.args.self.now in
    ap (λ (M : Graded). M.dim d) (module_kept_is s c.args.e c.behind-self.inside.quotient (returns-clause-module g c))
    ∙ quotient_count s.graph.prime (s.graph.rank - 1) (leading s.graph c.args.e) d (label s.graph c.args.e)
    (stalk_of s (upper s.graph c.args.e)).degrees
