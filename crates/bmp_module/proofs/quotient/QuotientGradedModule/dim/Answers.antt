use Rattle.std.proofs.Common.{List, ℕ, ◌∙◌, ◌-◌, ap}
use Rattle.bmp_graded.specs.Modules.{free}
use Rattle.bmp_graded.proofs.CopiesLemmas.{quotient_dim}
use Rattle.bmp_module.proofs.quotient.QuotientGradedModule.dim.Goals as goal

pub returns : goal.returns
returns g c =
    let s = c.args.self.now in
    c.dimension.ensures ∙ ap (λ (gs : List ℕ). (free (s.free.rank - 1) gs).dim c.args.d) c.deref.ensures.value
    ∙ ap (λ r. (free (r - 1) s.free.degrees.items).dim c.args.d) s.agree
    ∙ quotient_dim (s.label.rank - 1) s.label.leading c.args.d _ s.free.degrees.items
