use Rattle.std.proofs.Common.{ap, sym, ◌∙◌}
use Rattle.bmp_interval.proofs.AddedLemmas.{elem_eq, same_elem, self_same}
use Rattle.bmp_bruhat.proofs.graph.is_same.Goals as goal

pub returns : goal.returns
returns c = (
  λ t. same_elem c.args.x.now c.args.y.now (sym c.eq.ensures ∙ t),
  λ e. c.eq.ensures ∙ ap (elem_eq c.args.x.now) (sym e) ∙ self_same c.args.x.now,
)
