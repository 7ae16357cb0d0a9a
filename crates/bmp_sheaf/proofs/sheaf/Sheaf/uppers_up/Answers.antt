use Rattle.std.proofs.Common.{◌≡◌, ◌+◌, map, sym, ap, subst, ◌∙◌, arith}
use Rattle.std.specs.Arc.{arc_value}
use Rattle.std.proofs.lemmas.List.{map_push}
use Rattle.bmp_module.specs.FreeModules.{degrees_of}
use Rattle.bmp_module.specs.QuotientModules.{free_of}
use Rattle.bmp_graph.specs.Graph.{IsUpRange, upper}
use Rattle.bmp_sheaf.specs.States.{stalk_of}
use Rattle.bmp_sheaf.specs.UpperTables.{IsUpperTable}
use Rattle.bmp_sheaf.proofs.UpperTableLemmas.{UppersBefore, upper_here, uppers_more, uppers_all}
use Rattle.bmp_sheaf.proofs.sheaf.Sheaf.uppers_up.Goals as goal

pub loop-e-preserved : goal.loop-e-preserved
loop-e-preserved g c =
    let s = c.args.self.now in
    let e = c.loop-e.e in
    let from = c.up-first.result.0 in
    let made = c.in_ok-upper in
    let u = arc_value made.upper in
    let above : degrees_of (free_of u.quotient) ≡ (stalk_of s (upper s.graph e)).degrees =
    made.ensures.degrees ∙ c.stalk-above.ensures.degrees
    ∙ ap (λ y. (stalk_of s y).degrees) (c.edge.ensures.upper ∙ ap (λ G. upper G e) c.graph-in-loop-e.ensures.graph) in
    let rows = subst (λ D. IsUpperTable D u) c.degree.ensures.degree made.ensures.rows in
    rw c.in_ok-push.ensures.items
    (subst (UppersBefore s from (e + 1)) (sym (map_push arc_value c.loop-e.uppers.items made.upper))
    (uppers_more s from e (map arc_value c.loop-e.uppers.items) u c.loop-e.auto.e c.loop-e.invariant
    (upper_here s e c.table.result.now u c.table.ensures made.ensures.label above rows)))

pub returns : goal.returns
returns g c =
    let s = c.args.self.now in
    let range : IsUpRange s.graph c.args.x c.up-first.result.0 c.up-first.result.1 =
    subst (λ H. IsUpRange H c.args.x c.up-first.result.0 c.up-first.result.1) c.graph.ensures.graph
    c.up-first.ensures.range in
    uppers_all s c.args.x c.up-first.result.0 c.up-first.result.1 c.loop-e.e (map arc_value c.loop-e.uppers.items) range
    (omega (arith, range.ordered, c.loop-e.auto.e-end, c.loop-e-test.false)) c.loop-e.invariant
