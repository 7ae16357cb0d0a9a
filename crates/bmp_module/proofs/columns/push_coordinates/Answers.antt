use Rattle.std.proofs.Common.{◌≡◌, ◌∙◌, refl, ap, arith}
use Rattle.bmp_module.proofs.ColumnLemmas.{columns_none, number_pushed, one_column, columns_as}
use Rattle.bmp_module.proofs.columns.push_coordinates.Goals as goal

pub loop-i-init : goal.loop-i-init
loop-i-init g c = columns_none 1 _ c.args.columns.now.items

pub loop-i-preserved : goal.loop-i-preserved
loop-i-preserved g c =
    rw c.in_ok-push.ensures.items
    (number_pushed c.loop-i.i (g.N.GradedModule.coordinate c.args.over.now c.args.f.now c.args.e.now)
    c.args.columns.now.items c.loop-i.columns.items c.num.result c.loop-i.invariant
    (c.num.ensures ∙ c.coordinate.ensures.number))

pub returns : goal.returns
returns g c =
    let all : c.dim-i-end.result ≡ (g.N.GradedModule.graded c.args.over.now).dim
    (g.N.GradedModule.degree c.args.over.now c.args.e.now) =
    c.dim-i-end.ensures ∙ ap (g.N.GradedModule.graded c.args.over.now).dim c.degree.ensures in
    let whole : c.loop-i.i ≡ (g.N.GradedModule.graded c.args.over.now).dim
    (g.N.GradedModule.degree c.args.over.now c.args.e.now) =
    omega (arith, all, c.loop-i.auto.i-end, c.loop-i-test.false) in
    one_column ((g.N.GradedModule.graded c.args.over.now).dim (g.N.GradedModule.degree c.args.over.now c.args.e.now))
    (g.N.GradedModule.coordinate c.args.over.now c.args.f.now c.args.e.now) c.args.columns.now.items
    c.loop-i.columns.items
    (columns_as 1 c.loop-i.i
    ((g.N.GradedModule.graded c.args.over.now).dim (g.N.GradedModule.degree c.args.over.now c.args.e.now))
    (λ j i. g.N.GradedModule.coordinate c.args.over.now c.args.f.now c.args.e.now j)
    (λ j i. g.N.GradedModule.coordinate c.args.over.now c.args.f.now c.args.e.now j) c.args.columns.now.items
    c.loop-i.columns.items whole (λ j i below inside. refl) c.loop-i.invariant)
