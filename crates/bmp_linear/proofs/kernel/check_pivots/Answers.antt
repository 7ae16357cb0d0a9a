use Rattle.std.proofs.Common.{◌%◌, ◌<◌, rules, sym, ap, ◌∙◌, below_more}
use Rattle.bmp_math.specs.Matrices.{combination}
use Rattle.bmp_linear.specs.SparseVectors.{number_at}
use Rattle.bmp_linear.specs.Evidence.{vector_at}
use Rattle.bmp_linear.proofs.KernelLemmas.{pivots_all, pivots_fail}
use Rattle.bmp_linear.proofs.kernel.check_pivots.Goals as goal

pub returns-then-left-right-clause-fault : goal.returns-then-left-right-clause-fault
returns-then-left-right-clause-fault g c =
    let a = g.A.Rows.matrix c.args.a.now in
    let within : c.at-pivot.result < a.cols =
    rw c.at-pivot.ensures (c.requires.fits.pivots_below c.loop-s.s 0 (search rules)) in
    pivots_fail (g.F.Field.size c.args.f.now) a c.args.e.now c.args.index c.loop-s.s _ _ _ _ c.requires.fits.pivots_rise
    c.requires.index (search rules) (search rules) (search rules)
    (c.from-left.ensures ∙ c.combine.ensures c.at-pivot.result within
    ∙ ap (λ v. combination (number_at v) a.entry a.rows c.at-pivot.result % g.F.Field.size c.args.f.now)
    c.at-row.ensures
    ∙ ap (λ j. combination (vector_at c.args.e.now.rows c.args.index) a.entry a.rows j % g.F.Field.size c.args.f.now)
    (sym c.from-then-left-right-2.ensures))
    c.one_at-right.ensures c.if-left-right.true c.loop-s.invariant

pub returns-clause-ok : goal.returns-clause-ok
returns-clause-ok g c =
    pivots_all (g.F.Field.size c.args.f.now) (g.A.Rows.matrix c.args.a.now) c.args.e.now c.args.index c.loop-s.s
    (search rules) c.loop-s.invariant

pub loop-s-preserved : goal.loop-s-preserved
loop-s-preserved g c =
    let a = g.A.Rows.matrix c.args.a.now in
    let within : c.at-pivot.result < a.cols =
    rw c.at-pivot.ensures (c.requires.fits.pivots_below c.loop-s.s 0 (search rules)) in
    below_more _ _ c.loop-s.invariant
    (sym (c.from-left.ensures ∙ c.combine.ensures c.at-pivot.result within
    ∙ ap (λ v. combination (number_at v) a.entry a.rows c.at-pivot.result % g.F.Field.size c.args.f.now)
    c.at-row.ensures
    ∙ ap (λ j. combination (vector_at c.args.e.now.rows c.args.index) a.entry a.rows j % g.F.Field.size c.args.f.now)
    c.at-pivot.ensures)
    ∙ c.if-left-right.false ∙ c.one_at-right.ensures)
