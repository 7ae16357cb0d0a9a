use Rattle.std.proofs.Common.{rules, ◌<◌, arith}
use Rattle.std.proofs.lemmas.List.{with_items_is, places}
use Rattle.bmp_linear.proofs.RunRowLemmas.{run_multiplied}
use Rattle.bmp_linear.proofs.RowChangeLemmas.{numbers_below-multiplied}
use Rattle.bmp_linear.proofs.dense.DenseRowsRowSpace.scale_row.Goals as goal

pub returns-clause-multiplied : goal.returns-clause-multiplied
returns-clause-multiplied g c =
    run_multiplied c.args.self.now c.self.inside.rows c.self.inside.cols c.self.inside.numbers.items
    c.as_mut_slice-numbers.result.now c.scale_run.new.numbers _ c.self.view_is c.as_mut_slice-numbers.ensures.value
    (with_items_is c.self.inside.numbers c.scale_run.new.numbers (search (rules, places)))
    (g.F.Field.size c.args.f.now) (g.F.Field.num c.args.f.now c.args.c) c.args.i c.scale_run.ensures

pub returns-clause-numbers : goal.returns-clause-numbers
returns-clause-numbers g c =
    let two = g.met.F.Field.laws.at_least_two c.args.f.now in
    let some : 0 < g.F.Field.size c.args.f.now = omega (arith, two) in
    numbers_below-multiplied (g.F.Field.size c.args.f.now) _ _ c.args.i _ some c.requires.numbers
    (returns-clause-multiplied g c)
