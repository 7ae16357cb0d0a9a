use Rattle.std.proofs.Common.{rules, ◌<◌, arith}
use Rattle.std.proofs.lemmas.List.{with_items_is, places}
use Rattle.bmp_linear.proofs.RunRowLemmas.{rows_apart, run_added}
use Rattle.bmp_linear.proofs.RowChangeLemmas.{numbers_below-added}
use Rattle.bmp_linear.proofs.dense.DenseRowsRowSpace.add_row.Goals as goal

pub add_run-requires-clause-apart : goal.add_run-requires-clause-apart
add_run-requires-clause-apart g c = rows_apart c.args.into c.args.from c.self.inside.cols c.requires.apart

pub returns-clause-ok : goal.returns-clause-ok
returns-clause-ok g c =
    run_added c.args.self.now c.self.inside.rows c.self.inside.cols c.self.inside.numbers.items
    c.as_mut_slice-numbers.result.now c.add_run.new.numbers _ c.self.view_is c.as_mut_slice-numbers.ensures.value
    (with_items_is c.self.inside.numbers c.add_run.new.numbers (search (rules, places)))
    (g.F.Field.size c.args.f.now) (g.F.Field.num c.args.f.now c.args.c) c.args.into c.args.from c.add_run.ensures

pub returns-clause-numbers : goal.returns-clause-numbers
returns-clause-numbers g c =
    let two = g.met.F.Field.laws.at_least_two c.args.f.now in
    let some : 0 < g.F.Field.size c.args.f.now = omega (arith, two) in
    numbers_below-added (g.F.Field.size c.args.f.now) _ _ c.args.into c.args.from _ some c.requires.numbers
    (returns-clause-ok g c)
