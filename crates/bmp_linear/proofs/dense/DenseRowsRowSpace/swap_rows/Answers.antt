use Rattle.std.proofs.Common.{rules}
use Rattle.std.proofs.lemmas.List.{with_items_is, places}
use Rattle.bmp_linear.proofs.RunRowLemmas.{rows_apart, runs_exchanged}
use Rattle.bmp_linear.proofs.RowChangeLemmas.{numbers_below-exchanged}
use Rattle.bmp_linear.proofs.dense.DenseRowsRowSpace.swap_rows.Goals as goal

pub swap_runs-requires-clause-apart : goal.swap_runs-requires-clause-apart
swap_runs-requires-clause-apart g c = rows_apart c.args.i c.args.j c.self.inside.cols c.if-i-j.false

pub returns-clause-exchanged : goal.returns-clause-exchanged
returns-clause-exchanged g c =
    runs_exchanged c.args.self.now c.self.inside.rows c.self.inside.cols c.self.inside.numbers.items
    c.as_mut_slice-numbers.result.now c.swap_runs.new.numbers _ c.self.view_is c.as_mut_slice-numbers.ensures.value
    (with_items_is c.self.inside.numbers c.swap_runs.new.numbers (search (rules, places)))
    c.args.i c.args.j c.swap_runs.ensures

pub returns-clause-numbers : goal.returns-clause-numbers
returns-clause-numbers g c = λ p numbers.
    numbers_below-exchanged p _ _ c.args.i c.args.j c.requires.first c.requires.second numbers
    (returns-clause-exchanged g c)
