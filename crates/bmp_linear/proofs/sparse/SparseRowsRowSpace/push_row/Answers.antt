use Rattle.std.proofs.Common.{◌<◌, ◌∙◌, arith}
use Rattle.bmp_linear.proofs.RowChangeLemmas.{numbers_below-pushed}
use Rattle.bmp_linear.proofs.RowTableLemmas.{table_pushed}
use Rattle.bmp_linear.proofs.sparse.SparseRowsRowSpace.push_row.Goals as goal

pub returns-clause-ok : goal.returns-clause-ok
returns-clause-ok g c =
    table_pushed c.args.self.now c.self.inside.cols c.self.inside.rows.items c.push.new.self.items
    c.in_ok-entries.entries c.args.row.now c.self.view_is c.in_ok-push.ensures.items
    (c.in_ok-entries.ensures.ok ∙ c.entries.ensures.items)

pub returns-clause-numbers : goal.returns-clause-numbers
returns-clause-numbers g c = λ numbers.
    let two = g.met.F.Field.laws.at_least_two c.args.f.now in
    let some : 0 < g.F.Field.size c.args.f.now = omega (arith, two) in
    numbers_below-pushed (g.F.Field.size c.args.f.now) _ _ c.args.row.now some numbers c.requires.values
    (returns-clause-ok g c)
