use Rattle.std.proofs.Common.{◌<◌, List, sym, subst, rules, arith}
use Rattle.bmp_linear.specs.declared.vector.Entry.{Entry}
use Rattle.bmp_linear.specs.SparseVectors.{FitsBelow}
use Rattle.bmp_linear.proofs.RowChangeLemmas.{numbers_below-pushed}
use Rattle.bmp_linear.proofs.RowTableLemmas.{row_written_more, row_written_all, row_pushed}
use Rattle.bmp_linear.proofs.dense.DenseRowsRowSpace.push_row.Goals as goal

pub loop-entry-preserved : goal.loop-entry-preserved
loop-entry-preserved g c =
    let v = c.entries-entry-items.result.now in
    let fits = subst (λ (v : List Entry). FitsBelow v c.args.self.now.cols) (sym c.entries-entry-items.ensures.items)
    c.requires.fits in (
      c.loop-entry.invariant.0,
      c.loop-entry.invariant.1,
      row_written_more v c.len-start.result c.args.self.now.cols c.args.self.now.numbers
          c.loop-entry.self-inside.numbers.items c.loop-entry.entry-index _ c.entries-entry-items.ensures.sparse.rising
          c.loop-entry-test.true
          (fits c.loop-entry.entry-index _ c.loop-entry-test.true) c.loop-entry.invariant.2,
    )

pub returns-clause-ok : goal.returns-clause-ok
returns-clause-ok g c =
    row_pushed c.args.self.now _ _ c.loop-entry.self-inside.numbers.items c.args.row.now (search rules) (search rules)
    (search rules)
    (row_written_all c.entries-entry-items.result.now c.args.row.now c.loop-entry.entry-index c.len-start.result
    c.args.self.now.cols c.args.self.now.numbers c.loop-entry.self-inside.numbers.items c.loop-entry-test.false
    c.entries-entry-items.ensures.items (search rules) c.loop-entry.invariant.2)

pub returns-clause-numbers : goal.returns-clause-numbers
returns-clause-numbers g c = λ numbers.
    let two = g.met.F.Field.laws.at_least_two c.args.f.now in
    let some : 0 < g.F.Field.size c.args.f.now = omega (arith, two) in
    numbers_below-pushed (g.F.Field.size c.args.f.now) _ _ c.args.row.now some numbers c.requires.values
    (returns-clause-ok g c)
