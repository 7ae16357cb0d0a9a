use Rattle.std.proofs.Common.{arith}
use Rattle.bmp_levels.proofs.ColumnLemmas.{column_none, column_more}
use Rattle.bmp_levels.proofs.columns.write_column.Goals as goal

pub loop-entry-init : goal.loop-entry-init
loop-entry-init c =
    column_none c.args.width c.args.column c.requires.column c.args.numbers.now c.args.numbers.now c.requires.clear

pub loop-entry-preserved : goal.loop-entry-preserved
loop-entry-preserved c =
    column_more c.args.width c.args.column c.requires.column c.args.numbers.now c.args.entries.now c.loop-entry.numbers
    c.loop-entry.entry-index _ c.requires.sparse.rising c.loop-entry-test.true
    (omega (
      arith,
      c.requires.room c.loop-entry.entry-index (record { place = 0; value = 0 }) c.loop-entry-test.true,
      c.loop-entry.invariant.sized,
    ))
    c.loop-entry.invariant
