use Rattle.std.proofs.Common.{rules}
use Rattle.std.proofs.lemmas.List.{with_items_is, places}
use Rattle.bmp_linear.proofs.RunRowLemmas.{rows_apart}
use Rattle.bmp_packed.proofs.WordRowLemmas.{run_added, still_masked-added}
use Rattle.bmp_packed.proofs.packed.PackedRowsRowSpaceBitField.add_row.Goals as goal

pub add_run-requires-clause-apart : goal.add_run-requires-clause-apart
add_run-requires-clause-apart c = rows_apart c.args.into c.args.from c.width-width.result c.requires.apart

pub invariant_of-self : goal.invariant_of-self
invariant_of-self c = (
  c.self.invariant.0,
  c.self.invariant.1,
  search (rules, places),
  still_masked-added c.self.inside.rows c.self.inside.cols c.self.inside.words.items c.as_mut_slice-words.result.now
      c.add_run.new.words _ c.as_mut_slice-words.ensures.value
      (with_items_is c.self.inside.words c.add_run.new.words (search (rules, places))) c.self.invariant.3
      c.args.into c.args.from (search rules) (search rules) (rw (← c.width-width.ensures) c.add_run.ensures),
)

pub returns-then-c-ne0-clause-ok : goal.returns-then-c-ne0-clause-ok
returns-then-c-ne0-clause-ok c =
    run_added c.args.self.now c.self.inside.rows c.self.inside.cols c.self.inside.words.items
    c.as_mut_slice-words.result.now c.add_run.new.words _ c.self.view_is c.as_mut_slice-words.ensures.value
    (with_items_is c.self.inside.words c.add_run.new.words (search (rules, places)))
    c.args.into c.args.from c.args.c (search rules) (rw (← c.width-width.ensures) c.add_run.ensures)
