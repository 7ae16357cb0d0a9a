use Rattle.std.proofs.Common.{rules}
use Rattle.std.proofs.lemmas.List.{with_items_is, places}
use Rattle.bmp_linear.proofs.RunRowLemmas.{rows_apart}
use Rattle.bmp_linear.proofs.RowChangeLemmas.{numbers_below-exchanged}
use Rattle.bmp_packed.proofs.WordRowLemmas.{runs_exchanged, still_masked-exchanged}
use Rattle.bmp_packed.proofs.packed.PackedRowsRowSpaceBitField.swap_rows.Goals as goal

pub swap_runs-requires-clause-apart : goal.swap_runs-requires-clause-apart
swap_runs-requires-clause-apart c = rows_apart c.args.i c.args.j c.width-width.result c.if-i-j.false

pub invariant_of-self : goal.invariant_of-self
invariant_of-self c = (
  c.self.invariant.0,
  c.self.invariant.1,
  search (rules, places),
  still_masked-exchanged c.self.inside.rows c.self.inside.cols c.self.inside.words.items
      c.as_mut_slice-words.result.now c.swap_runs.new.words _ c.as_mut_slice-words.ensures.value
      (with_items_is c.self.inside.words c.swap_runs.new.words (search (rules, places))) c.self.invariant.3
      c.args.i c.args.j (search rules) (search rules) (rw (← c.width-width.ensures) c.swap_runs.ensures),
)

pub returns-clause-exchanged : goal.returns-clause-exchanged
returns-clause-exchanged c =
    runs_exchanged c.args.self.now c.self.inside.rows c.self.inside.cols c.self.inside.words.items
    c.as_mut_slice-words.result.now c.swap_runs.new.words _ c.self.view_is c.as_mut_slice-words.ensures.value
    (with_items_is c.self.inside.words c.swap_runs.new.words (search (rules, places)))
    c.args.i c.args.j (rw (← c.width-width.ensures) c.swap_runs.ensures)

pub returns-clause-numbers : goal.returns-clause-numbers
returns-clause-numbers c = λ p numbers.
    numbers_below-exchanged p _ _ c.args.i c.args.j c.requires.first c.requires.second numbers
    (returns-clause-exchanged c)
