use Rattle.std.proofs.Common.{rules}
use Rattle.bmp_linear.specs.SparseVectors.{number_at}
use Rattle.bmp_packed.proofs.WordRowLemmas.{full-pushed, row_pushed, still_masked-pushed}
use Rattle.bmp_packed.proofs.packed.PackedRowsRowSpaceBitField.push_row.Goals as goal

pub invariant_of-self-2 : goal.invariant_of-self-2
invariant_of-self-2 c = (
  search rules,
  c.self.invariant.1,
  full-pushed c.self.inside.rows c.self.inside.cols c.self.inside.words.items c.append_entries.new.words.items
      (number_at c.entries.result.now) c.self.invariant.2 c.in_ok-append_entries.ensures.ok,
  still_masked-pushed c.self.inside.rows c.self.inside.cols c.self.inside.words.items c.append_entries.new.words.items
      (number_at c.entries.result.now) c.self.invariant.2 c.in_ok-append_entries.ensures.ok c.self.invariant.3,
)

pub returns-clause-ok : goal.returns-clause-ok
returns-clause-ok c =
    rw (← c.entries.ensures.items) (row_pushed c.self.inside.rows c.self.inside.cols c.self.inside.words.items
    c.append_entries.new.words.items (number_at c.entries.result.now) c.self.invariant.2
    c.in_ok-append_entries.ensures.ok c.args.self.now c.self.view_is)
