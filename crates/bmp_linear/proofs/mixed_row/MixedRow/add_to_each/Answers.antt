use Rattle.std.proofs.Common.{slice_index, sym, subst, ◌∙◌}
use Rattle.bmp_linear.specs.SparseVectors.{number_at}
use Rattle.bmp_linear.specs.NumberRows.{HoldsRows}
use Rattle.bmp_linear.proofs.KeptRowLemmas.{entries_kept, entries_columns}
use Rattle.bmp_linear.proofs.NumberRowLemmas.{summed_as}
use Rattle.bmp_linear.proofs.mixed_row.MixedRow.add_to_each.Goals as goal

pub add_entries_to_each-requires-clause-values : goal.add_entries_to_each-requires-clause-values
add_entries_to_each-requires-clause-values g c =
    let entries = entries_kept c.self.inside.cols c.self.view_is c.in-Entries.is c.as_slice.ensures c.self.invariant
    c.requires.numbers in
    entries.values

pub add_entries_to_each-requires-clause-rows : goal.add_entries_to_each-requires-clause-rows
add_entries_to_each-requires-clause-rows g c =
    subst (λ n. HoldsRows (g.F.Field.size c.args.f.now) n c.args.rows.now)
    (sym (entries_columns c.self.inside.cols c.self.view_is c.in-Entries.is c.as_slice.ensures)) c.requires.rows

pub returns-in_err-add_entries_to_each-in-Entries-clause-sized :
    goal.returns-in_err-add_entries_to_each-in-Entries-clause-sized
returns-in_err-add_entries_to_each-in-Entries-clause-sized g c = λ i l.
    c.add_entries_to_each.ensures.sized i l
    ∙ entries_columns c.self.inside.cols c.self.view_is c.in-Entries.is c.as_slice.ensures

pub returns-in_ok-add_entries_to_each-in-Entries-clause-ok :
    goal.returns-in_ok-add_entries_to_each-in-Entries-clause-ok
returns-in_ok-add_entries_to_each-in-Entries-clause-ok g c =
    let entries = entries_kept c.self.inside.cols c.self.view_is c.in-Entries.is c.as_slice.ensures c.self.invariant
    c.requires.numbers in
    summed_as (number_at c.as_slice.result.now) (slice_index c.args.self.now) c.requires.rows.lengths entries.same
    c.in_ok-add_entries_to_each-in-Entries.ensures.ok
