use Rattle.std.proofs.Common.{◌<◌, slice_index, sym, subst}
use Rattle.bmp_linear.specs.SparseVectors.{FitsBelow, number_at}
use Rattle.bmp_linear.proofs.KeptRowLemmas.{entries_kept, sum_as}
use Rattle.bmp_linear.proofs.mixed_row.MixedRow.add_to_row.Goals as goal

pub add_entries-requires-clause-fits : goal.add_entries-requires-clause-fits
add_entries-requires-clause-fits g c =
    let entries = entries_kept c.self.inside.cols c.self.view_is c.in-Entries.is c.as_slice.ensures c.self.invariant
    c.requires.numbers in
    subst (FitsBelow c.as_slice.result.now) (sym c.requires.as_many) entries.fits

pub add_entries-requires-clause-values : goal.add_entries-requires-clause-values
add_entries-requires-clause-values g c =
    let entries = entries_kept c.self.inside.cols c.self.view_is c.in-Entries.is c.as_slice.ensures c.self.invariant
    c.requires.numbers in
    entries.values

pub returns-in_ok-add_entries-in-Entries-clause-ok : goal.returns-in_ok-add_entries-in-Entries-clause-ok
returns-in_ok-add_entries-in-Entries-clause-ok g c =
    let entries = entries_kept c.self.inside.cols c.self.view_is c.in-Entries.is c.as_slice.ensures c.self.invariant
    c.requires.numbers in
    sum_as (number_at c.as_slice.result.now) (slice_index c.args.self.now)
    (λ j l. entries.same j (subst (λ n. j < n) c.requires.as_many l)) c.in_ok-add_entries-in-Entries.ensures.ok
