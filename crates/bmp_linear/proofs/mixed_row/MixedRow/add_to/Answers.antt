use Rattle.std.proofs.Common.{rules, sym, subst}
use Rattle.bmp_linear.specs.SparseVectors.{FitsBelow}
use Rattle.bmp_linear.proofs.KeptRowLemmas.{entries_kept, entries_added}
use Rattle.bmp_linear.proofs.mixed_row.MixedRow.add_to.Goals as goal

pub add_entries-requires-clause-values : goal.add_entries-requires-clause-values
add_entries-requires-clause-values g c =
    let entries = entries_kept c.self.inside.cols c.self.view_is c.in-Entries.is c.as_slice.ensures c.self.invariant
    c.requires.numbers in
    entries.values

pub add_entries-requires-clause-fits : goal.add_entries-requires-clause-fits
add_entries-requires-clause-fits g c =
    let entries = entries_kept c.self.inside.cols c.self.view_is c.in-Entries.is c.as_slice.ensures c.self.invariant
    c.requires.numbers in
    subst (FitsBelow c.as_slice.result.now) (sym c.requires.as_many) entries.fits

pub returns-in-Entries : goal.returns-in-Entries
returns-in-Entries g c =
    entries_added
    (entries_kept c.self.inside.cols c.self.view_is c.in-Entries.is c.as_slice.ensures c.self.invariant
    c.requires.numbers)
    c.requires.as_many (search rules) c.requires.sums c.add_entries.ensures
