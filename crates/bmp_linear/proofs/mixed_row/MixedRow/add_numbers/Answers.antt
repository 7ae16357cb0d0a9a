use Rattle.std.proofs.Common.{ℕ, List, slice_index, sym, subst, ◌∙◌}
use Rattle.bmp_field.specs.Runs.{AreBelow}
use Rattle.bmp_linear.specs.SparseVectors.{FitsBelow}
use Rattle.bmp_linear.specs.NumberRows.{IsRowSum}
use Rattle.bmp_linear.proofs.KeptRowLemmas.{entries_kept, entries_columns, entries_spread, spread-length}
use Rattle.bmp_linear.proofs.mixed_row.MixedRow.add_numbers.Goals as goal
use Rattle.bmp_linear.proofs.mixed_row.MixedRow.add_numbers.Goals.{in-Entries+in-Heap-1, in-Entries+in-Inline-1, in-Numbers-1}

pub sum_with_numbers-requires-clause-own_fits : goal.sum_with_numbers-requires-clause-own_fits
sum_with_numbers-requires-clause-own_fits g c =
    let entries = entries_kept c.self.inside.cols c.self.view_is c.in-Entries.is c.as_slice-own.ensures c.self.invariant
    c.requires.numbers in
    subst (FitsBelow c.as_slice-own.result.now)
    (sym (entries_columns c.self.inside.cols c.self.view_is c.in-Entries.is c.as_slice-own.ensures)) entries.fits

pub sum_with_numbers-requires-clause-below : goal.sum_with_numbers-requires-clause-below
sum_with_numbers-requires-clause-below g c =
    subst (AreBelow (g.F.Field.size c.args.f.now))
    (sym (entries_spread c.self.inside.cols c.self.view_is c.in-Entries.is c.as_slice-own.ensures)) c.requires.numbers

pub sum_with_numbers-requires-clause-as_many : goal.sum_with_numbers-requires-clause-as_many
sum_with_numbers-requires-clause-as_many g c =
    c.requires.as_many ∙ sym (entries_columns c.self.inside.cols c.self.view_is c.in-Entries.is c.as_slice-own.ensures)

pub invariant_of-self-in_ok-numbers-in-Entries : goal.invariant_of-self-in_ok-numbers-in-Entries
invariant_of-self-in_ok-numbers-in-Entries g c = (
  c.self.invariant.0,
  c.in_ok-numbers-in-Entries.ensures.length_is
      ∙ spread-length c.self.inside.cols c.as_slice-own.result.now,
)

pub invariant_of-self-in_ok-numbers-in-Entries-2 : goal.invariant_of-self-in_ok-numbers-in-Entries-2
invariant_of-self-in_ok-numbers-in-Entries-2 g c = (
  c.self.invariant.0,
  c.in_ok-numbers-in-Entries.ensures.length_is
      ∙ spread-length c.self.inside.cols c.as_slice-own.result.now,
)

pub returns-in_ok-numbers-in-Entries-clause-ok : goal.returns-in_ok-numbers-in-Entries-clause-ok
returns-in_ok-numbers-in-Entries-clause-ok g c =
    let summed = subst (λ (r : List ℕ). IsRowSum (g.F.Field.size c.args.f.now) (g.F.Field.num c.args.f.now c.args.c) r
    (slice_index c.args.more.now) c.in_ok-numbers-in-Entries.numbers.items)
    (entries_spread c.self.inside.cols c.self.view_is c.in-Entries.is c.as_slice-own.ensures)
    c.in_ok-numbers-in-Entries.ensures in
    elim c.match-self-2.branch [
      | in-Entries+in-Heap-1 w ↦ rw w.self-is summed
      | in-Entries+in-Inline-1 w ↦ rw w.self-is summed
      | in-Numbers-1 w ↦ rw w.self-is summed
    ]
