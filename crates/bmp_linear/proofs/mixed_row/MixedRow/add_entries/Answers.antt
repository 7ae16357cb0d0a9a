use Rattle.std.proofs.Common.{ℕ, List, sym, subst, ◌∙◌}
use Rattle.bmp_field.specs.Runs.{AreBelow}
use Rattle.bmp_linear.specs.SparseVectors.{FitsBelow, number_at}
use Rattle.bmp_linear.specs.NumberRows.{IsRowSum}
use Rattle.bmp_linear.proofs.KeptRowLemmas.{entries_kept, entries_columns, entries_spread, spread-length, spread_sum, sum_kept}
use Rattle.bmp_linear.proofs.mixed_row.MixedRow.add_entries.Goals as goal
use Rattle.bmp_linear.proofs.mixed_row.MixedRow.add_entries.Goals.{in-Entries+in-Heap-1, in-Entries+in-Inline-1, in-Numbers-1}

pub sum_of_entries-requires-clause-first_values : goal.sum_of_entries-requires-clause-first_values
sum_of_entries-requires-clause-first_values g c =
    let entries = entries_kept c.self.inside.cols c.self.view_is c.in-Entries.is c.as_slice-own.ensures c.self.invariant
    c.requires.numbers in
    entries.values

pub invariant_of-self-then-are_few : goal.invariant_of-self-then-are_few
invariant_of-self-then-are_few g c =
    sum_kept c.self.inside.cols (g.F.Field.size c.args.f.now) (g.F.Field.num c.args.f.now c.args.c)
    (entries_columns c.self.inside.cols c.self.view_is c.in-Entries.is c.as_slice-own.ensures)
    (entries_kept c.self.inside.cols c.self.view_is c.in-Entries.is c.as_slice-own.ensures c.self.invariant
    c.requires.numbers)
    c.requires.fits (rw c.swap.ensures.x_after c.in_ok-sum_of_entries-in-Entries.ensures) c.self.invariant.0

pub returns-in_ok-sum_of_entries-in-Entries-clause-ok : goal.returns-in_ok-sum_of_entries-in-Entries-clause-ok
returns-in_ok-sum_of_entries-in-Entries-clause-ok g c =
    spread_sum c.self.inside.cols (g.F.Field.size c.args.f.now) (g.F.Field.num c.args.f.now c.args.c)
    (entries_spread c.self.inside.cols c.self.view_is c.in-Entries.is c.as_slice-own.ensures)
    (rw c.swap.ensures.x_after c.in_ok-sum_of_entries-in-Entries.ensures)

pub sum_with_entries-requires-clause-own_fits : goal.sum_with_entries-requires-clause-own_fits
sum_with_entries-requires-clause-own_fits g c =
    let entries = entries_kept c.self.inside.cols c.self.view_is c.in-Entries.is c.as_slice-own.ensures c.self.invariant
    c.requires.numbers in
    subst (FitsBelow c.as_slice-own.result.now)
    (sym (entries_columns c.self.inside.cols c.self.view_is c.in-Entries.is c.as_slice-own.ensures)) entries.fits

pub sum_with_entries-requires-clause-below : goal.sum_with_entries-requires-clause-below
sum_with_entries-requires-clause-below g c =
    subst (AreBelow (g.F.Field.size c.args.f.now))
    (sym (entries_spread c.self.inside.cols c.self.view_is c.in-Entries.is c.as_slice-own.ensures)) c.requires.numbers

pub sum_with_entries-requires-clause-fits : goal.sum_with_entries-requires-clause-fits
sum_with_entries-requires-clause-fits g c =
    subst (FitsBelow c.args.more.now)
    (sym (entries_columns c.self.inside.cols c.self.view_is c.in-Entries.is c.as_slice-own.ensures)) c.requires.fits

pub invariant_of-self-in_ok-numbers-in-Entries : goal.invariant_of-self-in_ok-numbers-in-Entries
invariant_of-self-in_ok-numbers-in-Entries g c = (
  c.self.invariant.0,
  c.in_ok-numbers-in-Entries.ensures.length_is
      ∙ spread-length c.self.inside.cols c.as_slice-own.result.now,
)

pub invariant_of-self-in_ok-numbers-in-Entries-2 : goal.invariant_of-self-in_ok-numbers-in-Entries-2
invariant_of-self-in_ok-numbers-in-Entries-2 g c = (
  c.self.invariant.0,
  c.in_ok-numbers-in-Entries.ensures.length_is
      ∙ spread-length c.self.inside.cols c.as_slice-own.result.now,
)

pub returns-in_ok-numbers-in-Entries-clause-ok : goal.returns-in_ok-numbers-in-Entries-clause-ok
returns-in_ok-numbers-in-Entries-clause-ok g c =
    let summed = subst (λ (r : List ℕ). IsRowSum (g.F.Field.size c.args.f.now) (g.F.Field.num c.args.f.now c.args.c) r
    (number_at c.args.more.now) c.in_ok-numbers-in-Entries.numbers.items)
    (entries_spread c.self.inside.cols c.self.view_is c.in-Entries.is c.as_slice-own.ensures)
    c.in_ok-numbers-in-Entries.ensures in
    elim c.match-self-2.branch [
      | in-Entries+in-Heap-1 w ↦ rw w.self-is summed
      | in-Entries+in-Inline-1 w ↦ rw w.self-is summed
      | in-Numbers-1 w ↦ rw w.self-is summed
    ]
