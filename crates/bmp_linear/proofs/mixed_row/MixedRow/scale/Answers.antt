use Rattle.std.proofs.Common.{◌≡◌, List, length, rules, sym, ap, subst, ◌∙◌}
use Rattle.smallvec.specs.SmallVec.{with_items}
use Rattle.bmp_linear.specs.declared.vector.Entry.{Entry}
use Rattle.bmp_linear.specs.KeptRows.{spread_numbers, kept_numbers}
use Rattle.bmp_linear.specs.NumberRows.{IsRowTimes}
use Rattle.bmp_linear.proofs.KeptRowLemmas.{kept-length, entries_kept, entries_columns, entries_spread, spread_times, times_kept, written_multiple}
use Rattle.bmp_linear.proofs.SparseRowChangeLemmas.{written_times}
use Rattle.bmp_linear.proofs.mixed_row.MixedRow.scale.Goals as goal
use Rattle.bmp_linear.proofs.mixed_row.MixedRow.scale.Goals.{in-Entries, in-Numbers}

pub scale_entries-requires-clause-values : goal.scale_entries-requires-clause-values
scale_entries-requires-clause-values g c =
    let entries = entries_kept c.self.inside.cols c.self.view_is c.in-Entries.is c.as_mut_slice.ensures.value
    c.self.invariant c.requires.numbers in
    entries.values

pub invariant_of-self : goal.invariant_of-self
invariant_of-self g c =
    let p = g.F.Field.size c.args.f.now in
    let factor = g.F.Field.num c.args.f.now c.args.c in
    let cols = c.self.inside.cols in
    let inverse = g.met.F.Field.laws.inverse c.args.f.now factor
    (g.met.F.Field.laws.below_size c.args.f.now c.args.c c.requires.factor) c.requires.not_zero in
    elim c.match-self.branch [
      | in-Entries w ↦
          rw w.self-inside-is
          (times_kept cols p factor inverse.0 (with_items w.in-Entries.entries w.scale_entries.new.entries)
          (g.met.F.Field.laws.at_least_two c.args.f.now) inverse.2
          (entries_columns cols c.self.view_is w.in-Entries.is w.as_mut_slice.ensures.value)
          (entries_kept cols c.self.view_is w.in-Entries.is w.as_mut_slice.ensures.value c.self.invariant
          c.requires.numbers)
          (written_times p factor w.in-Entries.entries w.as_mut_slice.result.now w.scale_entries.new.entries
          w.as_mut_slice.ensures.value w.scale_entries.ensures)
          c.self.invariant.0)
      | in-Numbers w ↦
          let whole : w.in-Numbers.numbers.len ≡ length w.in-Numbers.numbers.items = search rules in
          let times = written_multiple w.deref_mut.ensures.value
          (sym (ap (kept_numbers cols) w.in-Numbers.is) ∙ c.self.view_is) whole w.scale_numbers.ensures in
          rw w.self-inside-is (
            c.self.invariant.0,
            times.length_is ∙ sym (ap length c.self.view_is)
                ∙ kept-length cols c.self.inside.kept c.self.invariant.1,
          )
    ]

pub returns : goal.returns
returns g c =
    let p = g.F.Field.size c.args.f.now in
    let factor = g.F.Field.num c.args.f.now c.args.c in
    let cols = c.self.inside.cols in
    elim c.match-self.branch [
      | in-Entries w ↦
          rw w.self-inside-is
          (subst (λ (v : List Entry). IsRowTimes p factor c.args.self.now (spread_numbers cols v))
          (sym (written_times p factor w.in-Entries.entries w.as_mut_slice.result.now w.scale_entries.new.entries
          w.as_mut_slice.ensures.value w.scale_entries.ensures))
          (spread_times cols p factor w.as_mut_slice.result.now
          (entries_spread cols c.self.view_is w.in-Entries.is w.as_mut_slice.ensures.value)))
      | in-Numbers w ↦
          let whole : w.in-Numbers.numbers.len ≡ length w.in-Numbers.numbers.items = search rules in
          rw w.self-inside-is
          (written_multiple w.deref_mut.ensures.value
          (sym (ap (kept_numbers cols) w.in-Numbers.is) ∙ c.self.view_is) whole w.scale_numbers.ensures)
    ]
