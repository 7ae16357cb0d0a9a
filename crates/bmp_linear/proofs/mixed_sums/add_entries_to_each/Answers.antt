use Rattle.std.proofs.Common.{length, slice_index, sym, ap, subst, ◌∙◌}
use Rattle.bmp_field.specs.Runs.{AreBelow}
use Rattle.bmp_linear.specs.SparseVectors.{FitsBelow, number_at}
use Rattle.bmp_linear.proofs.NumberRowLemmas.{summed_none, summed_more, summed_skip, current_row, sum_of}
use Rattle.bmp_linear.proofs.mixed_sums.add_entries_to_each.Goals as goal
use Rattle.bmp_linear.proofs.mixed_sums.add_entries_to_each.Goals.{then-i-from+then-factors-i-ne0+in_ok-add_entries, else-i-from, else-i-from-via-then-i-from+else-factors-i-ne0, else-i-from-via-else-i-from}

pub add_entries-requires-clause-numbers : goal.add_entries-requires-clause-numbers
add_entries-requires-clause-numbers g c =
    subst (AreBelow (g.F.Field.size c.args.f.now))
    (sym (current_row c.loop-i.i _ c.args.from (slice_index c.args.factors.now) (number_at c.args.more.now)
    c.args.rows.now c.loop-i.rows c.loop-i.invariant c.loop-i-test.true c.index-rows-i.result))
    (c.requires.rows.below c.loop-i.i c.loop-i-test.true)

pub add_entries-requires-clause-fits : goal.add_entries-requires-clause-fits
add_entries-requires-clause-fits g c =
    let current = current_row c.loop-i.i _ c.args.from (slice_index c.args.factors.now) (number_at c.args.more.now)
    c.args.rows.now c.loop-i.rows c.loop-i.invariant c.loop-i-test.true c.index-rows-i.result in
    subst (FitsBelow c.args.more.now) (sym (ap length current ∙ c.requires.rows.lengths c.loop-i.i c.loop-i-test.true))
    c.requires.fits

pub loop-i-init : goal.loop-i-init
loop-i-init g c =
    summed_none (g.F.Field.size c.args.f.now) c.args.from (slice_index c.args.factors.now) (number_at c.args.more.now)
    c.args.rows.now

pub loop-i-preserved : goal.loop-i-preserved
loop-i-preserved g c =
    let p = g.F.Field.size c.args.f.now in
    let i = c.loop-i.i in
    let factor = slice_index c.args.factors.now in
    let v = number_at c.args.more.now in
    let old = c.args.rows.now in
    let h = c.loop-i.invariant in
    elim c.if-i-from.branch [
      | then-i-from+then-factors-i-ne0+in_ok-add_entries w ↦
          rw w.rows-is
          (summed_more i p c.args.from factor v old c.loop-i.rows h c.loop-i-test.true w.add_entries.new.self
          w.if-i-from.true
          (sum_of v (w.from_num-c.ensures.number ∙ w.from.ensures)
          (current_row i p c.args.from factor v old c.loop-i.rows h c.loop-i-test.true w.index-rows-i.result)
          w.in_ok-add_entries.ensures.ok))
      | else-i-from w ↦
          rw w.rows-is
          (summed_skip i p c.args.from factor v old c.loop-i.rows h c.loop-i-test.true
          (c.requires.rows.below i c.loop-i-test.true)
          (λ apart. elim w.else-i-from.branch [
            | else-i-from-via-then-i-from+else-factors-i-ne0 w' ↦ w'.if-factors-i-ne0.false
            | else-i-from-via-else-i-from w' ↦ absurd (apart w'.if-i-from.false)
          ]))
    ]
