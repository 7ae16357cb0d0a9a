use Rattle.std.proofs.Common.{◌<◌, length, slice_index, sym, ap, subst, ◌∙◌}
use Rattle.bmp_field.specs.Runs.{AreBelow}
use Rattle.bmp_linear.specs.Runs.{AreMultiples}
use Rattle.bmp_linear.proofs.KeptRowLemmas.{multiple-length, multiple-below, multiple-zero, multiple_sum}
use Rattle.bmp_linear.proofs.NumberRowLemmas.{summed_none, summed_more, summed_skip, current_row, sum_of}
use Rattle.bmp_linear.proofs.mixed_sums.add_numbers_to_each.Goals as goal
use Rattle.bmp_linear.proofs.mixed_sums.add_numbers_to_each.Goals.{then-i-from+then-factors-i-ne0+in_ok-add_numbers, else-i-from, else-i-from-via-then-i-from+else-factors-i-ne0, else-i-from-via-else-i-from}

pub add_numbers-requires-clause-numbers : goal.add_numbers-requires-clause-numbers
add_numbers-requires-clause-numbers g c =
    subst (AreBelow (g.F.Field.size c.args.f.now))
    (sym (current_row c.loop-i.i _ c.args.from (slice_index c.args.factors.now) (slice_index c.args.more.now)
    c.args.rows.now c.loop-i.rows c.loop-i.invariant c.loop-i-test.true c.index-rows-i.result))
    (c.requires.rows.below c.loop-i.i c.loop-i-test.true)

pub add_numbers-requires-clause-as_many : goal.add_numbers-requires-clause-as_many
add_numbers-requires-clause-as_many g c =
    let value = c.deref.ensures.value in
    let factor = c.requires.factors c.loop-i.i
    (subst (λ n. c.loop-i.i < n) (sym c.requires.as_many) c.loop-i-test.true) in
    let sized = ap length value ∙ c.in_ok-table.ensures.sized in
    let table = subst (AreMultiples (g.F.Field.size c.args.f.now) (g.F.Field.size c.args.f.now) c.args.more.now)
    (sym value)
    c.in_ok-table.ensures.multiples in
    let current = current_row c.loop-i.i _ c.args.from (slice_index c.args.factors.now) (slice_index c.args.more.now)
    c.args.rows.now c.loop-i.rows c.loop-i.invariant c.loop-i-test.true c.index-rows-i.result in
    multiple-length (g.F.Field.size c.args.f.now) _ c.args.more.now c.deref.result.now sized table factor
    ∙ sym (ap length current ∙ c.requires.rows.lengths c.loop-i.i c.loop-i-test.true)

pub add_numbers-requires-clause-zero : goal.add_numbers-requires-clause-zero
add_numbers-requires-clause-zero g c =
    let value = c.deref.ensures.value in
    let factor = c.requires.factors c.loop-i.i
    (subst (λ n. c.loop-i.i < n) (sym c.requires.as_many) c.loop-i-test.true) in
    let sized = ap length value ∙ c.in_ok-table.ensures.sized in
    let table = subst (AreMultiples (g.F.Field.size c.args.f.now) (g.F.Field.size c.args.f.now) c.args.more.now)
    (sym value)
    c.in_ok-table.ensures.multiples in
    multiple-zero (g.F.Field.size c.args.f.now) _ c.args.more.now c.deref.result.now sized table factor
    c.zeros_before-start.result c.zeros_before-start.ensures.within c.zeros_before-start.ensures.zero

pub add_numbers-requires-clause-below : goal.add_numbers-requires-clause-below
add_numbers-requires-clause-below g c =
    let value = c.deref.ensures.value in
    let factor = c.requires.factors c.loop-i.i
    (subst (λ n. c.loop-i.i < n) (sym c.requires.as_many) c.loop-i-test.true) in
    let sized = ap length value ∙ c.in_ok-table.ensures.sized in
    let table = subst (AreMultiples (g.F.Field.size c.args.f.now) (g.F.Field.size c.args.f.now) c.args.more.now)
    (sym value)
    c.in_ok-table.ensures.multiples in
    multiple-below (g.F.Field.size c.args.f.now) _ c.args.more.now c.deref.result.now sized table factor

pub loop-i-init : goal.loop-i-init
loop-i-init g c =
    summed_none (g.F.Field.size c.args.f.now) c.args.from (slice_index c.args.factors.now) (slice_index c.args.more.now)
    c.args.rows.now

pub loop-i-preserved : goal.loop-i-preserved
loop-i-preserved g c =
    let p = g.F.Field.size c.args.f.now in
    let i = c.loop-i.i in
    let factor = slice_index c.args.factors.now in
    let v = slice_index c.args.more.now in
    let old = c.args.rows.now in
    let h = c.loop-i.invariant in
    elim c.if-i-from.branch [
      | then-i-from+then-factors-i-ne0+in_ok-add_numbers w ↦
          let value = w.deref.ensures.value in
          rw w.rows-is
          (summed_more i p c.args.from factor v old c.loop-i.rows h c.loop-i-test.true w.add_numbers.new.self
          w.if-i-from.true
          (multiple_sum p (factor i) c.args.more.now w.deref.result.now (ap length value ∙ c.in_ok-table.ensures.sized)
          (subst (AreMultiples p p c.args.more.now) (sym value) c.in_ok-table.ensures.multiples)
          (c.requires.factors i (subst (λ n. i < n) (sym c.requires.as_many) c.loop-i-test.true))
          (c.requires.rows.lengths i c.loop-i-test.true)
          (sum_of _ w.one.ensures.number
          (current_row i p c.args.from factor v old c.loop-i.rows h c.loop-i-test.true w.index-rows-i.result)
          w.in_ok-add_numbers.ensures.ok)))
      | else-i-from w ↦
          rw w.rows-is
          (summed_skip i p c.args.from factor v old c.loop-i.rows h c.loop-i-test.true
          (c.requires.rows.below i c.loop-i-test.true)
          (λ apart. elim w.else-i-from.branch [
            | else-i-from-via-then-i-from+else-factors-i-ne0 w' ↦ w'.if-factors-i-ne0.false
            | else-i-from-via-else-i-from w' ↦ absurd (apart w'.if-i-from.false)
          ]))
    ]
