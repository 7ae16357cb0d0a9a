use Rattle.std.proofs.Common.{◌<◌, ap, ◌∙◌, rules, arith}
use Rattle.bmp_linear.specs.RowTables.{entries_of}
use Rattle.bmp_linear.proofs.EntrySumLemmas.{summed_all, summed_zero, summed_more}
use Rattle.bmp_linear.proofs.entry_sums.sum_of_entries.Goals as goal
use Rattle.bmp_linear.proofs.entry_sums.sum_of_entries.Goals.{then-next-ne0+in_ok-push, else-next-ne0}

pub loop-first_left-preserved : goal.loop-first_left-preserved
loop-first_left-preserved g c =
    let p = g.F.Field.size c.args.f.now in
    let factor = g.F.Field.num c.args.f.now c.args.c in
    let two = g.met.F.Field.laws.at_least_two c.args.f.now in
    let some : 0 < g.F.Field.size c.args.f.now = omega (arith, two) in
    elim c.if-next-ne0.branch [
      | then-next-ne0+in_ok-push w ↦
          summed_more p factor c.args.first.now c.args.second.now c.loop-first_left.first_left.now
          c.loop-first_left.second_left.now c.loop-first_left.sum.items c.next_entry-next.result
          c.loop-first_left.invariant c.next_entry-next.ensures
          c.left_after-first_left.result.now c.left_after-second_left.result.now c.if-next-ne0.sum.items
          c.left_after-first_left.ensures c.left_after-second_left.ensures
          (ap entries_of w.sum-is ∙ w.in_ok-push.ensures.ok) some w.if-next-ne0.true
      | else-next-ne0 w ↦
          summed_zero p factor c.args.first.now c.args.second.now c.loop-first_left.first_left.now
          c.loop-first_left.second_left.now c.loop-first_left.sum.items c.next_entry-next.result
          c.loop-first_left.invariant c.next_entry-next.ensures
          c.left_after-first_left.result.now c.left_after-second_left.result.now c.if-next-ne0.sum.items
          c.left_after-first_left.ensures c.left_after-second_left.ensures (ap entries_of w.sum-is)
          w.if-next-ne0.false
    ]

pub returns : goal.returns
returns g c =
    let two = g.met.F.Field.laws.at_least_two c.args.f.now in
    summed_all (g.F.Field.size c.args.f.now) (g.F.Field.num c.args.f.now c.args.c) c.args.first.now c.args.second.now
    c.loop-first_left.first_left.now c.loop-first_left.second_left.now c.loop-first_left.sum.items
    (omega (arith, two)) (search rules) (search rules) c.loop-first_left.invariant
