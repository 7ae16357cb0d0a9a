use Rattle.std.proofs.Common.{◌+◌, ◌∙◌, List, refl, sym, ap, subst}
use Rattle.bmp_linear.specs.declared.vector.Entry.{Entry}
use Rattle.bmp_linear.specs.RowTables.{entries_of}
use Rattle.bmp_linear.proofs.GatherLemmas.{IsGathered, gathered_zero, gathered_push}
use Rattle.bmp_linear.proofs.entry_sums.entries_in.Goals as goal
use Rattle.bmp_linear.proofs.entry_sums.entries_in.Goals.{then-value-ne0+in_ok-push, else-value-ne0}

-- a number that isn't 0 is pushed, and 0 is left out
pub loop-place-preserved : goal.loop-place-preserved
loop-place-preserved c =
    let made : List Entry → Type 0 = λ v. IsGathered c.args.numbers.now (c.loop-place.place + 1) v in
    elim c.if-value-ne0.branch [
      | then-value-ne0+in_ok-push w ↦
          subst made (sym (ap entries_of w.entries-is ∙ w.in_ok-push.ensures.ok))
          (gathered_push c.args.numbers.now c.loop-place.place c.loop-place.entries.items c.loop-place.invariant _ refl
          refl w.if-value-ne0.true)
      | else-value-ne0 w ↦
          subst made (sym (ap entries_of w.entries-is))
          (gathered_zero c.args.numbers.now c.loop-place.place c.loop-place.entries.items c.loop-place.invariant
          w.if-value-ne0.false)
    ]
