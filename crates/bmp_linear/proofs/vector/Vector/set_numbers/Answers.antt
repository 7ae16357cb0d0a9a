use Rattle.std.proofs.Common.{refl}
use Rattle.bmp_linear.proofs.GatherLemmas.{gathered_zero, gathered_push}
use Rattle.bmp_linear.proofs.vector.Vector.set_numbers.Goals as goal
use Rattle.bmp_linear.proofs.vector.Vector.set_numbers.Goals.{then-value-ne0+in_ok-push, else-value-ne0}

-- a number that isn't 0 is pushed, and 0 is left out
pub loop-place-preserved : goal.loop-place-preserved
loop-place-preserved c =
    elim c.if-value-ne0.branch [
      | then-value-ne0+in_ok-push w ↦
          rw (w.self-is, w.in_ok-push.ensures.ok)
          (gathered_push c.args.numbers.now c.loop-place.place c.loop-place.self c.loop-place.invariant _ refl refl
          w.if-value-ne0.true)
      | else-value-ne0 w ↦
          rw w.self-is
          (gathered_zero c.args.numbers.now c.loop-place.place c.loop-place.self c.loop-place.invariant
          w.if-value-ne0.false)
    ]
