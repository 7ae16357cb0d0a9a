use Rattle.bmp_linear.proofs.FreeLemmas.{marked_more, marked_all}
use Rattle.bmp_linear.proofs.kernel.mark.Goals as goal

pub loop-place-init : goal.loop-place-init
loop-place-init c = λ j l. c.clear.ensures j l

pub loop-place-preserved : goal.loop-place-preserved
loop-place-preserved c =
    marked_more c.as_slice-place-items.result.now c.loop-place.marks c.loop-place.place-index c.loop-place-test.true
    c.loop-place.invariant

pub returns : goal.returns
returns c =
    let items = c.as_slice-place-items.ensures.items in
    rw (← items) (marked_all c.as_slice-place-items.result.now c.loop-place.marks c.loop-place.place-index
    c.loop-place-test.false c.loop-place.invariant)
