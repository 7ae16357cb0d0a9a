use Rattle.std.proofs.Common.{◌<◌, List, ℕ, refl, sym, subst, true≢false}
use Rattle.std.specs.List.{All}
use Rattle.std.specs.List.Sorted.{IsStrictlyIncreasing}
use Rattle.bmp_linear.proofs.ShapeLemmas.{rises_all, too_low, too_high}
use Rattle.bmp_linear.proofs.evidence.rise_below.Goals as goal
use Rattle.bmp_linear.proofs.evidence.rise_below.Goals.{then-place-least-via-then-place-least, then-place-least-via-else-place-least+then-place-n}

RisesBelow : ℕ → List ℕ → Type 0
RisesBelow n ps = IsStrictlyIncreasing ps × All (λ q. q < n) ps

pub returns-then-place-least : goal.returns-then-place-least
unfolding RisesBelow
returns-then-place-least c = (
  λ h. absurd (true≢false (sym h)),
  λ rises.
      let read = subst (RisesBelow c.args.n) (sym c.as_slice-place-items.ensures.items) rises in
      absurd (elim c.then-place-least.branch [
        | then-place-least-via-then-place-least w ↦
            too_low c.as_slice-place-items.result.now c.args.n c.loop-place.place-index c.loop-place.least
            c.loop-place-test.true c.loop-place.invariant w.if-place-least.true read
        | then-place-least-via-else-place-least+then-place-n w ↦
            too_high c.as_slice-place-items.result.now c.args.n c.loop-place.place-index c.loop-place-test.true
            w.if-place-n.true read
      ]),
)

pub returns : goal.returns
unfolding RisesBelow
returns c = (
  λ h. subst (RisesBelow c.args.n) c.as_slice-place-items.ensures.items
      (rises_all c.as_slice-place-items.result.now c.args.n c.loop-place.place-index c.loop-place.least
      c.loop-place-test.false c.loop-place.invariant),
  λ rises. refl,
)
