use Rattle.std.proofs.Common.{ℕ, ◌<◌, length, sym, ◌∙◌, subst, arith}
use Rattle.bmp_linear.specs.SparseVectors.{FitsBelow, number_at}
use Rattle.bmp_elim.specs.Images.{IsImage}
use Rattle.bmp_elim.proofs.PlacedLemmas.{rising_from, placed_fits, placed_zero, placed_push}
use Rattle.bmp_elim.proofs.systems.pivot_vector.Goals as goal
use Rattle.bmp_elim.proofs.systems.pivot_vector.Goals.{then-number-ne0+in_ok-push, else-number-ne0}

pub push-requires-clause-after : goal.push-requires-clause-after
push-requires-clause-after g c =
    let within : c.loop-k.k < length c.args.pivots.now = omega (arith, c.len-k-end.ensures, c.loop-k-test.true) in
    subst (λ n. FitsBelow c.loop-k.x n) (sym c.at.ensures)
    (placed_fits (g.F.Field.size c.args.f.now) c.args.pivots.now c.loop-k.k
    (IsImage (g.F.Field.size c.args.f.now) (g.A.Rows.matrix c.args.t.now) (number_at c.args.b.now)) c.loop-k.x
    (rising_from c.args.pivots.now c.requires.rise) within c.loop-k.invariant)

-- what the row says of b
pub loop-k-preserved : goal.loop-k-preserved
loop-k-preserved g c =
    let within : c.loop-k.k < length c.args.pivots.now = omega (arith, c.len-k-end.ensures, c.loop-k-test.true) in
    let P : ℕ → ℕ → Type 0 =
    IsImage (g.F.Field.size c.args.f.now) (g.A.Rows.matrix c.args.t.now) (number_at c.args.b.now) in
    let says : P c.loop-k.k c.num-number.result = c.num-number.ensures ∙ c.value_at.ensures.number in
    let small : c.num-number.result < g.F.Field.size c.args.f.now =
    rw c.num-number.ensures
    (g.met.F.Field.laws.below_size c.args.f.now c.value_at.result c.value_at.ensures.value) in
    elim c.if-number-ne0.branch [
      | then-number-ne0+in_ok-push w ↦
          rw (w.x-is, w.in_ok-push.ensures.ok)
          (placed_push (g.F.Field.size c.args.f.now) c.args.pivots.now c.loop-k.k P c.loop-k.x
          (rising_from c.args.pivots.now c.requires.rise) within c.loop-k.invariant
          (record { place = w.at.result; value = c.num-number.result }) w.at.ensures small says)
      | else-number-ne0 w ↦
          rw w.x-is
          (placed_zero (g.F.Field.size c.args.f.now) c.args.pivots.now c.loop-k.k P c.loop-k.x
          (rising_from c.args.pivots.now c.requires.rise) within c.loop-k.invariant
          (subst (P c.loop-k.k) w.if-number-ne0.false says))
    ]
