use Rattle.std.proofs.Common.{◌≡◌, ℕ, ◌+◌, ◌%◌, ◌<◌, ◌≤◌, length, refl, sym, ap₂, ◌∙◌, subst, arith}
use Rattle.std.proofs.Math.Nat.{zero-mod}
use Rattle.bmp_elim.specs.FreeVectors.{IsPlacedBelow}
use Rattle.bmp_elim.proofs.PlacedLemmas.{placed_zero, placed_push}
use Rattle.bmp_elim.proofs.FreeVectorLemmas.{TakesAway, free_vector_made}
use Rattle.bmp_elim.proofs.kernels.free_vector.Goals as goal
use Rattle.bmp_elim.proofs.kernels.free_vector.Goals.{then-number-ne0+in_ok-push, else-number-ne0}

-- the negative of the row's number at the free place
pub loop-k-preserved : goal.loop-k-preserved
loop-k-preserved g c =
    let within : c.loop-k.k < length c.args.pivots.now = omega (arith, c.requires.before.within, c.loop-k-test.true) in
    let P : ℕ → ℕ → Type 0 = TakesAway (g.F.Field.size c.args.f.now) (g.A.Rows.matrix c.args.a.now) c.args.free in
    let away : P c.loop-k.k c.num-number.result =
    ap₂ (λ x y. (x + y) % g.F.Field.size c.args.f.now) (sym c.at.ensures.number) c.num-number.ensures
    ∙ c.neg.ensures.number ∙ sym (zero-mod (g.F.Field.size c.args.f.now)) in
    let small : c.num-number.result < g.F.Field.size c.args.f.now =
    rw c.num-number.ensures (g.met.F.Field.laws.below_size c.args.f.now c.neg.result c.neg.ensures.value) in
    elim c.if-number-ne0.branch [
      | then-number-ne0+in_ok-push w ↦
          rw (w.vector-is, w.in_ok-push.ensures.ok)
          (placed_push (g.F.Field.size c.args.f.now) c.args.pivots.now c.loop-k.k P c.loop-k.vector
          c.requires.echelon.rising within c.loop-k.invariant
          (record { place = w.at-then-number-ne0.result; value = c.num-number.result }) w.at-then-number-ne0.ensures
          small away)
      | else-number-ne0 w ↦
          rw w.vector-is
          (placed_zero (g.F.Field.size c.args.f.now) c.args.pivots.now c.loop-k.k P c.loop-k.vector
          c.requires.echelon.rising within c.loop-k.invariant (subst (P c.loop-k.k) w.if-number-ne0.false away))
    ]

pub returns : goal.returns
returns g c =
    let two : 2 ≤ g.F.Field.size c.args.f.now = g.met.F.Field.laws.at_least_two c.args.f.now in
    let ends : c.loop-k.k ≡ c.args.before = omega arith in
    let placed : IsPlacedBelow (g.F.Field.size c.args.f.now) c.args.pivots.now c.args.before
    (TakesAway (g.F.Field.size c.args.f.now) (g.A.Rows.matrix c.args.a.now) c.args.free) c.loop-k.vector =
    rw (← ends) c.loop-k.invariant in
    rw c.in_ok-push-2.ensures.ok
    (free_vector_made (g.F.Field.size c.args.f.now) (g.A.Rows.matrix c.args.a.now) c.args.pivots.now c.args.before
    c.args.free c.loop-k.vector (record { place = c.args.free; value = 1 }) two c.requires.echelon c.requires.before
    c.requires.free placed refl refl)
