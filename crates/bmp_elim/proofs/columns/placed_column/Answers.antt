use Rattle.std.proofs.Common.{ℕ, ◌<◌, length, sym, ◌∙◌, subst, arith}
use Rattle.bmp_linear.specs.SparseVectors.{FitsBelow}
use Rattle.bmp_elim.specs.KeptColumns.{IsEntryOf}
use Rattle.bmp_elim.proofs.PlacedLemmas.{rising_from, placed_fits, placed_zero, placed_push}
use Rattle.bmp_elim.proofs.columns.placed_column.Goals as goal
use Rattle.bmp_elim.proofs.columns.placed_column.Goals.{then-number-ne0+in_ok-push, else-number-ne0}

pub push-requires-clause-after : goal.push-requires-clause-after
push-requires-clause-after g c =
    let within : c.loop-k.k < length c.args.places.now = omega (arith, c.len-k-end.ensures, c.loop-k-test.true) in
    subst (λ n. FitsBelow c.loop-k.v n) (sym c.at-then-number-ne0.ensures)
    (placed_fits (g.F.Field.size c.args.f.now) c.args.places.now c.loop-k.k (IsEntryOf (g.A.Rows.matrix
    c.args.a.now) c.args.column) c.loop-k.v (rising_from c.args.places.now c.requires.rise) within
    c.loop-k.invariant)

-- the number of the row in the column
pub loop-k-preserved : goal.loop-k-preserved
loop-k-preserved g c =
    let within : c.loop-k.k < length c.args.places.now = omega (arith, c.len-k-end.ensures, c.loop-k-test.true) in
    let P : ℕ → ℕ → Type 0 = IsEntryOf (g.A.Rows.matrix c.args.a.now) c.args.column in
    let is : P c.loop-k.k c.num-number.result = c.num-number.ensures ∙ c.at.ensures.number in
    let small : c.num-number.result < g.F.Field.size c.args.f.now = rw c.num-number.ensures
    (g.met.F.Field.laws.below_size c.args.f.now c.at.result c.at.ensures.value) in
    elim c.if-number-ne0.branch [
      | then-number-ne0+in_ok-push w ↦
          rw (w.v-is, w.in_ok-push.ensures.ok)
          (placed_push (g.F.Field.size c.args.f.now) c.args.places.now c.loop-k.k P c.loop-k.v (rising_from
          c.args.places.now c.requires.rise) within c.loop-k.invariant (record {
            place =
                w.at-then-number-ne0.result;
            value = c.num-number.result;
          }) w.at-then-number-ne0.ensures small is)
      | else-number-ne0 w ↦
          rw w.v-is
          (placed_zero (g.F.Field.size c.args.f.now) c.args.places.now c.loop-k.k P c.loop-k.v (rising_from
          c.args.places.now c.requires.rise) within c.loop-k.invariant (subst (P c.loop-k.k)
          w.if-number-ne0.false is))
    ]
