use Rattle.std.proofs.Common.{◌<◌, ◌∙◌, slice_index, subst, arith}
use Rattle.bmp_linear.specs.RowChanges.{IsRowAdded}
use Rattle.bmp_linear.proofs.MultipleLemmas.{multiples_more, multiples_skip}
use Rattle.bmp_linear.proofs.rows.RowSpace.add_to_rows.Goals as goal
use Rattle.bmp_linear.proofs.rows.RowSpace.add_to_rows.Goals.{then-i-from+then-c-ne0+in_ok-add_row, else-i-from, else-i-from-via-then-i-from+else-c-ne0, else-i-from-via-else-i-from}

-- one row more: its multiple is added, or nothing is to be
pub loop-i-preserved : goal.loop-i-preserved
loop-i-preserved g c =
    let p = g.F.Field.size c.args.f.now in
    let old = g.Self.Rows.matrix c.args.self.now in
    let mid = g.Self.Rows.matrix c.loop-i.self in
    let factors = slice_index c.args.factors.now in
    let row : c.loop-i.i < (g.Self.Rows.matrix c.args.self.now).rows =
    omega (arith, c.rows-i-end.ensures, c.loop-i-test.true) in
    elim c.if-i-from.branch [
      | then-i-from+then-c-ne0+in_ok-add_row w ↦
          rw w.self-is
          (multiples_more c.loop-i.i p old mid c.args.from factors c.loop-i.invariant
          (g.Self.Rows.matrix w.add_row.new.self) row c.requires.from w.if-i-from.true
          (subst (λ n. IsRowAdded p mid (g.Self.Rows.matrix w.add_row.new.self) c.loop-i.i c.args.from n)
          (w.from_num.ensures.number ∙ w.from.ensures) w.in_ok-add_row.ensures.ok))
      | else-i-from w ↦
          rw w.self-is
          (multiples_skip c.loop-i.i p old mid c.args.from factors c.loop-i.invariant c.requires.numbers row
          (elim w.else-i-from.branch [
            | else-i-from-via-then-i-from+else-c-ne0 v ↦ λ other. v.if-c-ne0.false
            | else-i-from-via-else-i-from v ↦ λ other. absurd (other v.if-i-from.false)
          ]))
    ]
