use Rattle.std.proofs.Common.{arith, rules, refl, length}
use Rattle.bmp_elim.specs.Steps.{IsFound, IsZeroFrom, IsColumnCleared}
use Rattle.bmp_elim.proofs.StepLemmas.{column_with, column_without, eliminated_start}
use Rattle.bmp_elim.proofs.eliminate.eliminate_in.Goals as goal
use Rattle.bmp_elim.proofs.eliminate.eliminate_in.Goals.{in-Some+in_ok-make_pivot+in_ok-push, in_default}

pub loop-col-init : goal.loop-col-init
loop-col-init g c = (
  refl,
  rw c.new-pivots.ensures
      (eliminated_start (g.F.Field.size c.args.f.now) (g.A.Rows.matrix c.args.a.now) (g.T.Rows.matrix c.args.t.now)
      c.requires.numbers c.requires.other_numbers c.requires.height),
)

-- a column ends with a pivot or without
pub loop-col-preserved : goal.loop-col-preserved
loop-col-preserved g c =
    elim c.match-find_row.branch [
      | in-Some+in_ok-make_pivot+in_ok-push w ↦
          let found : IsFound (g.A.Rows.matrix c.loop-col.a) (length c.loop-col.pivots) w.in-Some.row c.loop-col.col =
          rw (← c.len-count.ensures) w.in-Some.ensures in
          let cleared : IsColumnCleared (g.F.Field.size c.args.f.now) c.loop-col.col (length c.loop-col.pivots)
          (g.A.Rows.matrix c.loop-col.a).rows (g.A.Rows.matrix c.loop-col.a) (g.A.Rows.matrix w.make_pivot.new.a)
          (g.T.Rows.matrix c.loop-col.t) (g.T.Rows.matrix w.make_pivot.new.t) =
          rw (← c.len-count.ensures) w.in_ok-make_pivot.ensures.cleared in (
            search rules,
            rw (w.a-is, w.t-is, w.pivots-is, w.in_ok-push.ensures.ok)
                (column_with (g.F.Field.size c.args.f.now) c.loop-col.col (g.A.Rows.matrix c.args.a.now)
                (g.A.Rows.matrix c.loop-col.a) (g.T.Rows.matrix c.args.t.now) (g.T.Rows.matrix c.loop-col.t)
                c.loop-col.pivots c.loop-col.invariant.1 (g.A.Rows.matrix w.make_pivot.new.a)
                (g.T.Rows.matrix w.make_pivot.new.t) (omega (arith, found.late, found.within)) cleared),
          )
      | in_default w ↦
          let zeros : IsZeroFrom (g.A.Rows.matrix c.loop-col.a) (length c.loop-col.pivots)
          (g.A.Rows.matrix c.loop-col.a).rows c.loop-col.col = rw (← c.len-count.ensures) w.in_default.ensures in (
            search rules,
            rw (w.a-is, w.t-is, w.pivots-is)
                (column_without (g.F.Field.size c.args.f.now) c.loop-col.col (g.A.Rows.matrix c.args.a.now)
                (g.A.Rows.matrix c.loop-col.a) (g.T.Rows.matrix c.args.t.now) (g.T.Rows.matrix c.loop-col.t)
                c.loop-col.pivots c.loop-col.invariant.1 zeros),
          )
    ]
