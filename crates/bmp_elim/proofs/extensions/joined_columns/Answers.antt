use Rattle.std.proofs.Common.{◌≤◌, arith}
use Rattle.bmp_linear.proofs.RowChangeLemmas.{numbers_below-pushed}
use Rattle.bmp_elim.proofs.JoinedLemmas.{joined_more}
use Rattle.bmp_elim.proofs.extensions.joined_columns.Goals as goal

pub loop-column-preserved : goal.loop-column-preserved
loop-column-preserved g c =
    let two : 2 ≤ g.F.Field.size c.args.f.now = g.met.F.Field.laws.at_least_two c.args.f.now in
    record {
      joined = joined_more (g.F.Field.size c.args.f.now) c.loop-column.column (g.A.Rows.matrix c.args.span.now)
          (g.A.Rows.matrix c.args.vectors.now) (g.A.Rows.matrix c.loop-column.columns)
          (g.A.Rows.matrix c.push_row.new.self) c.in_ok-joined.joined c.loop-column.invariant.joined
          c.in_ok-joined.ensures c.in_ok-push_row.ensures.ok;
      numbers = numbers_below-pushed (g.F.Field.size c.args.f.now) (g.A.Rows.matrix c.loop-column.columns)
          (g.A.Rows.matrix c.push_row.new.self) c.in_ok-joined.joined (omega arith) c.loop-column.invariant.numbers
          c.in_ok-joined.ensures.below c.in_ok-push_row.ensures.ok;
    }
