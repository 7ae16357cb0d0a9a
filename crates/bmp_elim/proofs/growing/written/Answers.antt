use Rattle.std.proofs.Common.{◌≡◌, ◌≤◌, length, arith}
use Rattle.bmp_linear.specs.SparseVectors.{number_at}
use Rattle.bmp_linear.proofs.SparseLemmas.{number_at-below}
use Rattle.bmp_elim.specs.GrowingBases.{IsRemainder, IsNegated}
use Rattle.bmp_elim.specs.Triangles.{square_of}
use Rattle.bmp_elim.proofs.GrowthLemmas.{remainder_as}
use Rattle.bmp_elim.proofs.GrownLemmas.{pushed_made, nothing_left, written_by_chosen, writes_made}
use Rattle.bmp_elim.proofs.growing.written.Goals as goal

pub reduce_row-requires-clause-row : goal.reduce_row-requires-clause-row
reduce_row-requires-clause-row g c =
    let two : 2 ≤ g.F.Field.size c.args.f.now = g.met.F.Field.laws.at_least_two c.args.f.now in
    record {
      room = omega (arith, c.requires.width, c.spread.auto.into);
      below = λ j l. rw (c.spread.ensures j (omega (arith, c.requires.width, c.spread.auto.into, l)))
          (number_at-below c.args.row.now _ j (omega arith) c.requires.values);
    }

-- something is left
pub returns-in-Some : goal.returns-in-Some
returns-in-Some g c = λ old h made.
    let left : IsRemainder (g.F.Field.size c.args.f.now) (length c.args.basis.now.pivots)
    (g.A.Rows.matrix c.args.basis.now.rows) (square_of c.args.basis.now.trace) c.args.basis.now.pivots
    (number_at c.args.row.now) c.reduce_row.new.numbers c.reduce_row.new.factors =
    remainder_as (λ j l. c.spread.ensures j (omega (arith, c.requires.width, c.spread.auto.into, l)))
    c.reduce_row.ensures in
    c.in-Some.ensures.not_zero (nothing_left h left made _ (omega (
      arith,
      c.requires.width,
      c.spread.auto.into,
      c.reduce_row.auto.numbers,
      c.in-Some.ensures.within,
    )))

-- nothing is left
pub returns-in_ok-vector-in-None : goal.returns-in_ok-vector-in-None
returns-in_ok-vector-in-None g c = λ old h.
    let p = g.F.Field.size c.args.f.now in
    let two : 2 ≤ p = g.met.F.Field.laws.at_least_two c.args.f.now in
    let wide : length c.reduce_row.new.numbers ≡ (g.A.Rows.matrix c.args.basis.now.rows).cols = omega (
      arith,
      c.requires.width,
      c.spread.auto.into,
      c.reduce_row.auto.numbers,
    ) in
    let left : IsRemainder p (length c.args.basis.now.pivots) (g.A.Rows.matrix c.args.basis.now.rows)
    (square_of c.args.basis.now.trace) c.args.basis.now.pivots (number_at c.args.row.now)
    c.reduce_row.new.numbers c.reduce_row.new.factors =
    remainder_as (λ j l. c.spread.ensures j (omega (arith, c.requires.width, c.spread.auto.into, l)))
    c.reduce_row.ensures in
    let negated : IsNegated p (length c.args.basis.now.chosen) c.reduce_row.new.factors c.in_ok-vector-in-None.vector =
    rw (←
    c.len.ensures) c.in_ok-vector-in-None.ensures in
    writes_made
    (written_by_chosen two h (pushed_made old (number_at c.args.row.now)) left c.in-None.ensures wide) negated
