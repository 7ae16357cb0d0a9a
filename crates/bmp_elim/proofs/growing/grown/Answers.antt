use Rattle.std.proofs.Common.{◌≡◌, ◌-◌, ◌*◌, ◌<◌, ◌≤◌, length, get_or, refl, sym, ◌∙◌, arith}
use Rattle.bmp_linear.specs.SparseVectors.{number_at}
use Rattle.bmp_linear.proofs.SparseLemmas.{number_at-below}
use Rattle.bmp_elim.specs.GrowingBases.{IsRemainder}
use Rattle.bmp_elim.specs.Triangles.{square_of}
use Rattle.bmp_elim.proofs.GrowthLemmas.{remainder_as}
use Rattle.bmp_elim.proofs.GrownLemmas.{longer, pushed_made, grown_kept, grown_more, nothing_left, written_by_chosen}
use Rattle.bmp_elim.proofs.growing.grown.Goals as goal

pub reduce_row-requires-clause-row : goal.reduce_row-requires-clause-row
reduce_row-requires-clause-row g c =
    let two : 2 ≤ g.F.Field.size c.args.f.now = g.met.F.Field.laws.at_least_two c.args.f.now in
    record {
      room = omega (arith, c.requires.width, c.spread.auto.into);
      below = λ j l. rw (c.spread.ensures j (omega (arith, c.requires.width, c.spread.auto.into, l)))
          (number_at-below c.args.row.now _ j (omega arith) c.requires.values);
    }

-- what is left is a reduced row more
pub returns-in_ok-push_pivot-in-Some-clause-grown : goal.returns-in_ok-push_pivot-in-Some-clause-grown
returns-in_ok-push_pivot-in-Some-clause-grown g c = λ old new h pushed.
    let p = g.F.Field.size c.args.f.now in
    let two : 2 ≤ p = g.met.F.Field.laws.at_least_two c.args.f.now in
    let wide : length c.reduce_row.new.numbers ≡ (g.A.Rows.matrix c.args.basis.rows).cols = omega (
      arith,
      c.requires.width,
      c.spread.auto.into,
      c.reduce_row.auto.numbers,
    ) in
    let left : IsRemainder p (length c.args.basis.pivots) (g.A.Rows.matrix c.args.basis.rows)
    (square_of c.args.basis.trace) c.args.basis.pivots (number_at c.args.row.now) c.reduce_row.new.numbers
    c.reduce_row.new.factors =
    remainder_as (λ j l. c.spread.ensures j (omega (arith, c.requires.width, c.spread.auto.into, l)))
    c.reduce_row.ensures in
    let b = c.in_ok-push_pivot-in-Some in
    rw (b.ensures.pivots, b.ensures.chosen, b.ensures.count)
    (grown_more two h pushed left c.in-Some.ensures wide b.ensures.pushed)

-- it is a combination of the reduced rows
pub returns-in-None-clause-grown : goal.returns-in-None-clause-grown
returns-in-None-clause-grown g c = λ old new h pushed.
    let p = g.F.Field.size c.args.f.now in
    let two : 2 ≤ p = g.met.F.Field.laws.at_least_two c.args.f.now in
    let wide : length c.reduce_row.new.numbers ≡ (g.A.Rows.matrix c.args.basis.rows).cols = omega (
      arith,
      c.requires.width,
      c.spread.auto.into,
      c.reduce_row.auto.numbers,
    ) in
    let left : IsRemainder p (length c.args.basis.pivots) (g.A.Rows.matrix c.args.basis.rows)
    (square_of c.args.basis.trace) c.args.basis.pivots (number_at c.args.row.now) c.reduce_row.new.numbers
    c.reduce_row.new.factors =
    remainder_as (λ j l. c.spread.ensures j (omega (arith, c.requires.width, c.spread.auto.into, l)))
    c.reduce_row.ensures in
    grown_kept two h pushed left c.in-None.ensures wide

pub returns-in_ok-push_pivot-in-Some-clause-needed : goal.returns-in_ok-push_pivot-in-Some-clause-needed
returns-in_ok-push_pivot-in-Some-clause-needed g c = λ old h.
    let p = g.F.Field.size c.args.f.now in
    let left : IsRemainder p (length c.args.basis.pivots) (g.A.Rows.matrix c.args.basis.rows)
    (square_of c.args.basis.trace) c.args.basis.pivots (number_at c.args.row.now) c.reduce_row.new.numbers
    c.reduce_row.new.factors =
    remainder_as (λ j l. c.spread.ensures j (omega (arith, c.requires.width, c.spread.auto.into, l)))
    c.reduce_row.ensures in
    let within : c.in-Some.pivot < (g.A.Rows.matrix c.args.basis.rows).cols = omega (
      arith,
      c.requires.width,
      c.spread.auto.into,
      c.reduce_row.auto.numbers,
      c.in-Some.ensures.within,
    ) in (
      (λ same. absurd (longer c.args.basis.chosen c.args.basis.count (sym c.in_ok-push_pivot-in-Some.ensures.chosen
          ∙ same))),
      (λ made. absurd (c.in-Some.ensures.not_zero (nothing_left h left made c.in-Some.pivot within))),
    )

pub returns-in-None-clause-needed : goal.returns-in-None-clause-needed
returns-in-None-clause-needed g c = λ old h.
    let p = g.F.Field.size c.args.f.now in
    let two : 2 ≤ p = g.met.F.Field.laws.at_least_two c.args.f.now in
    let wide : length c.reduce_row.new.numbers ≡ (g.A.Rows.matrix c.args.basis.rows).cols = omega (
      arith,
      c.requires.width,
      c.spread.auto.into,
      c.reduce_row.auto.numbers,
    ) in
    let left : IsRemainder p (length c.args.basis.pivots) (g.A.Rows.matrix c.args.basis.rows)
    (square_of c.args.basis.trace) c.args.basis.pivots (number_at c.args.row.now) c.reduce_row.new.numbers
    c.reduce_row.new.factors =
    remainder_as (λ j l. c.spread.ensures j (omega (arith, c.requires.width, c.spread.auto.into, l)))
    c.reduce_row.ensures in (
      (λ same. record {
        factors = λ l. (p - 1) * get_or c.reduce_row.new.factors l 0;
        sums = written_by_chosen two h (pushed_made old (number_at c.args.row.now)) left c.in-None.ensures wide;
      }),
      (λ made. refl),
    )
