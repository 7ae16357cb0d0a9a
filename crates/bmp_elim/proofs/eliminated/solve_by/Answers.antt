use Rattle.std.proofs.Common.{ℕ, ◌≤◌, length}
use Rattle.bmp_linear.specs.SparseVectors.{number_at}
use Rattle.bmp_elim.specs.Systems.{IsSolution, IsObstruction}
use Rattle.bmp_elim.specs.Images.{SaysZeroFrom, SaysOther}
use Rattle.bmp_elim.proofs.SystemLemmas.{solution_made, obstruction_made, solved, unsolved}
use Rattle.bmp_elim.proofs.eliminated.solve_by.Goals as goal

-- a late row of the trace refuses it
pub returns-in_ok-row_vector-in-Some : goal.returns-in_ok-row_vector-in-Some
returns-in_ok-row_vector-in-Some g c = λ old reduced.
    let p = g.F.Field.size c.args.f.now in
    let b : ℕ → ℕ = number_at c.args.b.now in
    let e = c.args.e.now in
    let other : SaysOther p (g.A.Rows.matrix e.trace) (length e.pivots) c.in-Some.row b = rw (← c.len.ensures)
    c.in-Some.ensures in
    let made : IsObstruction p old b c.in_ok-row_vector-in-Some.field-0 =
    obstruction_made p old (g.A.Rows.matrix e.rows) (g.A.Rows.matrix e.trace) e.pivots b c.in-Some.row
    c.in_ok-row_vector-in-Some.field-0 reduced.trace reduced.echelon other c.in_ok-row_vector-in-Some.ensures in
    record {
      found = tt;
      without = made;
      exactly = (
        (λ n. absurd n),
        unsolved p old b
            c.in_ok-row_vector-in-Some.field-0 made,
      );
    }

-- its first rows say a solution
pub returns-in_ok-pivot_vector-in-None : goal.returns-in_ok-pivot_vector-in-None
returns-in_ok-pivot_vector-in-None g c = λ old reduced.
    let p = g.F.Field.size c.args.f.now in
    let b : ℕ → ℕ = number_at c.args.b.now in
    let e = c.args.e.now in
    let two : 2 ≤ p = g.met.F.Field.laws.at_least_two c.args.f.now in
    let late : SaysZeroFrom p (g.A.Rows.matrix e.trace) (length e.pivots) (g.A.Rows.matrix e.trace).rows b = rw (←
    c.len.ensures) c.in-None.ensures in
    let made : IsSolution p old b c.in_ok-pivot_vector-in-None.field-0 =
    solution_made p old (g.A.Rows.matrix e.rows) (g.A.Rows.matrix e.trace) e.pivots b
    c.in_ok-pivot_vector-in-None.field-0 two reduced.trace reduced.echelon late
    c.in_ok-pivot_vector-in-None.ensures in
    record {
      found = made;
      without = tt;
      exactly = (
        (λ n. solved p old b c.in_ok-pivot_vector-in-None.field-0
            made),
        (λ n. tt),
      );
    }
