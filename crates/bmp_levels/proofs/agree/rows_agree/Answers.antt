use Rattle.std.proofs.Common.{arith}
use Rattle.bmp_levels.specs.Runs.{run_value}
use Rattle.bmp_levels.proofs.AgreementLemmas.{rows_same}
use Rattle.bmp_levels.proofs.agree.rows_agree.Goals as goal

pub returns-clause-agree : goal.returns-clause-agree
returns-clause-agree c = λ all j inside.
    let first = c.clear.ensures.sums in
    let second = c.add_row-most.ensures.sums in
    let third = c.add_row.ensures.sums in
    rows_same c.args.p c.args.lower.now c.args.upper.now (run_value c.args.low.now j) (run_value c.args.high.now j) _ _
    _
    c.requires.lower (c.clear.ensures.zeros j (omega (arith, inside, first)))
    (c.add_row-most.ensures.added j (omega (arith, inside, first)))
    (c.add_row.ensures.added j (omega (arith, inside, first, second)))
    (c.are_multiples.ensures all j (omega (arith, inside, first, second, third)))
