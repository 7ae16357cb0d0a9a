use Rattle.std.proofs.Common.{slice_index, arith}
use Rattle.bmp_elim.proofs.StepLemmas.{cleared_spread}
use Rattle.bmp_elim.proofs.eliminate.clear_column.Goals as goal

pub returns-clause-cleared : goal.returns-clause-cleared
returns-clause-cleared g c =
    let two = g.met.F.Field.laws.at_least_two c.args.f.now in
    cleared_spread _ c.args.col c.args.pivot (slice_index c.read_factors.new.factors) (g.A.Rows.matrix c.args.a.now) _
    (g.T.Rows.matrix c.args.t.now) _ (omega (arith, two)) c.requires.column c.requires.row c.requires.numbers
    c.requires.other_numbers c.requires.one c.read_factors.ensures.away c.in_ok-add_to_rows.ensures.ok
    c.in_ok-add_alike.ensures.ok
