use Rattle.bmp_elim.proofs.StepLemmas.{pivot_made}
use Rattle.bmp_elim.proofs.eliminate.make_pivot.Goals as goal

pub returns-clause-cleared : goal.returns-clause-cleared
returns-clause-cleared g c =
    pivot_made _ c.args.col c.args.pivot c.args.row _ _ (g.A.Rows.matrix c.args.a.now)
    (g.A.Rows.matrix c.swap_rows.new.self) (g.A.Rows.matrix c.scale_row.new.self) _ (g.T.Rows.matrix c.args.t.now)
    (g.T.Rows.matrix c.swap_rows-2.new.self) (g.T.Rows.matrix c.scale_row-2.new.self) _
    (g.met.F.Field.laws.at_least_two c.args.f.now) c.requires.column c.requires.numbers c.requires.other_numbers
    c.requires.height c.requires.found c.swap_rows.ensures.exchanged c.swap_rows-2.ensures.exchanged
    c.at.ensures.number c.inv-c.ensures.number c.scale_row.ensures.multiplied c.scale_row-2.ensures.multiplied
    c.in_ok-clear_column.ensures.cleared
