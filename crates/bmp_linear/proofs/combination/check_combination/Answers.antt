use Rattle.bmp_linear.proofs.FaultLemmas.{on_ok}
use Rattle.bmp_linear.proofs.RowCheckLemmas.{combination_holds}
use Rattle.bmp_linear.proofs.combination.check_combination.Goals as goal

pub returns-clause-combined : goal.returns-clause-combined
returns-clause-combined g c =
    on_ok c.check_columns.result _ _
    (combination_holds (g.F.Field.size c.args.f.now) (g.A.Rows.matrix c.args.a.now) c.args.c.now c.args.target.now)
    c.check_columns.ensures.ok
