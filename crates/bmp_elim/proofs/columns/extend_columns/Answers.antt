use Rattle.std.proofs.Common.{◌≤◌, length}
use Rattle.bmp_elim.specs.RowVectors.{AreRowVectors}
use Rattle.bmp_elim.proofs.KeptColumnLemmas.{IsKeptFrom, kept_increasing, columns_made, duals_made, sums_made_over}
use Rattle.bmp_elim.proofs.KeptKernelLemmas.{kernel_made}
use Rattle.bmp_elim.proofs.columns.extend_columns.Goals as goal

pub placed_columns-requires-clause-rise : goal.placed_columns-requires-clause-rise
placed_columns-requires-clause-rise g c =
    let r = c.in_ok-r.r in
    let h : IsKeptFrom (g.F.Field.size c.args.f.now) (g.A.Rows.matrix c.args.columns)
    (g.A.Rows.matrix r.eliminated.rows)
    (g.A.Rows.matrix r.eliminated.trace) r.eliminated.pivots c.args.split r.start r.chosen r.kept =
    record { reduced = c.in_ok-r.ensures.reduced; within = c.requires.split; choice = c.in_ok-r.ensures.choice } in
    kept_increasing h

pub returns-clause-chosen : goal.returns-clause-chosen
returns-clause-chosen g c =
    let r = c.in_ok-r.r in
    let h : IsKeptFrom (g.F.Field.size c.args.f.now) (g.A.Rows.matrix c.args.columns)
    (g.A.Rows.matrix r.eliminated.rows)
    (g.A.Rows.matrix r.eliminated.trace) r.eliminated.pivots c.args.split r.start r.chosen r.kept =
    record { reduced = c.in_ok-r.ensures.reduced; within = c.requires.split; choice = c.in_ok-r.ensures.choice } in
    columns_made h

pub returns-clause-duals : goal.returns-clause-duals
returns-clause-duals g c =
    let r = c.in_ok-r.r in
    let h : IsKeptFrom (g.F.Field.size c.args.f.now) (g.A.Rows.matrix c.args.columns)
    (g.A.Rows.matrix r.eliminated.rows)
    (g.A.Rows.matrix r.eliminated.trace) r.eliminated.pivots c.args.split r.start r.chosen r.kept =
    record { reduced = c.in_ok-r.ensures.reduced; within = c.requires.split; choice = c.in_ok-r.ensures.choice } in
    let rows : AreRowVectors (g.F.Field.size c.args.f.now) (g.A.Rows.matrix r.eliminated.trace) r.start
    (length r.eliminated.pivots)
    c.in_ok-duals.duals = rw (← c.len-count.ensures) c.in_ok-duals.ensures in
    duals_made h c.in_ok-duals.duals rows

pub returns-clause-sums : goal.returns-clause-sums
returns-clause-sums g c =
    let r = c.in_ok-r.r in
    let two : 2 ≤ g.F.Field.size c.args.f.now = g.met.F.Field.laws.at_least_two c.args.f.now in
    let h : IsKeptFrom (g.F.Field.size c.args.f.now) (g.A.Rows.matrix c.args.columns)
    (g.A.Rows.matrix r.eliminated.rows)
    (g.A.Rows.matrix r.eliminated.trace) r.eliminated.pivots c.args.split r.start r.chosen r.kept =
    record { reduced = c.in_ok-r.ensures.reduced; within = c.requires.split; choice = c.in_ok-r.ensures.choice } in
    sums_made_over c.in_ok-sums.sums two h c.in_ok-sums.ensures

pub returns-clause-kernel : goal.returns-clause-kernel
returns-clause-kernel g c =
    let r = c.in_ok-r.r in
    let two : 2 ≤ g.F.Field.size c.args.f.now = g.met.F.Field.laws.at_least_two c.args.f.now in
    let h : IsKeptFrom (g.F.Field.size c.args.f.now) (g.A.Rows.matrix c.args.columns)
    (g.A.Rows.matrix r.eliminated.rows)
    (g.A.Rows.matrix r.eliminated.trace) r.eliminated.pivots c.args.split r.start r.chosen r.kept =
    record { reduced = c.in_ok-r.ensures.reduced; within = c.requires.split; choice = c.in_ok-r.ensures.choice } in
    let rows : AreRowVectors (g.F.Field.size c.args.f.now) (g.A.Rows.matrix r.eliminated.trace) 0
    (length r.eliminated.pivots)
    c.in_ok-combinations.combinations = rw (← c.len-count.ensures) c.in_ok-combinations.ensures in
    kernel_made h c.in_ok-basis.basis c.in_ok-combinations.combinations two c.in_ok-basis.ensures rows
