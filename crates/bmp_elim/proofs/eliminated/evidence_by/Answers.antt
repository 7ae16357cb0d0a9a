use Rattle.std.proofs.Common.{◌≤◌, length, subst}
use Rattle.bmp_elim.specs.RowVectors.{AreRowVectors}
use Rattle.bmp_elim.specs.FreeVectors.{IsBasisBelow}
use Rattle.bmp_elim.proofs.EvidenceLemmas.{evidence_made}
use Rattle.bmp_elim.proofs.eliminated.evidence_by.Goals as goal

pub returns : goal.returns
returns g c = λ old reduced.
    let p = g.F.Field.size c.args.f.now in
    let e = c.args.e.now in
    let two : 2 ≤ p = g.met.F.Field.laws.at_least_two c.args.f.now in
    let rows : AreRowVectors p (g.A.Rows.matrix e.trace) 0 (length e.pivots) c.in_ok-combinations.combinations = rw
    (← c.len.ensures) c.in_ok-combinations.ensures in
    let basis : IsBasisBelow p (g.A.Rows.matrix e.rows) e.pivots (g.A.Rows.matrix e.rows).cols c.in_ok-basis.basis =
    subst (λ n. IsBasisBelow p (g.A.Rows.matrix e.rows) e.pivots n c.in_ok-basis.basis) c.cols.ensures
    c.in_ok-basis.ensures in
    rw c.in_ok-pivots.ensures
    (evidence_made p old (g.A.Rows.matrix e.rows) (g.A.Rows.matrix e.trace) e.pivots c.in_ok-basis.basis
    c.in_ok-combinations.combinations two reduced.trace reduced.echelon basis rows)
