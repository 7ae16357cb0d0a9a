use Rattle.std.proofs.Common.{◌≡◌, ℕ, ◌+◌, ◌-◌, ◌≤◌, get_or, subst, arith}
use Rattle.bmp_elim.specs.FreeVectors.{IsCountBelow}
use Rattle.bmp_elim.proofs.KeptColumnLemmas.{rising_at_least}
use Rattle.bmp_elim.proofs.columns.reduced_columns.Goals as goal

pub kept_pivots-requires : goal.kept_pivots-requires
kept_pivots-requires g c = λ k late inside.
    let ps = c.in_ok-eliminated.eliminated.pivots in
    let start : ℕ = c.count_below-start.result in
    let counted : IsCountBelow ps c.args.split start = c.count_below-start.ensures in
    let back : start + (k - start) ≡ k = omega (arith, late) in
    let above : c.args.split + (k - start) ≤ get_or ps (start + (k - start)) 0 =
    rising_at_least ps start c.args.split c.in_ok-eliminated.ensures.echelon.rising
    (λ l. let none : start ≤ start = omega arith in
    counted.late start none l) (k - start) (omega (arith, inside, back)) in
    subst (λ z. c.args.split + (k - start) ≤ get_or ps z 0) back above
