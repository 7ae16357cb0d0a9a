use Rattle.std.proofs.Common.{◌∙◌, w64, FitsSigned, rules, arith}
use Rattle.std.proofs.lemmas.Int.{to_z-of_z}
use Rattle.bmp_report.specs.CompareText.{comparison_of}
use Rattle.bmp_report.proofs.CompareLemmas.{lines_on}
use Rattle.bmp_report.proofs.compare.push_vertex.Goals as goal

pub degrees-preserved : goal.degrees-preserved
degrees-preserved c =
    let fits : FitsSigned w64 c.polynomial_at.result = search rules in
    lines_on (comparison_of c.args.r.now c.args.table.now) c.args.x c.degrees.d c.degrees.out.items _
    (omega (arith, c.degrees-test.true, c.degree-bound.ensures.bound)) c.count.ensures
    (to_z-of_z w64 c.polynomial_at.result fits ∙ c.polynomial_at.ensures) c.in_ok-push_difference.ensures
    c.degrees.invariant
