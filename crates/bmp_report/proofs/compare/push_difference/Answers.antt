use Rattle.std.proofs.Common.{sym, ap, ◌∙◌, w64, FitsSigned, rules}
use Rattle.std.proofs.lemmas.Int.{to_z-of_z}
use Rattle.std.specs.Int.{w128}
use Rattle.bmp_report.specs.CompareText.{equals}
use Rattle.bmp_report.proofs.CompareLemmas.{difference_printed}
use Rattle.bmp_report.proofs.compare.push_difference.Goals as goal

pub returns : goal.returns
returns c =
    let fits : FitsSigned w64 c.args.coefficient = search rules in
    let wide : FitsSigned w128 c.from-4.result = search rules in
    rw (
      c.in_ok-push-2.ensures.items,
      c.in_ok-push_int.ensures.ok,
      c.in_ok-push.ensures.items,
      c.in_ok-push_number-2.ensures.ok,
      c.in_ok-push_number.ensures.ok,
      c.in_ok-push_numbered.ensures,
    )
    (difference_printed c.args.out.now.items c.args.x c.args.d c.args.count c.args.coefficient
    (ap (equals c.args.count) (sym (to_z-of_z w64 c.args.coefficient fits))
    ∙ (sym c.equals.ensures ∙ c.if-equals.false)) c.from.ensures
    c.from-2.ensures c.from-3.ensures
    (to_z-of_z w128 c.from-4.result wide ∙ (c.from-4.ensures ∙ to_z-of_z w64 c.args.coefficient fits)))
