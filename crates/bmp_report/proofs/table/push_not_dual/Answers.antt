use Rattle.std.proofs.Common.{◌∙◌, w32, FitsSigned, rules}
use Rattle.std.proofs.lemmas.Int.{to_z-of_z}
use Rattle.std.specs.Int.{w128}
use Rattle.bmp_report.proofs.TableLemmas.{not_dual_printed}
use Rattle.bmp_report.proofs.table.push_not_dual.Goals as goal

pub returns : goal.returns
returns c =
    let exponent : FitsSigned w32 c.args.fault.now.exponent = search rules in
    let wide : FitsSigned w128 c.from-2.result = search rules in
    let left : FitsSigned w128 c.args.fault.now.left = search rules in
    let right : FitsSigned w128 c.args.fault.now.right = search rules in
    rw (
      c.in_ok-push.ensures.items,
      c.in_ok-push_signed-3.ensures,
      c.in_ok-push_signed-2.ensures,
      c.in_ok-push_signed.ensures,
      c.in_ok-push_numbered.ensures,
    )
    (not_dual_printed c.args.out.now.items c.args.fault.now c.from.result _ _ _ c.from.ensures
    (to_z-of_z w128 c.from-2.result wide ∙ (c.from-2.ensures ∙ to_z-of_z w32 c.args.fault.now.exponent exponent))
    (to_z-of_z w128 c.args.fault.now.left left) (to_z-of_z w128 c.args.fault.now.right right))
