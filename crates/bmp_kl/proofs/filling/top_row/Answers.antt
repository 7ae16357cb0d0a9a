use Rattle.std.proofs.Common.{◌≡◌, ◌+◌, ◌∙◌, arith, refl, rules, ap, set, get_or, pos, ℕ}
use Rattle.std.specs.Prelude.{FitsSigned}
use Rattle.std.proofs.lemmas.Int.{to_z-of_z}
use mir.Syntax.{w128}
use mir.Val.{to_z, of_z}
use Rattle.bmp_kl.proofs.CopyLemmas.{copied_none, copied_next}
use Rattle.bmp_kl.proofs.filling.top_row.Invariants.{tops_of}
use Rattle.bmp_kl.proofs.filling.top_row.Goals as goal

pub loop-a-init : goal.loop-a-init
loop-a-init c = copied_none 0 (tops_of c.args.count c.args.sums.now c.args.x) c.args.tops.now

pub loop-a-preserved : goal.loop-a-preserved
loop-a-preserved c =
    let fits : FitsSigned w128 c.top_at.result = search rules in
    copied_next 0 c.loop-a.a (tops_of c.args.count c.args.sums.now c.args.x) c.args.tops.now c.loop-a.tops _ _
    c.loop-a.invariant
    (ap (λ i. set c.loop-a.tops i (to_z w128 (of_z w128 c.top_at.result)))
    (let same : c.loop-a.a ≡ 0 + c.loop-a.a = omega arith in same))
    (omega (arith, c.requires.long)) (to_z-of_z w128 c.top_at.result fits ∙ c.top_at.ensures)

pub returns-clause-long : goal.returns-clause-long
returns-clause-long c = c.loop-a.invariant.as_long ∙ c.requires.long

pub returns-clause-tops : goal.returns-clause-tops
returns-clause-tops c a l =
    ap (λ i. get_or c.loop-a.tops i (pos 0)) (let same : a ≡ 0 + a = omega arith in same)
    ∙ c.loop-a.invariant.copied a (omega arith)
