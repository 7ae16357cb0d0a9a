use Rattle.std.proofs.Common.{◌≡◌, ◌+◌, ◌*◌, arith, refl, rules, get_or, pos, sym, subst, ℕ, ℤ}
use Rattle.std.specs.Prelude.{FitsSigned}
use Rattle.std.proofs.lemmas.Int.{to_z-of_z}
use mir.Syntax.{w128}
use Rattle.bmp_kl.proofs.CopyLemmas.{IsCopied, copied_none, copied_next, row_kept}
use Rattle.bmp_kl.proofs.filling.store.Invariants.{shifted}
use Rattle.bmp_kl.proofs.filling.store.Goals as goal

pub loop-i-init : goal.loop-i-init
loop-i-init c = copied_none (c.args.x * 73) (shifted c.args.row.now) c.args.sums.now

pub loop-i-preserved : goal.loop-i-preserved
loop-i-preserved c =
    let fits : FitsSigned w128 (get_or c.args.row.now (c.loop-i.i + 36) (pos 0)) = search rules in
    copied_next (c.args.x * 73) c.loop-i.i (shifted c.args.row.now) c.args.sums.now c.loop-i.sums _ _ c.loop-i.invariant
    refl
    (omega (arith, c.requires.inside)) (to_z-of_z w128 (get_or c.args.row.now (c.loop-i.i + 36) (pos 0)) fits)

pub returns-clause-as_long : goal.returns-clause-as_long
returns-clause-as_long c = c.loop-i.invariant.as_long

pub returns-clause-here : goal.returns-clause-here
returns-clause-here c i l = c.loop-i.invariant.copied i (omega arith)

pub returns-clause-others : goal.returns-clause-others
returns-clause-others c y i l off =
    row_kept c.args.x y i (shifted c.args.row.now) c.args.sums.now c.loop-i.sums
    (subst (λ n. IsCopied (c.args.x * 73) n (shifted c.args.row.now) c.args.sums.now c.loop-i.sums) (omega arith)
    c.loop-i.invariant) l off
