use Rattle.std.proofs.Common.{◌≡◌, ◌+◌, arith, refl, ap₂}
use Rattle.bmp_kl.specs.BarRows.{behind}
use Rattle.bmp_kl.proofs.RowLemmas.{read, pair_none, pair_next, pair_carried}
use Rattle.bmp_kl.proofs.rows.step_pair.Goals as goal

pub loop-j-init : goal.loop-j-init
loop-j-init c = (pair_none c.args.low c.args.high c.args.values.now.items, refl)

pub loop-j-preserved : goal.loop-j-preserved
loop-j-preserved c =
    let here : c.index-here.result.now ≡ behind c.loop-j.values.items c.args.low c.loop-j.j =
    read c.loop-j.values.items (c.args.low + c.loop-j.j) _ 0 c.index-here.ensures
    (omega (arith, c.loop-j.invariant.0.as_long)) in
    let there : c.index-there.result.now ≡ behind c.loop-j.values.items c.args.high c.loop-j.j =
    read c.loop-j.values.items (c.args.high + c.loop-j.j) _ 0 c.index-there.ensures
    (omega (arith, c.loop-j.invariant.0.as_long)) in (
      pair_next c.args.low c.args.high c.loop-j.j c.args.values.now.items c.loop-j.values.items _ _ _
          c.loop-j.invariant.0 refl
          c.requires.apart (omega arith) c.requires.inside (ap₂ (λ a b. a + b) here c.loop-j.invariant.1) here,
      pair_carried c.args.low c.args.high c.loop-j.j c.args.values.now.items c.loop-j.values.items _
          c.loop-j.invariant.0 there
          c.requires.apart (omega arith),
    )
