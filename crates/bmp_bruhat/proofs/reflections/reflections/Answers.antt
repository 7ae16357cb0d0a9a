use Rattle.std.proofs.Common.{◌≡◌, length, arith, subst}
use Rattle.bmp_roots.specs.RootSystems.{positives}
use Rattle.bmp_bruhat.specs.Building.{HasReflections}
use Rattle.bmp_bruhat.proofs.ReflectionLemmas.{HasReflections-more}
use Rattle.bmp_bruhat.proofs.reflections.reflections.Goals as goal

pub loop-i-preserved : goal.loop-i-preserved
loop-i-preserved c =
    HasReflections-more c.args.roots.now c.loop-i.i c.loop-i.reflections.items _ c.reflection.result c.loop-i.invariant
    c.reflection.ensures.reflection c.in_ok-push.ensures.items

pub returns : goal.returns
returns c =
    let all : c.loop-i.i ≡ length (positives c.args.roots.now) = omega (arith, c.positive-i-end.ensures.value) in
    subst (λ n. HasReflections c.args.roots.now n c.loop-i.reflections.items) all c.loop-i.invariant
