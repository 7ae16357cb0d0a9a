use Rattle.std.proofs.Common.{◌∙◌, sym, subst, arith, length, ◌+◌, ◌<◌}
use Rattle.bmp_math.specs.Lists.{Member}
use Rattle.bmp_math.proofs.ListLemmas.{member_at}
use Rattle.bmp_weyl.specs.declared.elem.Elem.{Elem}
use Rattle.bmp_interval.proofs.GrowthLemmas.{growing_step}
use Rattle.bmp_interval.proofs.growth.grow.Goals as goal

pub mul-requires : goal.mul-requires
mul-requires c =
    let inside : c.loop-i.i < length c.args.set.now.keys = omega (arith, c.loop-i.invariant.1) in
    c.requires.elements c.element_at-x.result
    (subst (λ (x : Elem). Member x c.args.set.now.keys)
    (sym (c.element_at-x.ensures ∙ c.loop-i.invariant.0.place_kept c.loop-i.i c.element_at-x.result inside))
    (member_at c.args.set.now.keys c.loop-i.i c.element_at-x.result inside))

pub returns-then-len-gt-MAX_VERTICES-clause-too_many : goal.returns-then-len-gt-MAX_VERTICES-clause-too_many
returns-then-len-gt-MAX_VERTICES-clause-too_many c =
    let inside : c.loop-i.i < length c.args.set.now.keys = omega (arith, c.loop-i.invariant.1) in (
      c.loop-i.i + 1,
      growing_step c.args.simple.now c.loop-i.i c.args.set.now.keys c.loop-i.set.keys c.add.new.set.keys
          c.element_at-x.result c.mul.result c.loop-i.invariant.0 inside
          (c.element_at-x.ensures ∙ c.loop-i.invariant.0.place_kept c.loop-i.i c.element_at-x.result inside)
          c.mul.ensures.product c.in_ok-add.ensures.ok,
      omega arith,
    )

pub loop-i-preserved : goal.loop-i-preserved
loop-i-preserved c =
    let inside : c.loop-i.i < length c.args.set.now.keys = omega (arith, c.loop-i.invariant.1) in (
      growing_step c.args.simple.now c.loop-i.i c.args.set.now.keys c.loop-i.set.keys c.add.new.set.keys
          c.element_at-x.result c.mul.result c.loop-i.invariant.0 inside
          (c.element_at-x.ensures ∙ c.loop-i.invariant.0.place_kept c.loop-i.i c.element_at-x.result inside)
          c.mul.ensures.product c.in_ok-add.ensures.ok,
      c.loop-i.invariant.1,
      omega arith,
    )
