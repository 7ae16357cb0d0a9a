use Rattle.std.proofs.Common.{◌≡◌, ◌≤◌, ◌+◌, ◌-◌, ◌^◌, ◌∙◌, ℕ, ℤ, arith, refl, sym, ap, subst, suc}
use Rattle.std.specs.Int.RustNames.{unsigned_abs}
use Rattle.std.proofs.lemmas.Int.{ints}
use Rattle.bmp_math.specs.Integers.{IsWithin}
use Rattle.bmp_kl.specs.PartLists.{part_at, part_value}
use Rattle.bmp_kl.specs.Powers.{horner}
use Rattle.bmp_kl.specs.HornerRows.{steps_sum}
use Rattle.bmp_kl.proofs.FillLemmas.{horner_same}
use Rattle.bmp_kl.proofs.FillingLemmas.{lower_span}
use Rattle.bmp_kl.proofs.HornerLemmas.{multiplied_value, steps_next, steps_none, steps_span, tail_size, steps_horner, value_within, value_zeros}
use Rattle.bmp_kl.proofs.horner.sum_of_parts.Goals as goal

pub loop-j-init : goal.loop-j-init
loop-j-init c = (
  c.loop-i.auto.row ∙ c.requires.long,
  λ e. value_zeros c.loop-i.row (λ k l. c.loop-i.invariant k (omega (arith, l))) e
      ∙ sym (steps_none (part_value c.args.parts.now c.args.x) e),
)

pub multiply-requires-clause-fits : goal.multiply-requires-clause-fits
multiply-requires-clause-fits c =
    value_within c.loop-j.row (steps_sum 36 (part_value c.args.parts.now c.args.x) c.loop-j.j)
    (2 ^ 106) c.loop-j.invariant.0 c.loop-j.invariant.1
    (λ e. tail_size (part_value c.args.parts.now c.args.x) (λ d a near. size _ (c.requires.small d a near)) c.loop-j.j
    (omega arith) e)
  where
    size : (v : ℤ) → IsWithin (2 ^ 69) v → unsigned_abs v ≤ 2 ^ 69
    size v h = omega (arith, ints, h)

pub loop-j-preserved : goal.loop-j-preserved
loop-j-preserved c = (
  c.multiply.ensures.as_long ∙ c.loop-j.invariant.0,
  λ e.
      multiplied_value (part_value c.args.parts.now c.args.x (36 - c.loop-j.j)) c.loop-j.row c.multiply.new.row
      c.multiply.ensures
      (steps_sum 36 (part_value c.args.parts.now c.args.x) c.loop-j.j) c.loop-j.invariant.1
      (λ a far.
      steps_next (part_value c.args.parts.now c.args.x) c.loop-j.j a
      ∙ ap (λ i. steps_sum 36 (part_value c.args.parts.now c.args.x) i a)
      (let next : c.loop-j.j + 1 ≡ suc c.loop-j.j = omega arith in next)
      ∙ steps_span (part_value c.args.parts.now c.args.x) (λ d. lower_span (part_at c.args.parts.now c.args.x d))
      c.loop-j.j (omega arith) a far) e
      ∙ steps_next (part_value c.args.parts.now c.args.x) c.loop-j.j e,
)

pub returns-clause-value : goal.returns-clause-value
returns-clause-value c e =
    c.loop-j.invariant.1 e
    ∙ ap (λ i. steps_sum 36 (part_value c.args.parts.now c.args.x) i e) (let all : c.loop-j.j ≡ suc 36 = omega arith in
    all)
    ∙ steps_horner 36 (part_value c.args.parts.now c.args.x) 36 (omega arith) e
    ∙ horner_same 36 _ (part_value c.args.parts.now c.args.x)
    (λ d a l. ap (λ i. part_value c.args.parts.now c.args.x i a) (let same : (36 - 36) + d ≡ d = omega arith in same)) e
