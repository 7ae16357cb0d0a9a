use Rattle.std.proofs.Common.{◌∙◌, ◌≡◌, arith, ap, ap₂, sym, subst}
use Rattle.std.proofs.lemmas.Int.{ints, to_z-of_z}
use mir.Syntax.{w32, w64}
use mir.Val.{SFits, to_z, of_z}
use Rattle.bmp_math.specs.Integers.{IsWithin}
use Rattle.bmp_math.specs.IntegerSums.{integer_unit}
use Rattle.bmp_roots.specs.RootPairs.{pairing, entry}
use Rattle.bmp_roots.proofs.RootLemmas.{pairing-units}
use Rattle.bmp_weyl.proofs.ReflectingLemmas.{AreValues, no_values, value_written, all_values}
use Rattle.bmp_weyl.proofs.simple.simple_values.Goals as goal

pub loop-j-init : goal.loop-j-init
loop-j-init c = (
  no_values c.args.cartan.now (integer_unit c.args.k),
  c.rank-rank.ensures.value,
  omega (arith, c.rank-rank.ensures.value, c.rank-rank.ensures.form.at_most_six),
)

pub loop-j-preserved : goal.loop-j-preserved
loop-j-preserved c =
    let within : IsWithin 32 c.entry.result = c.entry.ensures.within in
    let entry_fits : SFits w64 c.entry.result = omega (arith, ints) in
    let as_long : to_z w64 (of_z w64 c.entry.result) ≡ c.entry.result = to_z-of_z w64 c.entry.result entry_fits in
    let fits : SFits w32 c.entry.result = omega (arith, ints) in
    let is : to_z w32 (of_z w32 (to_z w64 (of_z w64 c.entry.result))) ≡ c.entry.result =
    ap (λ z. to_z w32 (of_z w32 z)) as_long ∙ to_z-of_z w32 c.entry.result fits in
    let value : c.entry.result ≡ pairing c.args.cartan.now (integer_unit c.args.k) (integer_unit c.loop-j.j) =
    c.entry.ensures.value ∙ ap₂ (λ a b. entry c.args.cartan.now a b) (omega arith) (omega arith)
    ∙ sym (pairing-units c.args.cartan.now c.args.k c.loop-j.j c.requires.row
    (omega (arith, c.loop-j.invariant.1))) in (
      value_written c.args.cartan.now (integer_unit c.args.k) c.loop-j.values c.loop-j.j _
          (omega (arith, c.loop-j.invariant.2)) c.loop-j.invariant.0
          (is ∙ value) (subst (λ z. IsWithin 6144 z) (sym is) (omega (arith, ints), omega (arith, ints))),
      c.loop-j.invariant.1,
      c.loop-j.invariant.2,
    )

pub returns-clause-values : goal.returns-clause-values
returns-clause-values c =
    all_values c.args.cartan.now (integer_unit c.args.k) c.loop-j.values
    (subst (λ n. AreValues c.args.cartan.now (integer_unit c.args.k) c.loop-j.values n) (omega arith)
    c.loop-j.invariant.0)

pub returns-clause-within : goal.returns-clause-within
returns-clause-within c = c.loop-j.invariant.0.within
