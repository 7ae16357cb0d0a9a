use Rattle.std.proofs.Common.{◌/◌, ◌%◌, ◌∙◌, arith, length-set, rules}
use Rattle.std.proofs.lemmas.Int.{to_z-of_z}
use mir.Syntax.{w8}
use mir.Val.{SFits}
use Rattle.bmp_math.specs.IntegerSums.{integer_unit}
use Rattle.bmp_weyl.proofs.PlaceLemmas.{cells_from_places, written}
use Rattle.bmp_weyl.proofs.matrix.identity_entries.Goals as goal

pub loop-place-preserved : goal.loop-place-preserved
loop-place-preserved c =
    let fits : SFits w8 c.unit_entry.result = search rules in (
      simp length-set c.loop-place.invariant.0,
      written c.loop-place.entries c.loop-place.place _ (λ q. integer_unit (q % 6) (q / 6)) (omega arith)
          c.loop-place.invariant.1
          (to_z-of_z w8 c.unit_entry.result fits ∙ c.unit_entry.ensures.value),
    )

pub returns-clause-cells : goal.returns-clause-cells
returns-clause-cells c =
    cells_from_places (λ i j. integer_unit j i) c.loop-place.entries (λ q l. c.loop-place.invariant.1 q (omega arith))
