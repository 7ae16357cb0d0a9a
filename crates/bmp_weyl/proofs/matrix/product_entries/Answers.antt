use Rattle.std.proofs.Common.{◌∙◌, arith, sym, subst, length-set}
use Rattle.std.proofs.lemmas.Int.{ints}
use Rattle.bmp_math.specs.Integers.{IsWithin}
use Rattle.bmp_weyl.specs.Matrices.{product_cell}
use Rattle.bmp_weyl.proofs.PlaceLemmas.{cells_from_places, written_at}
use Rattle.bmp_weyl.proofs.matrix.product_entries.Goals as goal

pub loop-i-preserved : goal.loop-i-preserved
loop-i-preserved c = (c.loop-j.invariant.0, λ q l. c.loop-j.invariant.1 q (omega arith))

pub loop-j-init : goal.loop-j-init
loop-j-init c = (c.loop-i.invariant.0, λ q l. c.loop-i.invariant.1 q (omega arith))

pub loop-j-preserved : goal.loop-j-preserved
loop-j-preserved c =
    let small : IsWithin 32 c.product_entry.result =
    subst (λ z. IsWithin 32 z) (sym c.product_entry.ensures)
    (c.requires.fits c.loop-i.i c.loop-j.j (omega arith) (omega arith)) in (
      simp length-set c.loop-j.invariant.0,
      written_at (product_cell c.args.x.now c.args.y.now) c.loop-j.entries c.loop-i.i c.loop-j.j _ (omega arith)
          (omega arith) c.loop-j.invariant.0 c.loop-j.invariant.1
          ((omega (arith, ints)) ∙ c.product_entry.ensures),
    )

pub returns-clause-cells : goal.returns-clause-cells
returns-clause-cells c =
    cells_from_places (product_cell c.args.x.now c.args.y.now) c.loop-i.entries
    (λ q l. c.loop-i.invariant.1 q (omega arith))
