use Rattle.std.proofs.Common.{length}
use Rattle.bmp_kl.specs.VertexProducts.{partner}
use Rattle.bmp_kl.specs.BarRows.{HasLiveRows, IsSteppedTo}
use Rattle.bmp_kl.proofs.rows.Rows.step.Given as goal

abbrev pub invariant-loop-x : goal.invariant-loop-x
invariant-loop-x l =
    IsSteppedTo (partner l.steps.products.items l.k) (length l.steps.lengths.items) l.x l.fn.self.values.items
    l.self.values.items
    × HasLiveRows (length l.steps.lengths.items) l.self.values.items l.self.live.items
