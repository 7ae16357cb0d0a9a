use Rattle.std.proofs.Common.{◌<◌, ◌∙◌, List, ℕ, length, take_all, sym, subst}
use Rattle.bmp_linear.specs.NumberRows.{HaveLength}
use Rattle.bmp_linear.proofs.mixed.MixedRowsRowSpace.copy.Goals as goal

pub invariant_of-result : goal.invariant_of-result
invariant_of-result g c =
    let same = c.loop-row.invariant ∙ take_all c.loop-row.row-index c.deref-row-items.result.now c.loop-row-test.false
    ∙ c.deref-row-items.ensures.value in
    subst (λ (xs : List (List ℕ)). (length xs < 4294967296) × (c.self.inside.cols < 4294967296)
    × HaveLength c.self.inside.cols xs) (sym same) c.self.invariant
