use Rattle.std.proofs.Common.{◌≡◌, ◌<◌, ◌≤◌, ℕ, Some}
use Rattle.bmp_kl.specs.VertexProducts.{partner}
use Rattle.bmp_kl.proofs.steps.Steps.descent.Given as goal

abbrev pub invariant-loop-k : goal.invariant-loop-k
invariant-loop-k l = (k z : ℕ) → k < l.k → partner l.self.products.items k l.y ≡ Some z → l.y ≤ z
