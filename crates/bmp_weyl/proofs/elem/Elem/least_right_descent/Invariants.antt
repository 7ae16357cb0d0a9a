use Rattle.std.proofs.Common.{◌<◌, ◌+◌, ℕ, List}
use Rattle.bmp_roots.specs.RootSystems.{matrix_of, positive_roots_of}
use Rattle.bmp_weyl.specs.Words.{IsRightDescent}
use Rattle.bmp_weyl.specs.Elements.{IsProduct}
use Rattle.bmp_weyl.proofs.elem.Elem.least_right_descent.Given as goal

abbrev pub invariant-loop-k : goal.invariant-loop-k
invariant-loop-k l =
    (u : List ℕ) → IsProduct (matrix_of l.roots) u l.self → (j : ℕ) → j + 1 < l.k →
    IsRightDescent (matrix_of l.roots) (positive_roots_of l.roots) u j → ⊥
