use Rattle.std.proofs.Common.{◌≡◌, ◌≤◌, take, count_by}
use Rattle.bmp_roots.specs.PositiveRoots.{has_negative}
use Rattle.bmp_roots.specs.RootSystems.{positive_roots_of}
use Rattle.bmp_weyl.specs.Matrices.{image}
use Rattle.bmp_weyl.proofs.elem.Elem.length.Given as goal

abbrev pub invariant-loop-i : goal.invariant-loop-i
invariant-loop-i l =
    (l.count ≡ count_by (λ b. has_negative l.self.rank (image l.self.entries b)) (take l.i (positive_roots_of l.roots)))
    × (l.count ≤ l.i) × (l.rank ≡ l.self.rank)
