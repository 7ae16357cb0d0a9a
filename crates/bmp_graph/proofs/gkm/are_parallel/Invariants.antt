use Rattle.std.proofs.Common.{ℕ, ◌<◌, ◌*◌}
use Rattle.bmp_math.specs.Congruences.{SameMod}
use Rattle.bmp_poly.specs.Labels.{prime_of, coordinate_of}
use Rattle.bmp_graph.proofs.GkmLemmas.{MinorsVanish}
use Rattle.bmp_graph.proofs.gkm.are_parallel.Given as goal

-- the minors of the earlier variables are 0, and those with this one so far
abbrev pub invariant-loop-i : goal.invariant-loop-i
invariant-loop-i l =
    MinorsVanish (prime_of l.first) l.j (coordinate_of l.first) (coordinate_of l.second)
    × ((i : ℕ) → i < l.i → SameMod (prime_of l.first)
    (coordinate_of l.first i * coordinate_of l.second l.j) (coordinate_of l.first l.j * coordinate_of l.second i))

-- the minors of the variables so far are 0
abbrev pub invariant-loop-j : goal.invariant-loop-j
invariant-loop-j l = MinorsVanish (prime_of l.first) l.j (coordinate_of l.first) (coordinate_of l.second)
