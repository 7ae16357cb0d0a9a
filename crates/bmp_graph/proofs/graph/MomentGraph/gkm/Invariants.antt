use Rattle.std.proofs.Common.{ℕ, ◌<◌}
use Rattle.bmp_graph.specs.Faults.{HasNoPartner}
use Rattle.bmp_graph.proofs.graph.MomentGraph.gkm.Given as goal

-- no two edges at a vertex so far are parallel
abbrev pub invariant-loop-x : goal.invariant-loop-x
invariant-loop-x l = (w : ℕ) → w < l.x → (b : ℕ) → HasNoPartner l.self w b
