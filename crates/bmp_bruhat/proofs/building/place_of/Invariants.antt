use Rattle.std.proofs.Common.{ℕ, ◌<◌, ◌≤◌, length, slice_index_or}
use Rattle.bmp_bruhat.specs.declared.root_edge.RootEdge.{RootEdge}
use Rattle.bmp_bruhat.specs.Building.{ComesBefore}
use Rattle.bmp_bruhat.proofs.building.place_of.Given as goal

-- the edges from this place on are greater
abbrev pub invariant-loop-place : goal.invariant-loop-place
invariant-loop-place l =
    (l.place ≤ length l.edges)
    × ((e : ℕ) (o : RootEdge) → l.place ≤ e → e < length l.edges
    → ComesBefore l.lower l.upper (slice_index_or l.edges e o).lower (slice_index_or l.edges e o).upper)

abbrev pub decreases-loop-place : goal.decreases-loop-place
decreases-loop-place l = l.place
