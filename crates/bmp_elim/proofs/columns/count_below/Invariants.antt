use Rattle.std.proofs.Common.{ℕ, ◌-◌, ◌<◌, ◌≤◌, length}
use Rattle.std.specs.Prelude.{slice_index}
use Rattle.bmp_elim.proofs.columns.count_below.Given as goal

-- the places that were counted are below n
abbrev pub invariant-loop-count : goal.invariant-loop-count
invariant-loop-count l = record {
  within : l.count ≤ length l.places;
  early : (k : ℕ) → k < l.count → slice_index l.places k < l.n;
}

abbrev pub decreases-loop-count : goal.decreases-loop-count
decreases-loop-count l = length l.places - l.count
