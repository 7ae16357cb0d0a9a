use Rattle.std.proofs.Common.{ℕ, ◌<◌, slice_index}
use Rattle.bmp_poly.specs.Coordinates.{Fits}
use Rattle.bmp_poly.proofs.label.first_misfit.Given as goal

abbrev pub invariant-loop-place : goal.invariant-loop-place
invariant-loop-place l = (k : ℕ) → k < l.place → Fits l.prime l.rank k (slice_index l.coords k)
