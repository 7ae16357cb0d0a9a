use Rattle.std.proofs.Common.{◌≡◌, ℕ, ◌*◌, ◌<◌, ◌≤◌, slice_index, take}
use Rattle.std.specs.List.{sum}
use Rattle.bmp_poly.proofs.monomials.is_monomial.Given as goal

abbrev pub invariant-loop-k : goal.invariant-loop-k
invariant-loop-k l = record {
  so_far : l.size ≡ sum (take l.k l.m);
  small : l.size ≤ 255 * l.k;
  past : (j : ℕ) → j < l.k → l.rank ≤ j → slice_index l.m j ≡ 0;
}
