use Rattle.bmp_poly.proofs.Scanning.{Unfolded}
use Rattle.bmp_poly.proofs.monomials.monomial_at.Given as goal

abbrev pub invariant-loop-k : goal.invariant-loop-k
invariant-loop-k l = Unfolded 6 l.rank l.degree l.i l.m l.k l.rest l.later
