use Rattle.std.proofs.Common.{◌≡◌, ◌+◌, ◌-◌, ◌≤◌, drop}
use Rattle.bmp_poly.specs.Exponents.{IsMonomial, place}
use Rattle.bmp_poly.proofs.monomials.place_of.Given as goal

-- what is left is a monomial, and its place is what is still to be added
abbrev pub invariant-loop-k : goal.invariant-loop-k
invariant-loop-k l = record {
  left : IsMonomial (6 - l.k) (l.rank - l.k) l.rest (drop l.k l.m);
  total : place l.rank l.m ≡ l.before_it + place (l.rank - l.k) (drop l.k l.m);
  small : l.rest ≤ l.degree;
}
