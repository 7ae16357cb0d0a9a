-- What is seen of a listing in memory.
--   rank_of ms      the number of variables
--   degree_of ms    the degree of the monomials
use Rattle.std.specs.Prelude.{ℕ}
use Rattle.bmp_poly.specs.declared.monomials.Monomials.{Monomials}

abbrev pub rank_of : Monomials → ℕ
rank_of ms = ms.rank

abbrev pub degree_of : Monomials → ℕ
degree_of ms = ms.degree
