-- The limits of jobs and certificates, beside those of root systems and intervals.
--   max_degree    the greatest degree bound
--   max_size      the greatest number of vertices times monomials of the greatest degree
--   max_version   the greatest version on the first line of a certificate
use Rattle.std.specs.Prelude.{ℕ}

abbrev pub max_degree : ℕ
max_degree = 6

abbrev pub max_size : ℕ
max_size = 400000

abbrev pub max_version : ℕ
max_version = 3
