-- What is seen of a free module in memory.
--   rank_of s                the number of variables
--   degrees_of s             the degrees of the generators, in their order
use Rattle.std.specs.Prelude.{ℕ, List}
use Rattle.bmp_module.specs.declared.free.Free.{Free}

abbrev pub rank_of : Free → ℕ
rank_of s = s.rank

abbrev pub degrees_of : Free → List ℕ
degrees_of s = s.degrees.items
