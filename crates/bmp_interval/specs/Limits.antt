-- The limit of intervals.
--   max_vertices    the greatest number of vertices that an interval has
use Rattle.std.specs.Prelude.{ℕ}

abbrev pub max_vertices : ℕ
max_vertices = 4096
