-- What the comparisons of a certificate speak of besides the graph, and the numbers of generators of its vertices.
--   Written                  a degree bound and the parts of vertices
--   written_by c             those of a certificate
--   part_of c x              the part of the vertex x; the parts begin with the greatest vertex
--   generator_count c x d    how many generators of degree d the vertex x has
--   RankTable                what contracts see of ranks: for each vertex and each degree a number
--   rank_in r x d            the number for the vertex x and the degree d
--   IsRanksOf c r            r has the vertices, the degree bound and the numbers of c
--   counts_below, all_counts the numbers of one vertex, and of the first vertices, one behind the other
use Rattle.std.specs.Prelude.{count_by, ◌==◌, ◌≡◌, ◌<◌, ◌≤◌, ◌+◌, ◌*◌, ◌-◌, ◌++◌, ℕ, zero, suc, List, [], ◌∷◌, length, slice_index_or}
use Rattle.bmp_cert.specs.declared.cert.VertexPart.{VertexPart}
use Rattle.bmp_cert.specs.declared.cert.Cert.{Cert}

pub record Written : Type 0 where
  pub degree : ℕ
  pub parts : List VertexPart

abbrev pub written_by : Cert → Written
written_by c = record { degree = c.job.degree; parts = c.vertices }

abbrev pub no_part : VertexPart
no_part = record { degrees = []; edges = 0; lifts = []; blocks = [] }

abbrev pub part_of : Written → ℕ → VertexPart
part_of c x = slice_index_or c.parts (length c.parts - 1 - x) no_part

abbrev pub generator_count : Written → ℕ → ℕ → ℕ
generator_count c x d = count_by (λ e. e == d) (part_of c x).degrees

pub record RankTable : Type 0 where
  pub vertices : ℕ
  pub degree : ℕ
  pub numbers : List ℕ  -- by vertex, then by degree

abbrev pub rank_in : RankTable → ℕ → ℕ → ℕ
rank_in r x d = slice_index_or r.numbers (x * (r.degree + 1) + d) 0

pub record IsRanksOf (c : Written) (r : RankTable) : Type 0 where
  pub vertices : r.vertices ≡ length c.parts
  pub degree : r.degree ≡ c.degree
  pub numbers : (x d : ℕ) → x < length c.parts → d ≤ c.degree → rank_in r x d ≡ generator_count c x d

-- ---- as a list

abbrev pub counts_below : List ℕ → ℕ → List ℕ
counts_below degrees zero = []
counts_below degrees (suc d) = counts_below degrees d ++ count_by (λ e. e == d) degrees ∷ []

abbrev pub all_counts : Written → ℕ → List ℕ
all_counts c zero = []
all_counts c (suc x) = all_counts c x ++ counts_below (part_of c x).degrees (c.degree + 1)
