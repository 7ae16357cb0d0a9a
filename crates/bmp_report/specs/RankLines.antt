-- The rank lines: one for each vertex, from 0 on, with the numbers of generators by degree.
--   rank_line degree count x          `rank x n(x,0) .. n(x,D)`
--   rank_lines vertices degree count  the lines of all vertices
--   cert_rank_lines c                 the rank lines of a certificate: its own numbers of generators
use Rattle.std.specs.Prelude.{◌≡◌, ℕ, ◌+◌, List, [], ◌∷◌, length, codes}
use Rattle.std.specs.Fmt.{decimal}
use Rattle.bmp_text.specs.Printing.{line_text, range_text}
use Rattle.bmp_cert.specs.declared.cert.Cert.{Cert}
use Rattle.bmp_cert.specs.Counts.{RankTable, written_by, generator_count, rank_in, IsRanksOf}

abbrev pub rank_line : ℕ → (ℕ → ℕ → ℕ) → ℕ → List ℕ
rank_line degree count x =
    line_text (codes "rank") (decimal x ∷ range_text (λ d. decimal (count x d) ∷ []) 0 (degree + 1))

abbrev pub rank_lines : ℕ → ℕ → (ℕ → ℕ → ℕ) → List ℕ
rank_lines vertices degree count = range_text (rank_line degree count) 0 vertices

abbrev pub table_lines : RankTable → List ℕ
table_lines r = rank_lines r.vertices r.degree (rank_in r)

abbrev pub cert_rank_lines : Cert → List ℕ
cert_rank_lines c = rank_lines (length c.vertices) c.job.degree (generator_count (written_by c))

-- the ranks of a certificate have its lines
abbrev pub RanksHaveLines : Type 0
RanksHaveLines = (c : Cert) (r : RankTable) → IsRanksOf (written_by c) r → table_lines r ≡ cert_rank_lines c
