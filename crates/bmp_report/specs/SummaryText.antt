-- The summary of a job that was built and checked.
--   total count vertices d           the sum of the counts in the degree d over the vertices
--   summary_text n j g count         eight lines: `sample seed n`, `rank r`, `prime p`, `letters k`, `degree D`,
--                                    `vertices v`, `edges m`, and `counts c_0 .. c_D`, of the graph g of the job j
--   SummaryOfRanks                   the ranks of a certificate of the job have the summary of its own counts
use Rattle.std.specs.Prelude.{◌≡◌, ℕ, ◌+◌, List, [], ◌∷◌, ◌++◌, length, codes}
use Rattle.std.specs.Fmt.{decimal}
use Rattle.bmp_math.specs.Sums.{sum_below}
use Rattle.bmp_text.specs.Printing.{line_text, single_text, range_text}
use Rattle.bmp_graph.specs.Graph.{Graph, vertex_count, edge_count}
use Rattle.bmp_cert.specs.declared.job.Job.{Job}
use Rattle.bmp_cert.specs.declared.cert.Cert.{Cert}
use Rattle.bmp_cert.specs.Counts.{RankTable, written_by, generator_count, rank_in, IsRanksOf}

abbrev pub total : (ℕ → ℕ → ℕ) → ℕ → ℕ → ℕ
total count vertices d = sum_below (λ x. count x d) vertices

abbrev pub counts_line : ℕ → ℕ → (ℕ → ℕ → ℕ) → List ℕ
counts_line vertices degree count =
    line_text (codes "counts") (range_text (λ d. decimal (total count vertices d) ∷ []) 0 (degree + 1))

abbrev pub sizes_text : ℕ → Job → Graph → List ℕ
sizes_text n j g = single_text (codes "sample seed") n ++ (single_text (codes "rank") j.rank
    ++ (single_text (codes "prime") j.prime ++ (single_text (codes "letters") (length j.word)
    ++ (single_text (codes "degree") j.degree ++ (single_text (codes "vertices") (vertex_count g)
    ++ single_text (codes "edges") (edge_count g))))))

abbrev pub summary_text : ℕ → Job → Graph → (ℕ → ℕ → ℕ) → List ℕ
summary_text n j g count = sizes_text n j g ++ counts_line (vertex_count g) j.degree count

abbrev pub SummaryOfRanks : Type 0
SummaryOfRanks = (n : ℕ) (c : Cert) (g : Graph) (r : RankTable) → vertex_count g ≡ length c.vertices →
    IsRanksOf (written_by c) r → summary_text n c.job g (rank_in r) ≡ summary_text n c.job g
    (generator_count (written_by c))
