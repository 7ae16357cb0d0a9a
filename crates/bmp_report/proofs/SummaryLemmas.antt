-- The summary depends on the numbers of generators alone.
use Rattle.std.proofs.Common.{◌≡◌, ℕ, ◌+◌, ◌<◌, ◌≤◌, List, [], ◌∷◌, ◌++◌, append_assoc, codes, ap, sym, subst, arith}
use Rattle.std.specs.Fmt.{decimal}
use Rattle.bmp_math.proofs.SumLemmas.{sum_below_more, sum_below_same}
use Rattle.bmp_text.specs.Printing.{line_text}
use Rattle.bmp_text.proofs.PrintingLoops.{range_same}
use Rattle.bmp_graph.specs.Graph.{vertex_count}
use Rattle.bmp_cert.specs.Counts.{written_by, generator_count, rank_in}
use Rattle.bmp_report.specs.SummaryText.{total, counts_line, sizes_text, SummaryOfRanks}

counts_same : (vertices degree : ℕ) (a b : ℕ → ℕ → ℕ) → ((x d : ℕ) → x < vertices → d ≤ degree → a x d ≡ b x d) →
    counts_line vertices degree a ≡ counts_line vertices degree b
counts_same vertices degree a b h =
    ap (λ (ws : List (List ℕ)). line_text (codes "counts") ws)
    (range_same (λ d. decimal (total a vertices d) ∷ []) (λ d. decimal (total b vertices d) ∷ []) 0 (degree + 1)
    (λ d low high. ap (λ (n : ℕ). decimal n ∷ [])
    (sum_below_same (λ x. a x d) (λ x. b x d) vertices (λ x within. h x d within (omega arith)))))

pub of_ranks : SummaryOfRanks
of_ranks n c g r same ranks =
    ap (λ (line : List ℕ). sizes_text n c.job g ++ line)
    (counts_same (vertex_count g) c.job.degree (rank_in r) (generator_count (written_by c))
    (λ x d within few. ranks.numbers x d (subst (λ (k : ℕ). x < k) same within) few))

-- one vertex more
pub total_on : (count : ℕ → ℕ → ℕ) (d x sum n : ℕ) → sum ≡ total count x d → n ≡ count x d →
    sum + n ≡ total count (x + 1) d
total_on count d x sum n so_far is = rw (so_far, is) (sym (sum_below_more (λ y. count y d) x))

-- seven lines, one behind the other
pub joined : (out a b c d e f g : List ℕ) → ((((((out ++ a) ++ b) ++ c) ++ d) ++ e) ++ f) ++ g ≡
    out ++ (a ++ (b ++ (c ++ (d ++ (e ++ (f ++ g))))))
joined out a b c d e f g = simp append_assoc
