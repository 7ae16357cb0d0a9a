-- The rank lines depend on the numbers alone.
use Rattle.std.proofs.Common.{◌≡◌, ℕ, ◌+◌, ◌<◌, ◌≤◌, List, [], ◌∷◌, length, codes, ap, ap₂, ◌∙◌, arith}
use Rattle.std.specs.Fmt.{decimal}
use Rattle.bmp_text.specs.Printing.{line_text}
use Rattle.bmp_text.proofs.PrintingLoops.{range_same}
use Rattle.bmp_cert.specs.declared.cert.Cert.{Cert}
use Rattle.bmp_cert.specs.Counts.{RankTable, written_by, generator_count, rank_in, IsRanksOf}
use Rattle.bmp_report.specs.RankLines.{rank_line, rank_lines, table_lines, cert_rank_lines}

line_same : (degree x : ℕ) (a b : ℕ → ℕ → ℕ) → ((d : ℕ) → d ≤ degree → a x d ≡ b x d) →
    rank_line degree a x ≡ rank_line degree b x
line_same degree x a b h =
    ap (λ (ws : List (List ℕ)). line_text (codes "rank") (decimal x ∷ ws))
    (range_same (λ d. decimal (a x d) ∷ []) (λ d. decimal (b x d) ∷ []) 0 (degree + 1)
    (λ d low high. ap (λ (n : ℕ). decimal n ∷ []) (h d (omega arith))))

pub lines_same : (vertices degree : ℕ) (a b : ℕ → ℕ → ℕ) → ((x d : ℕ) → x < vertices → d ≤ degree → a x d ≡ b x d) →
    rank_lines vertices degree a ≡ rank_lines vertices degree b
lines_same vertices degree a b h =
    range_same (rank_line degree a) (rank_line degree b) 0 vertices
    (λ x low high. line_same degree x a b (λ d le. h x d (omega arith) le))

pub ranks_lines : (c : Cert) (r : RankTable) → IsRanksOf (written_by c) r → table_lines r ≡ cert_rank_lines c
ranks_lines c r h = ap₂ (λ (n : ℕ) (k : ℕ). rank_lines n k (rank_in r)) h.vertices h.degree
    ∙ lines_same (length c.vertices) c.job.degree (rank_in r) (generator_count (written_by c)) h.numbers
