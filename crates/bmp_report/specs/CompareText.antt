-- Ranks beside a Kazhdan-Lusztig table. The vertices are numbered from 0 to n - 1, and w is the last; P_{x,w} is the
-- polynomial of the vertex x, of which h_x has the coefficients.
--   level_in lengths x           the length of the vertex x, of a list of all lengths
--   polynomial_in n level h x d  the coefficient of P_{x,w} at q^d: that of h_x at l(w) - l(x) - 2 d, level the length
--   Comparison                   for each vertex and each degree a count, and the coefficient beside it
--   comparison_of r table        the numbers of ranks beside the polynomials of a table
--   equals n z                   the count n is the integer z
--   Agrees c x                   at the vertex x each count is the coefficient beside it
--   agrees c x                   whether it is so
--   agree_count c n              at how many of the first n vertices it is so
--   differ_lines c               `differ x d` with count and coefficient, wherever they differ, by vertex and degree
--   agree_line c                 `agree A of n`: at A of the n vertices the counts are the coefficients
--   IsCompareText c h q text     the line of self-duality of the table, the lines of what differs, and `agree A of n`
--   AgreesIsAgreement            `agrees` decides `Agrees`
--   cert_comparison c lengths h  the numbers of generators of a certificate beside the polynomials of h
--   RanksHaveComparison          the ranks of a certificate are compared as its own numbers of generators
use Rattle.std.specs.Prelude.{◌≡◌, ◌↔◌, ℕ, zero, suc, ◌+◌, ◌-◌, ◌*◌, ◌≤◌, ◌==◌, ◌&&◌, Bool, true, false, if◌then◌else◌, List, [], ◌∷◌, ◌++◌, codes, length, slice_index, ℤ, pos, negsuc, ◌-ℤ◌}
use Rattle.std.specs.Fmt.{decimal, signed_decimal}
use Rattle.bmp_text.specs.Printing.{line_text, range_text}
use Rattle.bmp_hecke.specs.Laurents.{Laurent}
use Rattle.bmp_kl.specs.KlTables.{count_of, sum_of, coefficient_of}
use Rattle.bmp_kl.specs.declared.table.KlTable.{KlTable}
use Rattle.bmp_cert.specs.declared.cert.Cert.{Cert}
use Rattle.bmp_cert.specs.Counts.{RankTable, written_by, generator_count, rank_in, IsRanksOf}
use Rattle.bmp_report.specs.TableText.{IsDualLine}

-- ---- what is compared

abbrev pub polynomial_in : ℕ → (ℕ → ℕ) → (ℕ → Laurent) → ℕ → ℕ → ℤ
polynomial_in n level h x d = h x (pos (level (n - 1)) -ℤ pos (level x) -ℤ pos (2 * d))

abbrev pub level_in : List ℕ → ℕ → ℕ
level_in lengths x = slice_index lengths x

abbrev pub polynomial_of : KlTable → ℕ → ℕ → ℤ
polynomial_of table = polynomial_in (count_of table) (level_in table.lengths.items) (coefficient_of table)

pub record Comparison : Type 0 where
  pub vertices : ℕ
  pub degree : ℕ
  pub count : ℕ → ℕ → ℕ
  pub coefficient : ℕ → ℕ → ℤ

abbrev pub comparison_of : RankTable → KlTable → Comparison
comparison_of r table = record {
  vertices = r.vertices;
  degree = r.degree;
  count = rank_in r;
  coefficient = polynomial_of table;
}

abbrev pub cert_comparison : Cert → List ℕ → (ℕ → Laurent) → Comparison
cert_comparison c lengths h = record {
  vertices = length c.vertices;
  degree = c.job.degree;
  count = generator_count (written_by c);
  coefficient = polynomial_in (length c.vertices) (level_in lengths) h;
}

-- ---- agreement

abbrev pub equals : ℕ → ℤ → Bool
equals n (pos k) = n == k
equals n (negsuc k) = false

abbrev pub Agrees : Comparison → ℕ → Type 0
Agrees c x = (d : ℕ) → d ≤ c.degree → pos (c.count x d) ≡ c.coefficient x d

-- in the degrees below d
abbrev pub agrees_below : Comparison → ℕ → ℕ → Bool
agrees_below c x zero = true
agrees_below c x (suc d) = agrees_below c x d && equals (c.count x d) (c.coefficient x d)

abbrev pub agrees : Comparison → ℕ → Bool
agrees c x = agrees_below c x (c.degree + 1)

abbrev pub agree_count : Comparison → ℕ → ℕ
agree_count c zero = 0
agree_count c (suc x) = agree_count c x + (if agrees c x then 1 else 0)

abbrev pub AgreesIsAgreement : Type 0
AgreesIsAgreement = (c : Comparison) (x : ℕ) → (agrees c x ≡ true) ↔ Agrees c x

-- ---- the lines

abbrev pub differ_line : ℕ → ℕ → ℕ → ℤ → List ℕ
differ_line x d n z = if equals n z then []
    else line_text (codes "differ") (decimal x ∷ decimal d ∷ decimal n ∷ signed_decimal z ∷ [])

abbrev pub vertex_lines : Comparison → ℕ → List ℕ
vertex_lines c x = range_text (λ d. differ_line x d (c.count x d) (c.coefficient x d)) 0 (c.degree + 1)

abbrev pub differ_lines : Comparison → List ℕ
differ_lines c = range_text (vertex_lines c) 0 c.vertices

abbrev pub agree_line : Comparison → List ℕ
agree_line c = codes "agree" ++ ((32 ∷ decimal (agree_count c c.vertices)) ++ (codes " of"
    ++ ((32 ∷ decimal c.vertices) ++ (10 ∷ []))))

abbrev pub IsCompareText : Comparison → (ℕ → Laurent) → (ℕ → Laurent) → List ℕ → Type 0
IsCompareText c h q text =
    (line : List ℕ) × IsDualLine c.vertices h q line × (text ≡ line ++ (differ_lines c ++ agree_line c))

abbrev pub RanksHaveComparison : Type 0
RanksHaveComparison = (c : Cert) (r : RankTable) (table : KlTable) → IsRanksOf (written_by c) r
    → r.vertices ≡ count_of table → (text : List ℕ)
    → IsCompareText (comparison_of r table) (coefficient_of table) (sum_of table) text
    → IsCompareText (cert_comparison c table.lengths.items (coefficient_of table)) (coefficient_of table)
    (sum_of table) text
