-- Ranks beside a table: what is printed for a degree, and what agrees.
use Rattle.std.proofs.Common.{◌≡◌, ℕ, zero, suc, ◌+◌, ◌-◌, ◌<◌, ◌≤◌, ◌&&◌, ◌⊎◌, ◌↔◌, Bool, true, false, if◌then◌else◌, refl, sym, subst, ap, ap₂, ◌∙◌, inl, inr, List, [], ◌∷◌, ◌++◌, append_assoc, codes, ℤ, pos, negsuc, arith}
use Rattle.std.specs.Fmt.{decimal, signed_decimal}
use Rattle.std.proofs.lemmas.Bool.Decides.{nat_tests}
use Rattle.std.proofs.lemmas.Int.{ints}
use Rattle.bmp_text.specs.Printing.{range_text}
use Rattle.bmp_text.proofs.PrintingLoops.{range_on, range_same}
use Rattle.bmp_hecke.specs.Laurents.{Laurent}
use Rattle.bmp_kl.specs.KlTables.{count_of, sum_of, coefficient_of}
use Rattle.bmp_kl.specs.declared.table.KlTable.{KlTable}
use Rattle.bmp_cert.specs.declared.cert.Cert.{Cert}
use Rattle.bmp_cert.specs.Counts.{RankTable, written_by, IsRanksOf}
use Rattle.bmp_report.specs.FaultLines.{numbered_text}
use Rattle.bmp_report.specs.TableText.{IsDualLine}
use Rattle.bmp_report.specs.CompareText.{Comparison, level_in, polynomial_in, comparison_of, cert_comparison, equals, AgreesIsAgreement, agrees_below, agrees, agree_count, differ_line, vertex_lines, differ_lines, agree_line, IsCompareText, RanksHaveComparison}

-- ---- one degree

joined : (out word a b m s z f : List ℕ) → (((((out ++ (word ++ a)) ++ b) ++ m) ++ s) ++ z) ++ f ≡
    out ++ (word ++ ((a ++ (b ++ (m ++ ((s ++ z) ++ [])))) ++ f))
joined out word a b m s z f = simp append_assoc

pub difference_printed : (out : List ℕ) (x d n : ℕ) (z : ℤ) {a b m : ℕ} {y : ℤ} → equals n z ≡ false → a ≡ x → b ≡ d
    → m ≡ n → y ≡ z → (((((out ++ numbered_text (codes "differ") a) ++ (32 ∷ decimal b)) ++ (32 ∷ decimal m))
    ++ (32 ∷ [])) ++ signed_decimal y) ++ (10 ∷ []) ≡ out ++ differ_line x d n z
difference_printed out x d n z off vertex degree count coefficient =
    rw (off, vertex, degree, count, coefficient)
    (joined out (codes "differ") (32 ∷ decimal x) (32 ∷ decimal d) (32 ∷ decimal n) (32 ∷ []) (signed_decimal z)
    (10 ∷ []))

module _ (c : Comparison) (x d : ℕ) (out all : List ℕ) where
  pub lines_on : {new : List ℕ} {n : ℕ} {z : ℤ} → d ≤ c.degree → n ≡ c.count x d → z ≡ c.coefficient x d
      → new ≡ out ++ differ_line x d n z
      → out ++ range_text (λ e. differ_line x e (c.count x e) (c.coefficient x e)) d (c.degree + 1 - d) ≡ all
      → new ++ range_text (λ e. differ_line x e (c.count x e) (c.coefficient x e)) (d + 1) (c.degree + 1 - (d + 1))
      ≡ all
  lines_on within count coefficient printed so_far =
      rw (printed, count, coefficient)
      (range_on (λ e. differ_line x e (c.count x e) (c.coefficient x e)) out all d (c.degree + 1 - d)
      (c.degree + 1 - (d + 1)) (omega (arith, within)) so_far)

-- ---- agreement

equal_or_not : (n : ℕ) (z : ℤ) → (equals n z ≡ true) ↔ (pos n ≡ z)
equal_or_not n (pos k) = (λ told. ap pos (grind (arith, nat_tests, told)), λ same. grind (arith, nat_tests, same))
equal_or_not n (negsuc k) = (λ told. grind (arith, told), λ same. grind (arith, ints, same))

both : (a b : Bool) → a && b ≡ true → (a ≡ true) × (b ≡ true)
both true b told = (refl, told)
both false b told = absurd (grind (arith, told))

below_or_last : (d n : ℕ) → d < n + 1 → (d < n) ⊎ (d ≡ n)
below_or_last d n below = grind arith

module _ (c : Comparison) (x : ℕ) where
  each_below : (n : ℕ) → agrees_below c x n ≡ true → (d : ℕ) → d < n → pos (c.count x d) ≡ c.coefficient x d
  each_below zero told d below = absurd (omega (arith, below))
  each_below (suc n) told d below =
      let parts = both (agrees_below c x n) (equals (c.count x n) (c.coefficient x n)) told in
      elim (below_or_last d n (omega (arith, below))) [
        | inl less ↦ each_below n parts.0 d less
        | inr last ↦ rw last ((equal_or_not (c.count x n) (c.coefficient x n)).0 parts.1)
      ]

  all_below : (n : ℕ) → ((d : ℕ) → d < n → pos (c.count x d) ≡ c.coefficient x d) → agrees_below c x n ≡ true
  all_below zero each = refl
  all_below (suc n) each =
      rw (
        all_below n (λ d below. each d (omega (arith, below))),
        (equal_or_not (c.count x n) (c.coefficient x n)).1 (each n (omega arith)),
      )
      refl

pub agrees_is_agreement : AgreesIsAgreement
agrees_is_agreement c x = (
  λ told d within. each_below c x (c.degree + 1) told d (omega (arith, within)),
  λ each. all_below c x (c.degree + 1) (λ d below. each d (omega (arith, below))),
)

-- ---- what the lines depend on

record IsSameComparison (a b : Comparison) : Type 0 where
  vertices : a.vertices ≡ b.vertices
  degree : a.degree ≡ b.degree
  counts : (x d : ℕ) → x < b.vertices → d ≤ b.degree → a.count x d ≡ b.count x d
  coefficients : (x d : ℕ) → a.coefficient x d ≡ b.coefficient x d

module _ {a b : Comparison} (same : IsSameComparison a b) where
  line_same : (x d : ℕ) → x < b.vertices → d ≤ b.degree →
      differ_line x d (a.count x d) (a.coefficient x d) ≡ differ_line x d (b.count x d) (b.coefficient x d)
  line_same x d vertex degree = ap₂ (differ_line x d) (same.counts x d vertex degree) (same.coefficients x d)

  vertex_same : (x : ℕ) → x < b.vertices → vertex_lines a x ≡ vertex_lines b x
  vertex_same x vertex =
      ap (λ (n : ℕ). range_text (λ d. differ_line x d (a.count x d) (a.coefficient x d)) 0 (n + 1)) same.degree
      ∙ range_same (λ d. differ_line x d (a.count x d) (a.coefficient x d))
      (λ d. differ_line x d (b.count x d) (b.coefficient x d)) 0 (b.degree + 1)
      (λ d low high. line_same x d vertex (omega (arith, high)))

  differ_same : differ_lines a ≡ differ_lines b
  differ_same =
      ap (range_text (vertex_lines a) 0) same.vertices
      ∙ range_same (vertex_lines a) (vertex_lines b) 0 b.vertices (λ x low high. vertex_same x (omega (arith, high)))

  below_same : (x n : ℕ) → x < b.vertices → n ≤ b.degree + 1 → agrees_below a x n ≡ agrees_below b x n
  below_same x zero vertex few = refl
  below_same x (suc n) vertex few =
      ap₂ ◌&&◌ (below_same x n vertex (omega (arith, few)))
      (ap₂ equals (same.counts x n vertex (omega (arith, few))) (same.coefficients x n))

  agrees_same : (x : ℕ) → x < b.vertices → agrees a x ≡ agrees b x
  agrees_same x vertex =
      ap (λ (n : ℕ). agrees_below a x (n + 1)) same.degree ∙ below_same x (b.degree + 1) vertex (omega arith)

  number_same : (n : ℕ) → n ≤ b.vertices → agree_count a n ≡ agree_count b n
  number_same zero few = refl
  number_same (suc n) few =
      ap₂ (λ (k : ℕ) (c : Bool). k + (if c then 1 else 0)) (number_same n (omega (arith, few)))
      (agrees_same n (omega (arith, few)))

  agree_same : agree_line a ≡ agree_line b
  agree_same =
      ap₂ agreement (ap (agree_count a) same.vertices ∙ number_same b.vertices (omega arith)) same.vertices
    where
      agreement : ℕ → ℕ → List ℕ
      agreement k n = codes "agree" ++ ((32 ∷ decimal k) ++ (codes " of" ++ ((32 ∷ decimal n) ++ (10 ∷ []))))

  text_same : (h q : ℕ → Laurent) (text : List ℕ) → IsCompareText a h q text → IsCompareText b h q text
  text_same h q text (line, dual, is) = (
    line,
    subst (λ (n : ℕ). IsDualLine n h q line) same.vertices dual,
    is ∙ ap₂ (λ (ls : List ℕ) (l : List ℕ). line ++ (ls ++ l)) differ_same agree_same,
  )

ranks_same : (c : Cert) (r : RankTable) (table : KlTable) → IsRanksOf (written_by c) r → r.vertices ≡ count_of table →
    IsSameComparison (comparison_of r table) (cert_comparison c table.lengths.items (coefficient_of table))
ranks_same c r table ranks many = record {
  vertices = ranks.vertices;
  degree = ranks.degree;
  counts = ranks.numbers;
  coefficients = λ x d. ap (λ (n : ℕ). polynomial_in n (level_in table.lengths.items) (coefficient_of table) x d)
      (sym many ∙ ranks.vertices);
}

pub ranks_comparison : RanksHaveComparison
ranks_comparison c r table ranks many text is =
    text_same (ranks_same c r table ranks many) (coefficient_of table) (sum_of table) text is
