-- How many positions and equations there are over the vertices above x, counted vertex by vertex.
use Rattle.std.proofs.Common.{◌≡◌, ℕ, ◌+◌, ◌<◌, ◌^◌, Bool, true, false, cond, sym, ap, ap₂, subst, ◌∙◌, arith}
use Rattle.std.proofs.lemmas.Bool.{cond-true, cond-false}
use Rattle.bmp_math.specs.Sums.{sum_below}
use Rattle.bmp_math.specs.Matrices.{Matrix, SameMatrix}
use Rattle.bmp_math.proofs.SameMatrices.{same_matrix-symmetric}
use Rattle.bmp_math.proofs.SumLemmas.{sum_below-zero, sum_below_more}
use Rattle.bmp_linear.specs.declared.evidence.KernelEvidence.{KernelEvidence}
use Rattle.bmp_linear.specs.Evidence.{EvidenceFits, EvidenceBelow}
use Rattle.bmp_linear.specs.Faults.{AllPass}
use Rattle.bmp_linear.specs.KernelChecks.{KernelCompares}
use Rattle.bmp_linear.proofs.SameComparisons.{kernel_passes_same, evidence_fits_same}
use Rattle.bmp_graph.specs.Graph.{Graph, IsGraph, vertex_count}
use Rattle.bmp_sheaf.specs.Sheaves.{SheafData}
use Rattle.bmp_sheaf.specs.Coordinates.{stalk_count, boundary_count}
use Rattle.bmp_sections.specs.Numbers.{is_above, equation_matrix}
use Rattle.bmp_sections.specs.Positions.{position_start}
use Rattle.bmp_sections.proofs.AboveLemmas.{above_is_closed, equation_count_is}
use Rattle.bmp_sections.proofs.IndexLemmas.{positions_none, positions_go_on, positions_stay}
use Rattle.bmp_build.specs.WholeSpaces.{positions_above, equations_above, IsWholeSpace}

module _ (G : Graph) (F : SheafData) (x d : ℕ) where
  abbrev equations_at : ℕ → ℕ
  equations_at y = cond (is_above G x y) (boundary_count G F y d) 0

  -- those of the vertices below n
  pub record AreCounted (n p e : ℕ) : Type 0 where
    pub positions : p ≡ position_start G F (is_above G x) d n
    pub few_positions : p < 2 ^ 32
    pub equations : e ≡ sum_below equations_at n
    pub few : e < 2 ^ 32

  pub none_counted : AreCounted 0 0 0
  none_counted = record {
    positions = sym (positions_none G F x d);
    few_positions = omega arith;
    equations = sym (sum_below-zero equations_at);
    few = omega arith;
  }

  module _ {n positions equations : ℕ} (counted : AreCounted n positions equations) where
    pub counted_as : {p e : ℕ} → p ≡ positions → e ≡ equations → AreCounted n p e
    counted_as {p} {e} p_is e_is = subst (λ k. AreCounted n k e) (sym p_is) (subst (AreCounted n positions) (sym e_is)
        counted)

    pub counted_past : is_above G x n ≡ false → AreCounted (n + 1) positions equations
    counted_past out =
        let none : equations_at n ≡ 0 = cond-false {A = ℕ} (is_above G x n) (boundary_count G F n d) 0 out in
        record {
          positions = counted.positions ∙ sym (positions_stay G F x d n out);
          few_positions = counted.few_positions;
          equations = omega (arith, counted.equations, sum_below_more equations_at n, none);
          few = counted.few;
        }

    pub counted_more : is_above G x n ≡ true → {p e : ℕ} →
        p ≡ positions + stalk_count G.rank (F.degrees n) d → p < 2 ^ 32 →
        e ≡ equations + boundary_count G F n d → e < 2 ^ 32 → AreCounted (n + 1) p e
    counted_more here {p} {e} p_is p_few e_is e_few =
        let all : equations_at n ≡ boundary_count G F n d =
        cond-true {A = ℕ} (is_above G x n) (boundary_count G F n d) 0 here in
        record {
          positions = omega (arith, p_is, counted.positions, positions_go_on G F x d n here);
          few_positions = p_few;
          equations = omega (arith, e_is, counted.equations, sum_below_more equations_at n, all);
          few = e_few;
        }

  module _ (is : IsGraph G) {n positions equations : ℕ} (counted : AreCounted n positions equations)
      (all : n ≡ vertex_count G) where
    pub all_positions : positions_above G F x d < 2 ^ 32
    all_positions = subst (λ k. k < 2 ^ 32) (counted.positions ∙ ap (position_start G F (is_above G x) d) all)
        counted.few_positions

    pub all_equations : equations ≡ equations_above G F x d
    all_equations = counted.equations ∙ ap (sum_below equations_at) all
        ∙ sym (equation_count_is G F d (is_above G x) is (above_is_closed G is x))

-- ---- the kernel of equal rows

pub space_is_whole :
    {G : Graph} {F : SheafData} {x d q : ℕ} {rows : Matrix} {e : KernelEvidence} →
    SameMatrix rows (equation_matrix G F x d) → positions_above G F x d < 2 ^ 32 → equations_above G F x d < 2 ^ 32 →
    q ≡ G.prime → EvidenceFits e rows.rows rows.cols → EvidenceBelow e q → AllPass (KernelCompares q rows e) →
    IsWholeSpace G F x d e
space_is_whole {G = G} {rows = rows} {e = e} same positions equations prime fits below passes =
    let back = same_matrix-symmetric same in
    record {
      few_positions = positions;
      few_equations = equations;
      fits = evidence_fits_same back e fits;
      below = subst (EvidenceBelow e) prime below;
      passes = kernel_passes_same back G.prime e fits (subst (λ p. AllPass (KernelCompares p rows e)) prime passes);
    }
