-- Where no comparison of a certificate fails, its sheaf is a Braden-MacPherson sheaf.
use Rattle.std.proofs.Common.{◌≡◌, ℕ, zero, suc, ◌+◌, ◌-◌, ◌<◌, ◌≤◌, true, List, [], ◌∷◌, length, get_or, None, sym, ap, subst, ◌∙◌, inl, inr, arith, eqb-true}
use Rattle.std.proofs.lemmas.Bool.{cases_Bool, cases_eq}
use Rattle.std.proofs.lemmas.List.Elements.{All-get_or}
use Rattle.std.proofs.lemmas.Option.{none-some}
use Rattle.bmp_graph.specs.Graph.{Graph, vertex_count}
use Rattle.bmp_linear.specs.declared.blocks.DegreeBlock.{DegreeBlock}
use Rattle.bmp_linear.proofs.KernelSpans.{basis_in_kernel, kernel_spans}
use Rattle.bmp_sheaf.specs.Fields.{IsOverField}
use Rattle.bmp_sheaf.specs.Sheaves.{SheafData}
use Rattle.bmp_sections.specs.Sections.{IsReached, IsLifted, IsMinimal}
use Rattle.bmp_sections.specs.Numbers.{equation_matrix}
use Rattle.bmp_sections.specs.TupleLists.{TupleList, tuples_in, tuples_over}
use Rattle.bmp_cover.specs.Evidence.{CatchAll, AreSections}
use Rattle.bmp_cover.specs.BradenMacPherson.{IsTopVertex, IsBradenMacPherson}
use Rattle.bmp_cover.proofs.EvidenceLemmas.{evidence_sections, evidence_catches}
use Rattle.bmp_cover.proofs.CoverTheorems.{passing_covers, passing_sources, passing_duals}
use Rattle.bmp_cover.proofs.TopCounts.{counts_are_dimensions}
use Rattle.bmp_levels.proofs.LevelSoundness.{passed_is_braden_macpherson as passed_by_levels}
use Rattle.bmp_cert.specs.Counts.{Written, part_of}
use Rattle.bmp_check.specs.declared.method.Method.{Method}
use Rattle.bmp_check.specs.declared.method.Method.TheVariants.{Spaces, Levels}
use Rattle.bmp_check.specs.Methods.{method_of}
use Rattle.bmp_check.specs.Comparisons.{Comparison, first_failure}
use Rattle.bmp_check.specs.PartsSheaf.{parts_sheaf}
use Rattle.bmp_check.specs.BlockData.{block_of, top_vertex}
use Rattle.bmp_check.specs.Verdicts.{HasBlock, BlocksPass, Passes, top_comparison, top_comparisons}
use Rattle.bmp_check.specs.Fits.{DegreesFit, ShapesFit}
use Rattle.bmp_check.specs.Accepted.{IsCheckable, PassedIsBradenMacPherson, PassedGeneratorsAreBounded, PassedCountsAreDimensions}
use Rattle.bmp_check.proofs.SizeCheckLemmas.{first_passes, first_fails}
use Rattle.bmp_check.proofs.FitLemmas.{shapes_fit}
use Rattle.bmp_check.proofs.CheckableLemmas.{over_field}

-- ---- the greatest vertex

-- where none of a list fails, its first comparison passes
head_passes : (a : Comparison) (cs : List Comparison) → first_failure (a ∷ cs) ≡ None → (a.passes ≡ true) ×
    (first_failure cs ≡ None)
head_passes a cs none = elim (cases_Bool a.passes) [
  | inl passes ↦ (passes, sym (first_passes a cs passes) ∙ none)
  | inr fails ↦ absurd (none-some a.refusal (sym none ∙ first_fails a cs fails))
]

one_of_degree_zero : (es : List ℕ) → length es ≡ 1 → get_or es 0 0 ≡ 0 → es ≡ 0 ∷ []
one_of_degree_zero [] long first = absurd (omega (arith, long))
one_of_degree_zero (e ∷ []) long first = ap (λ (k : ℕ). k ∷ []) first
one_of_degree_zero (e ∷ f ∷ es) long first = absurd (omega (arith, long))

pub top_degrees : (c : Written) → first_failure (top_comparisons c) ≡ None →
    (part_of c (length c.parts - 1)).degrees ≡ 0 ∷ []
top_degrees c none =
    let degrees : List ℕ = (part_of c (length c.parts - 1)).degrees in
    let first = head_passes (top_comparison c 0 (length degrees) 1) (top_comparison c 1 (get_or degrees 0 0) 0 ∷ [])
    none in
    let second = head_passes (top_comparison c 1 (get_or degrees 0 0) 0) [] first.1 in
    one_of_degree_zero degrees (eqb-true (length degrees) 1 first.0) (eqb-true (get_or degrees 0 0) 0 second.0)

-- ---- what soundness rests on

pub record IsSoundBase (G : Graph) (m : Method) (c : Written) : Type 0 where
  pub over : IsOverField G
  pub small : G.rank ≤ 6
  pub is_top : IsTopVertex G (top_vertex G)
  pub top_stalk : (part_of c (top_vertex G)).degrees ≡ 0 ∷ []
  pub fits : ShapesFit G m c
  pub blocks : BlocksPass G m c

base_of : (G : Graph) (v : ℕ) (c : Written) → IsCheckable G v c → Passes G v c → IsSoundBase G (method_of v) c
base_of G v c checkable passes = record {
  over = over_field checkable.on;
  small = checkable.on.few_variables;
  is_top = checkable.on.last_is_top;
  top_stalk = subst (λ n. (part_of c (n - 1)).degrees ≡ 0 ∷ []) passes.count (top_degrees c passes.top);
  fits = shapes_fit G c checkable.formed passes.count passes.shape;
  blocks = passes.blocks;
}

-- ---- by whole spaces: one vertex and degree

module _ {G : Graph} {c : Written} (base : IsSoundBase G Spaces c) (x d : ℕ) (block : HasBlock G c x d) where
  abbrev F : SheafData
  F = parts_sheaf G c

  abbrev own : DegreeBlock
  own = block_of c x d

  abbrev tuples : TupleList
  tuples = tuples_over G F x d own.kernel.basis

  sections : AreSections G F x d (tuples_in G F d tuples) (length own.kernel.basis)
  sections = evidence_sections G F x d base.over own.kernel
      (basis_in_kernel G.prime (equation_matrix G F x d) own.kernel (base.blocks x d block).0)

  catches : CatchAll G F x d (tuples_in G F d tuples) (length own.kernel.basis)
  catches =
      evidence_catches G F x d base.over own.kernel
      (kernel_spans G.prime (equation_matrix G F x d) own.kernel base.over.two (base.fits.blocks x d block).kernel
      (base.blocks x d block).0)

  block_lifts : IsLifted G F x d
  block_lifts = passing_covers G F x d base.over base.small tuples own.cover
      (λ r compared. (base.blocks x d block).1 r (inl compared)) catches

  block_reaches : ((k : ℕ) → k < d → IsReached G F x k) → IsReached G F x d
  block_reaches lower =
      passing_sources G F x d base.over base.small tuples own.cover
      (λ r compared. (base.blocks x d block).1 r (inr (inl compared))) sections lower

  block_is_minimal : IsMinimal G F x d
  block_is_minimal =
      passing_duals G F x d base.over base.small tuples own.cover
      (λ r compared. (base.blocks x d block).1 r (inr (inr compared)))

-- by rising degree
reached_below :
    {G : Graph} {c : Written} (base : IsSoundBase G Spaces c) (x n d : ℕ) → x + 1 < vertex_count G → d < n →
    d ≤ c.degree → IsReached G (parts_sheaf G c) x d
reached_below base x zero d vertex before most = absurd (omega arith)
reached_below base x (suc n) d vertex before most =
    block_reaches base x d (vertex, most) (λ k lower. reached_below base x n k vertex (omega arith) (omega arith))

-- ---- all of them, by the method

is_sound : (m : Method) {G : Graph} {c : Written} → IsSoundBase G m c →
    IsBradenMacPherson G (parts_sheaf G c) c.degree (top_vertex G)
is_sound Spaces base = record {
  is_top = base.is_top;
  top_stalk = base.top_stalk;
  reached = λ x d within other most. reached_below base x (suc d) d (omega arith) (omega arith) most;
  lifted = λ x d within other most. block_lifts base x d (omega arith, most);
  minimal = λ x d within other most. block_is_minimal base x d (omega arith, most);
}
is_sound Levels {G = G} {c = c} base =
    passed_by_levels G (parts_sheaf G c) c.degree (top_vertex G) (block_of c) base.over base.small base.is_top
    (record {
      top_stalk = base.top_stalk;
      kernels = λ x d within other most.
          let block : HasBlock G c x d = (omega arith, most) in
          record { fits = (base.fits.blocks x d block).kernel; passes = (base.blocks x d block).0 };
      covers = λ x d within other most. (base.blocks x d (omega arith, most)).1;
    })

degrees_fit : {G : Graph} {m : Method} {c : Written} → ShapesFit G m c → (x : ℕ) → x < vertex_count G →
    DegreesFit c.degree (part_of c x).degrees
degrees_fit {G = G} {m = m} {c = c} fits x within = elim (cases_eq x (vertex_count G - 1)) [
  | inl last ↦ subst (λ (y : ℕ). DegreesFit c.degree (part_of c y).degrees) (sym last) fits.top
  | inr other ↦ (fits.vertices x (omega arith)).degrees
]

pub passed_is_braden_macpherson : PassedIsBradenMacPherson
passed_is_braden_macpherson G v c checkable passes = is_sound (method_of v) (base_of G v c checkable passes)

pub passed_generators_are_bounded : PassedGeneratorsAreBounded
passed_generators_are_bounded G v c checkable passes x g within below =
    All-get_or (λ (e : ℕ). e ≤ c.degree) (part_of c x).degrees g 0 below
    (degrees_fit (base_of G v c checkable passes).fits x within).most

pub passed_counts_are_dimensions : PassedCountsAreDimensions
passed_counts_are_dimensions G v c checkable passes =
    let field : IsOverField G = over_field checkable.on in
    counts_are_dimensions G (parts_sheaf G c) c.degree (top_vertex G) (omega (arith, field.two))
    checkable.on.few_variables (passed_is_braden_macpherson G v c checkable passes)
