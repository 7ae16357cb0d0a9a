-- Where evidence by levels passes, the sheaf is a Braden-MacPherson sheaf and each family is a basis, level by level
-- from the top down.
use Rattle.std.proofs.Common.{◌≡◌, ◌≢◌, ℕ, zero, suc, ◌+◌, ◌-◌, ◌<◌, ◌≤◌, refl, sym, ap, subst, inl, inr, arith}
use Rattle.std.proofs.lemmas.Bool.{cases_eq}
use Rattle.bmp_graph.specs.Graph.{Graph, IsAbove, vertex_count, length_at, upper}
use Rattle.bmp_graph.specs.Graph.IsAbove.{edge}
use Rattle.bmp_graph.specs.Laws.{IsHigher}
use Rattle.bmp_graph.proofs.GraphLemmas.{IsAbove-higher}
use Rattle.bmp_linear.specs.declared.blocks.DegreeBlock.{DegreeBlock}
use Rattle.bmp_linear.specs.Evidence.{vector_at}
use Rattle.bmp_sheaf.specs.Fields.{IsOverField}
use Rattle.bmp_sheaf.specs.Elements.{SameElement, zero_element}
use Rattle.bmp_sheaf.specs.Sheaves.{SheafData, Tuple, boundary_of_tuple}
use Rattle.bmp_sheaf.specs.Coordinates.{element_of}
use Rattle.bmp_sections.specs.Sections.{IsReached, IsLifted, IsMinimal, above}
use Rattle.bmp_sections.specs.TupleLists.{TupleList, tuples_in}
use Rattle.bmp_sections.proofs.SectionLaws.{section_subset}
use Rattle.bmp_sections.proofs.BoundaryLaws.{boundary_same}
use Rattle.bmp_cover.specs.BradenMacPherson.{IsTopVertex, IsBradenMacPherson}
use Rattle.bmp_cover.specs.Evidence.{combined_tuple, CatchAll, AreSections}
use Rattle.bmp_cover.specs.CoverChecks.{CoverCompares, CoverPasses}
use Rattle.bmp_cover.specs.declared.kind.Kind.TheVariants.{Cover}
use Rattle.bmp_cover.proofs.CoverTheorems.{passing_covers, passing_sources, passing_duals}
use Rattle.bmp_cover.proofs.CoverSides.{cover_left, cover_right}
use Rattle.bmp_cover.proofs.EvidenceLemmas.{numbers_are_covers}
use Rattle.bmp_cover.proofs.TopCounts.{counts_are_dimensions}
use Rattle.bmp_levels.specs.Levels.{level, Continues}
use Rattle.bmp_levels.specs.Families.{family}
use Rattle.bmp_levels.specs.Bases.{AreSectionsOver, AreSpanning, IsBasis}
use Rattle.bmp_levels.specs.Evidence.{CoversMembers, ExtendsBy, PassesByLevels}
use Rattle.bmp_levels.specs.Statements.{PassedByLevelsIsBradenMacPherson, PassedByLevelsCountsAreDimensions}
use Rattle.bmp_levels.specs.Statements.{PassedByLevelsFamiliesAreBases}
use Rattle.bmp_levels.proofs.Families.{family_top, family_next}
use Rattle.bmp_levels.proofs.Extending.{sections_extend}
use Rattle.bmp_levels.proofs.ExtendedSections.{are_sections}
use Rattle.bmp_levels.proofs.ExtendedSpans.{are_spanning}
use Rattle.bmp_levels.proofs.ExtendedIndependence.{are_independent}
use Rattle.bmp_levels.proofs.TopFamilies.{only_top, none_from_top, top_family_is_basis}

-- ---- one vertex of length k

-- a list over the longer vertices, and a vertex x of length k
pub record BelowLevel (G : Graph) (F : SheafData) (k d x : ℕ) (list : TupleList) : Type 0 where
  pub over : IsOverField G
  pub here : length_at G x ≡ k
  pub sections : AreSectionsOver G F (level G (suc k)) d (tuples_in G F d list) list.count
  pub spanning : AreSpanning G F (level G (suc k)) d (tuples_in G F d list) list.count
  pub lifted : (y : ℕ) → y < vertex_count G → k < length_at G y → IsLifted G F y d

module _ {G : Graph} {F : SheafData} {k d x : ℕ} {list : TupleList} (at : BelowLevel G F k d x list) where
  longer : (y : ℕ) → IsAbove G y x → k < length_at G y
  longer y high = let h : IsHigher G y x = IsAbove-higher G at.over.is_graph y x high in omega
      (arith, h.longer, at.here)

  pub sections_above : AreSections G F x d (tuples_in G F d list) list.count
  sections_above j inside =
      section_subset G F (level G (suc k)) (above G x) d (tuples_in G F d list j) longer (at.sections.each j inside)

  -- the list catches all boundaries
  pub catches : CatchAll G F x d (tuples_in G F d list) list.count
  catches s given =
      let on : (t : Tuple) × Continues G F x (suc k) d s t = sections_extend G F x k d at.over.is_graph at.lifted s
      given in
      let found = at.spanning.spanned on.0 on.1.section in
      let sum = combined_tuple found.0 (tuples_in G F d list) list.count in (
        found.0,
        boundary_same G F x d (boundary_of_tuple G s) (boundary_of_tuple G sum)
            (λ e below starts.
            let high : IsAbove G (upper G e) x = subst (λ y. IsAbove G (upper G e) y) starts (edge e below refl) in
            subst (λ v. SameElement G.prime G.rank (F.degrees (upper G e)) d v (sum (upper G e)))
            (on.1.agrees (upper G e) high)
            (found.1 (upper G e) (at.over.is_graph.ends e below).1 (longer (upper G e) high))),
      )

-- ---- level by level

module _ (G : Graph) (F : SheafData) (most top : ℕ) (blocks : ℕ → ℕ → DegreeBlock) (over : IsOverField G)
    (wide : G.rank ≤ 6) (is_top : IsTopVertex G top) (passes : PassesByLevels G F most top blocks) where
  abbrev list : ℕ → ℕ → TupleList
  list d k = family G F d top (λ y. blocks y d) k

  -- what holds at all vertices of length at least k
  record Sound (k : ℕ) : Type 0 where
    bases : (d : ℕ) → d ≤ most → IsBasis G F (level G k) d (list d k)
    lifted : (y d : ℕ) → y < vertex_count G → k ≤ length_at G y → d ≤ most → IsLifted G F y d
    reached : (y d : ℕ) → y < vertex_count G → y ≢ top → k ≤ length_at G y → d ≤ most → IsReached G F y d
    minimal : (y d : ℕ) → y < vertex_count G → y ≢ top → k ≤ length_at G y → d ≤ most → IsMinimal G F y d

  not_top : (y : ℕ) → y < vertex_count G → y ≢ top → length_at G top ≤ length_at G y → ⊥
  not_top y below other long = other (only_top G top y is_top below long)

  sound_at_top : Sound (length_at G top)
  sound_at_top = record {
    bases = λ d within.
        subst (IsBasis G F (level G (length_at G top)) d) (sym (family_top G F d top (λ y. blocks y d)))
        (top_family_is_basis G F d top over wide is_top passes.top_stalk);
    lifted = λ y d below long within. record {
      lifted = λ s given. (
        zero_element,
        λ e is_edge starts.
            absurd (none_from_top G top e over is_top is_edge
            (subst (λ z. length_at G top ≤ length_at G z) (sym starts) long)),
      );
    };
    reached = λ y d below other long within. absurd (not_top y below other long);
    minimal = λ y d below other long within. absurd (not_top y below other long);
  }

  module _ (k : ℕ) (short : k < length_at G top) (sound : Sound (suc k)) where
    other_than_top : (x : ℕ) → length_at G x ≡ k → x ≢ top
    other_than_top x here same = let moved : length_at G x ≡ length_at G top = ap (length_at G) same in omega arith

    -- the comparisons at x are with the members of the family over the longer vertices
    covers_pass :
        (x d : ℕ) → x < vertex_count G → length_at G x ≡ k → d ≤ most →
        CoverPasses (CoverCompares G F x d (list d (suc k)) (blocks x d).cover)
    covers_pass x d below here within =
        subst (λ l. CoverPasses (CoverCompares G F x d (list d (suc l)) (blocks x d).cover)) here
        (passes.covers x d below (other_than_top x here) within)

    below_level : (x d : ℕ) → length_at G x ≡ k → d ≤ most → BelowLevel G F k d x (list d (suc k))
    below_level x d here within = record {
      over = over;
      here = here;
      sections = (sound.bases d within).sections;
      spanning = (sound.bases d within).spanning;
      lifted = λ y below long. sound.lifted y d below long within;
    }

    own_lifted : (x d : ℕ) → x < vertex_count G → length_at G x ≡ k → d ≤ most → IsLifted G F x d
    own_lifted x d below here within =
        passing_covers G F x d over wide (list d (suc k)) (blocks x d).cover
        (λ r compared. covers_pass x d below here within r (inl compared)) (catches (below_level x d here within))

    own_minimal : (x d : ℕ) → x < vertex_count G → length_at G x ≡ k → d ≤ most → IsMinimal G F x d
    own_minimal x d below here within =
        passing_duals G F x d over wide (list d (suc k)) (blocks x d).cover
        (λ r compared. covers_pass x d below here within r (inr (inr compared)))

    -- by rising degree
    own_reached : (x n d : ℕ) → x < vertex_count G → length_at G x ≡ k → d < n → d ≤ most → IsReached G F x d
    own_reached x zero d below here before within = absurd (omega arith)
    own_reached x (suc n) d below here before within =
        passing_sources G F x d over wide (list d (suc k)) (blocks x d).cover
        (λ r compared. covers_pass x d below here within r (inr (inl compared)))
        (sections_above (below_level x d here within))
        (λ c lower. own_reached x n c below here (omega arith) (omega arith))

    own_covers :
        (x d : ℕ) → x < vertex_count G → length_at G x ≡ k → d ≤ most →
        CoversMembers G F x d (blocks x d) (list d (suc k))
    own_covers x d below here within =
        let members = list d (suc k) in
        let cover = (blocks x d).cover in
        numbers_are_covers G F x d over (tuples_in G F d members) members.count
        (λ j. element_of G.rank (F.degrees x) d (vector_at cover.covers j))
        (λ j inside n place.
        covers_pass x d below here within
        (record {
          kind = Cover;
          index = j;
          place = n;
          left = cover_left G F x d members cover j n;
          right = cover_right
              G F x d members cover j n;
        })
        (inl (record { kind = refl; tuple = inside; place = place; left_is = refl; right_is = refl })))

    extends : (d : ℕ) → d ≤ most → ExtendsBy G F k d (λ y. blocks y d) (list d (suc k))
    extends d within = record {
      over = over;
      wide = wide;
      kernels = λ x below here. passes.kernels x d below (other_than_top x here) within;
      covers = λ x below here. own_covers x d below here within;
    }

    next_basis : (d : ℕ) → d ≤ most → IsBasis G F (level G k) d (list d k)
    next_basis d within =
        let from : IsBasis G F (level G (suc k)) d (list d (suc k)) = sound.bases d within in
        let by : ExtendsBy G F k d (λ y. blocks y d) (list d (suc k)) = extends d within in
        subst (IsBasis G F (level G k) d) (sym (family_next G F d top (λ y. blocks y d) k short))
        (record {
          sections = are_sections by from.sections;
          spanning = are_spanning by from.sections from.spanning;
          independent = are_independent by from.independent;
        })

    -- a vertex of length k, or a longer one
    sound_next : Sound k
    sound_next = record {
      bases = next_basis;
      lifted = λ y d below long within. elim (cases_eq (length_at G y) k) [
        | inl here ↦ own_lifted y d below here within
        | inr other ↦ sound.lifted y d below (omega arith) within
      ];
      reached = λ y d below away long within. elim (cases_eq (length_at G y) k) [
        | inl here ↦ own_reached y (suc d) d below here (omega arith) within
        | inr other ↦ sound.reached y d below away (omega arith) within
      ];
      minimal = λ y d below away long within. elim (cases_eq (length_at G y) k) [
        | inl here ↦ own_minimal y d below here within
        | inr other ↦ sound.minimal y d below away (omega arith) within
      ];
    }

  sound_from : (n k : ℕ) → k + n ≡ length_at G top → Sound k
  sound_from zero k total = let same : k ≡ length_at G top = omega arith in subst Sound (sym same) sound_at_top
  sound_from (suc n) k total = sound_next k (omega arith) (sound_from n (suc k) (omega arith))

  pub families_are_bases : (k d : ℕ) → k ≤ length_at G top → d ≤ most → IsBasis G F (level G k) d (list d k)
  families_are_bases k d short within = (sound_from (length_at G top - k) k (omega arith)).bases d within

  pub is_braden_macpherson : IsBradenMacPherson G F most top
  is_braden_macpherson =
      let sound : Sound 0 = sound_from (length_at G top) 0 (omega arith) in
      record {
        is_top = is_top;
        top_stalk = passes.top_stalk;
        reached = λ x d below other within. sound.reached x d below other (omega arith) within;
        lifted = λ x d below other within. sound.lifted x d below (omega arith) within;
        minimal = λ x d below other within. sound.minimal x d below other (omega arith) within;
      }

pub passed_is_braden_macpherson : PassedByLevelsIsBradenMacPherson
passed_is_braden_macpherson = is_braden_macpherson

pub passed_families_are_bases : PassedByLevelsFamiliesAreBases
passed_families_are_bases = families_are_bases

pub passed_counts_are_dimensions : PassedByLevelsCountsAreDimensions
passed_counts_are_dimensions G F most top blocks over wide is_top passes =
    counts_are_dimensions G F most top (omega (arith, over.two)) wide
    (is_braden_macpherson G F most top blocks over wide is_top passes)
