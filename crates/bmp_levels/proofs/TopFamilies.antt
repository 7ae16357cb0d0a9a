-- The first family: the monomials at the one longest vertex.
use Rattle.std.proofs.Common.{◌≡◌, ℕ, ◌%◌, ◌<◌, ◌≤◌, List, [], ◌∷◌}
use Rattle.std.proofs.Common.{sym, ap, subst, ◌∙◌, inl, inr, arith}
use Rattle.std.specs.Prelude.{slice_index}
use Rattle.std.proofs.lemmas.Bool.{cases_eq}
use Rattle.bmp_math.specs.Vectors.{unit}
use Rattle.bmp_math.specs.Matrices.{combination}
use Rattle.bmp_math.proofs.SumLemmas.{sum_below-zero, sum_below-suc}
use Rattle.bmp_math.proofs.UnitLemmas.{combination_unit}
use Rattle.bmp_poly.specs.Exponents.{count}
use Rattle.bmp_graph.specs.Graph.{Graph, vertex_count, edge_count, length_at, lower, upper}
use Rattle.bmp_sheaf.specs.Fields.{IsOverField}
use Rattle.bmp_sheaf.specs.Elements.{SameElement}
use Rattle.bmp_sheaf.specs.Sheaves.{SheafData, Tuple}
use Rattle.bmp_sheaf.specs.Coordinates.{component_count, stalk_count, stalk_place}
use Rattle.bmp_sheaf.proofs.StalkPlaces.{component_is_count, stalk_place_below}
use Rattle.bmp_sheaf.proofs.Components.{IsStalkPlace, stalk_place_of}
use Rattle.bmp_sheaf.proofs.StalkNumbers.{stalk_number, stalk_number_at}
use Rattle.bmp_sections.specs.TupleLists.{tuples_in}
use Rattle.bmp_cover.specs.BradenMacPherson.{IsTopVertex}
use Rattle.bmp_cover.specs.Evidence.{combined_tuple}
use Rattle.bmp_levels.specs.Levels.{level}
use Rattle.bmp_levels.specs.Families.{top_family}
use Rattle.bmp_levels.specs.Bases.{IsBasis}
use Rattle.bmp_levels.specs.Statements.{TopFamilyIsBasis}

-- one generator of degree 0 has as many coordinates as there are monomials
pub top_count : (r d : ℕ) (degrees : List ℕ) → degrees ≡ 0 ∷ [] → stalk_count r degrees d ≡ count r d
top_count r d degrees one =
    ap (λ es. stalk_count r es d) one
    ∙ sum_below-suc (λ g. component_count r d (slice_index (0 ∷ []) g)) 0
    ∙ omega (
      arith,
      sum_below-zero (λ g. component_count r d (slice_index (0 ∷ []) g)),
      component_is_count r d d 0
          (omega arith),
    )

-- the one longest vertex
pub only_top :
    (G : Graph) (top y : ℕ) → IsTopVertex G top → y < vertex_count G → length_at G top ≤ length_at G y → y ≡ top
only_top G top y is_top below long = elim (cases_eq y top) [
  | inl same ↦ same
  | inr other ↦ absurd (let short = is_top.longest y below other in omega arith)
]

-- no edge leads up from a vertex as long as the longest
pub none_from_top :
    (G : Graph) (top e : ℕ) → IsOverField G → IsTopVertex G top → e < edge_count G →
    length_at G top ≤ length_at G (lower G e) → ⊥
none_from_top G top e over is_top below long =
    let ends = over.is_graph.ends e below in
    let rises : length_at G (lower G e) < length_at G (upper G e) = ends.2 in
    let high : upper G e ≡ top = only_top G top (upper G e) is_top ends.1 (omega arith) in
    let same : length_at G (upper G e) ≡ length_at G top = ap (length_at G) high in
    omega arith

module _ (G : Graph) (F : SheafData) (d top : ℕ) (over : IsOverField G) (wide : G.rank ≤ 6) (is_top : IsTopVertex G top)
    (one : F.degrees top ≡ 0 ∷ []) where
  abbrev members : ℕ → Tuple
  members = tuples_in G F d (top_family G F d top)

  abbrev coefficient : Tuple → ℕ → ℕ
  coefficient s = stalk_number G.rank (F.degrees top) d (s top)

  counted : (q : ℕ) → q < stalk_count G.rank (F.degrees top) d → q < count G.rank d
  counted q below = omega (arith, below, top_count G.rank d (F.degrees top) one)

  spans_at_top :
      (s : Tuple) → SameElement G.prime G.rank (F.degrees top) d (s top)
      (combined_tuple (coefficient s) members (count G.rank d) top)
  spans_at_top s g t has m is =
      let q = stalk_place G.rank (F.degrees top) d g m in
      ap (λ z. z % G.prime)
      (sym (stalk_number_at G.rank (F.degrees top) d (s top) g t m wide has is)
      ∙ sym (combination_unit (count G.rank d) q (coefficient s)
      (counted q (stalk_place_below 6 G.rank d g t (F.degrees top) m wide has is))))

  pub top_basis : IsBasis G F (level G (length_at G top)) d (top_family G F d top)
  top_basis = record {
    sections = record { each = λ j inside e below low up. absurd (none_from_top G top e over is_top below low) };
    spanning = record {
      spanned = λ s given. (
        coefficient s,
        λ y below long.
            subst (λ z. SameElement G.prime G.rank (F.degrees z) d (s z)
            (combined_tuple (coefficient s) members (count G.rank d) z))
            (sym (only_top G top y is_top below long)) (spans_at_top s),
      );
    };
    independent = record {
      independent = λ c none j inside.
          let within : j < stalk_count G.rank (F.degrees top) d = omega
          (arith, inside, top_count G.rank d (F.degrees top) one) in
          let stands : IsStalkPlace G.rank d (F.degrees top) j = stalk_place_of G.rank d
          (F.degrees top) wide j within in
          ap (λ z. z % G.prime)
          (sym (combination_unit (count G.rank d) j c inside)
          ∙ ap (combination c unit (count G.rank d)) (sym stands.is))
          ∙ none top is_top.vertex (omega arith) stands.generator stands.degree stands.has stands.monomial
          stands.is_monomial;
    };
  }

pub top_family_is_basis : TopFamilyIsBasis
top_family_is_basis G F d top over wide is_top one = top_basis G F d top over wide is_top one
