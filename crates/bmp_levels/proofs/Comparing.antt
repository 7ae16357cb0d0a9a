-- Lists with the same values make the same comparisons, and are bases together.
use Rattle.std.proofs.Common.{◌≡◌, ℕ, ◌%◌, ◌<◌, ◌≤◌, refl, sym, ap, subst, ◌∙◌, inl, inr, arith}
use Rattle.bmp_graph.specs.Graph.{Graph, IsAbove, upper}
use Rattle.bmp_graph.specs.Graph.IsAbove.{edge}
use Rattle.bmp_linear.specs.declared.evidence.CoverEvidence.{CoverEvidence}
use Rattle.bmp_linear.specs.Evidence.{vector_at}
use Rattle.bmp_sheaf.specs.Fields.{IsOverField}
use Rattle.bmp_sheaf.specs.Elements.{SameElement}
use Rattle.bmp_sheaf.specs.Sheaves.{SheafData, Tuple, boundary_of_tuple}
use Rattle.bmp_sheaf.specs.Coordinates.{boundary_count}
use Rattle.bmp_sheaf.specs.Numbers.{boundary_number}
use Rattle.bmp_sheaf.proofs.ElementLaws.{same_combination, same_chained, equal_same}
use Rattle.bmp_sheaf.proofs.EdgeMaps.{element_respects}
use Rattle.bmp_sheaf.proofs.BoundaryNumbers.{boundary_number_respects}
use Rattle.bmp_sections.specs.Sections.{above}
use Rattle.bmp_sections.specs.TupleLists.{TupleList, tuples_in}
use Rattle.bmp_cover.specs.Evidence.{combined_tuple}
use Rattle.bmp_cover.specs.CoverChecks.{source_place, CoverCompares}
use Rattle.bmp_cover.specs.declared.fault.CoverFault.{CoverFault}
use Rattle.bmp_levels.specs.Lists.{SameList}
use Rattle.bmp_levels.specs.Families.{stalk_size}
use Rattle.bmp_levels.specs.Statements.{ComparisonsAgree}

-- the tuples of two lists are as many, and have the same values at the vertices of U
pub record SameTuples (G : Graph) (F : SheafData) (U : ℕ → Type 0) (d : ℕ) (a b : TupleList) : Type 0 where
  pub count : a.count ≡ b.count
  pub value :
      (j y : ℕ) → j < b.count → U y →
      SameElement G.prime G.rank (F.degrees y) d (tuples_in G F d a j y) (tuples_in G F d b j y)

pub tuples_turned :
    {G : Graph} {F : SheafData} {U : ℕ → Type 0} {d : ℕ} {a b : TupleList} → SameTuples G F U d a b →
    SameTuples G F U d b a
tuples_turned same = record {
  count = sym same.count;
  value = λ j y is_member inside g t has m is.
      sym (same.value j y (omega (arith, is_member, same.count)) inside g t has m is);
}

pub same_list_tuples :
    {G : Graph} {F : SheafData} {U : ℕ → Type 0} {d : ℕ} {a b : TupleList} → G.rank ≤ 6 → SameList U a b →
    ((y : ℕ) → U y → b.size y ≡ stalk_size G F d y) → SameTuples G F U d a b
same_list_tuples {G = G} {F = F} {d = d} {a = a} {b = b} wide same sizes = record {
  count = same.count;
  value = λ j y is_member inside.
      element_respects G.prime G.rank (F.degrees y) d (a.value j y) (b.value j y) wide
      (λ c below. ap (λ z. z % G.prime) (same.value j y c is_member inside
      (subst (λ n. c < n) (sym (sizes y inside)) below)));
}

module _ {G : Graph} {F : SheafData} {U : ℕ → Type 0} {d : ℕ} {a b : TupleList} (same : SameTuples G F U d a b) where
  -- their combinations have the same values
  pub same_sums :
      (c : ℕ → ℕ) (y : ℕ) → U y →
      SameElement G.prime G.rank (F.degrees y) d (combined_tuple c (tuples_in G F d a) a.count y)
      (combined_tuple c (tuples_in G F d b) b.count y)
  same_sums c y inside =
      same_chained G.prime G.rank (F.degrees y) d (combined_tuple c (tuples_in G F d a) a.count y)
      (combined_tuple c (tuples_in G F d a) b.count y) (combined_tuple c (tuples_in G F d b) b.count y)
      (equal_same G.prime G.rank (F.degrees y) d (combined_tuple c (tuples_in G F d a) a.count y)
      (combined_tuple c (tuples_in G F d a) b.count y)
      (λ g m. ap (λ n. combined_tuple c (tuples_in G F d a) n y g m) same.count))
      (same_combination G.prime G.rank (F.degrees y) d c (λ j. tuples_in G F d a j y)
      (λ j. tuples_in G F d b j y) b.count
      (λ j is_member. same.value j y is_member inside))

module _ {G : Graph} {F : SheafData} {x d : ℕ} {a b : TupleList} (over : IsOverField G)
    (same : SameTuples G F (above G x) d a b) where
  -- tuples with the same values above x have the same boundary numbers there
  same_numbers :
      (s t : Tuple) → ((y : ℕ) → IsAbove G y x → SameElement G.prime G.rank (F.degrees y) d (s y) (t y)) →
      (k : ℕ) → k < boundary_count G F x d →
      boundary_number G F x d (boundary_of_tuple G s) k ≡ boundary_number G F x d (boundary_of_tuple G t) k
  same_numbers s t agree =
      boundary_number_respects G F x d over (boundary_of_tuple G s) (boundary_of_tuple G t)
      (λ e is_edge starts. agree (upper G e) (subst (λ y. IsAbove G (upper G e) y) starts (edge e is_edge refl)))

  pub compares_too : (e : CoverEvidence) (r : CoverFault) → CoverCompares G F x d a e r → CoverCompares G F x d b e r
  compares_too e r (inl c) =
      inl (record {
        kind = c.kind;
        tuple = omega (arith, c.tuple, same.count);
        place = c.place;
        left_is = c.left_is;
        right_is =
            c.right_is
            ∙ same_numbers (tuples_in G F d a r.index) (tuples_in G F d b r.index)
            (λ y high. same.value r.index y (omega (arith, c.tuple, same.count)) high)
            r.place c.place;
      })
  compares_too e r (inr (inl c)) =
      let factors = vector_at e.sources (source_place F x d r.index) in
      inr (inl (record {
        kind = c.kind;
        generator = c.generator;
        degree = c.degree;
        place = c.place;
        left_is = c.left_is;
        right_is =
            c.right_is
            ∙ same_numbers (combined_tuple factors (tuples_in G F d a) a.count)
            (combined_tuple factors (tuples_in G F d b) b.count)
            (λ y high. same_sums same factors y high) r.place c.place;
      }))
  compares_too e r (inr (inr c)) = inr (inr c)

pub comparisons_agree : ComparisonsAgree
comparisons_agree G F x d a b e over wide same sizes r =
    let tuples : SameTuples G F (above G x) d a b = same_list_tuples wide same sizes in
    (compares_too over tuples e r, compares_too over (tuples_turned tuples) e r)
