-- The comparisons of covers, sources and dual forms by their two sides, and all three kinds together.
use Rattle.std.proofs.Common.{◌≡◌, ◌≢◌, ℕ, ◌%◌, ◌<◌, length, refl, sym, ap, ◌∙◌, inl, inr, arith}
use Rattle.std.specs.Prelude.{slice_index}
use Rattle.bmp_math.specs.Vectors.{unit}
use Rattle.bmp_math.specs.Matrices.{combination}
use Rattle.bmp_graph.specs.Graph.{Graph}
use Rattle.bmp_linear.specs.declared.evidence.CoverEvidence.{CoverEvidence}
use Rattle.bmp_linear.specs.Evidence.{vector_at}
use Rattle.bmp_sheaf.specs.Sheaves.{SheafData, boundary_of_element, boundary_of_tuple}
use Rattle.bmp_sheaf.specs.Coordinates.{stalk_count, element_of, boundary_count}
use Rattle.bmp_sheaf.specs.Numbers.{boundary_number, boundary_matrix, unit_at}
use Rattle.bmp_sections.specs.TupleLists.{TupleList, tuples_in}
use Rattle.bmp_cover.specs.Kinds.{kind_number}
use Rattle.bmp_cover.specs.Evidence.{combined_tuple, generator_place}
use Rattle.bmp_cover.specs.CoverChecks.{source_place, ComparesCover, ComparesSource, ComparesDual, CoverCompares, CoverPasses, IsFirstCoverFailure}
use Rattle.bmp_cover.specs.declared.fault.CoverFault.{CoverFault}
use Rattle.bmp_cover.specs.declared.kind.Kind.TheVariants.{Cover, Source, Dual}
use Rattle.bmp_cover.proofs.FaultLemmas.{AreSides}

module _ (G : Graph) (F : SheafData) (x d : ℕ) (list : TupleList) (e : CoverEvidence) where
  -- the boundary coordinates of the cover and of the tuple of an index
  abbrev pub cover_left : ℕ → ℕ → ℕ
  cover_left i = boundary_number G F x d
      (boundary_of_element G F d (element_of G.rank (F.degrees x) d (vector_at e.covers i)))

  abbrev pub cover_right : ℕ → ℕ → ℕ
  cover_right i = boundary_number G F x d (boundary_of_tuple G (tuples_in G F d list i))

  pub cover_sides : (i : ℕ) → i < list.count → AreSides (ComparesCover G F x d list e) Cover i (boundary_count G F x d)
      (cover_left i) (cover_right i)
  cover_sides i within = record {
    kinds = λ r c. c.kind;
    sides = λ r c here. (
      c.place,
      c.left_is ∙ ap (λ j. cover_left j r.place) here,
      c.right_is ∙ ap (λ j. cover_right j r.place) here,
    );
    compared = λ k below. record { kind = refl; tuple = within; place = below; left_is = refl; right_is = refl };
  }

  -- those of a generator, and of the combination of its source
  abbrev pub source_left : ℕ → ℕ → ℕ
  source_left g = boundary_number G F x d
      (boundary_of_element G F d (unit_at G.rank (F.degrees x) d (generator_place G F x d g)))

  abbrev pub source_right : ℕ → ℕ → ℕ
  source_right g = boundary_number G F x d
      (boundary_of_tuple G
      (combined_tuple (vector_at e.sources (source_place F x d g)) (tuples_in G F d list) list.count))

  pub source_sides :
      (g : ℕ) → g < length (F.degrees x) → slice_index (F.degrees x) g ≡ d →
      AreSides (ComparesSource G F x d list e) Source g (boundary_count G F x d) (source_left g) (source_right g)
  source_sides g within is_new = record {
    kinds = λ r c. c.kind;
    sides = λ r c here. (
      c.place,
      c.left_is ∙ ap (λ j. source_left j r.place) here,
      c.right_is ∙ ap (λ j. source_right j r.place) here,
    );
    compared = λ k below. record {
      kind = refl;
      generator = within;
      degree = is_new;
      place = below;
      left_is = refl;
      right_is = refl;
    };
  }

  pub no_source : (g : ℕ) → slice_index (F.degrees x) g ≢ d → (r : CoverFault) → ComparesSource G F x d list e r →
      r.index ≡ g → ⊥
  no_source g other r c here = other (ap (slice_index (F.degrees x)) (sym here) ∙ c.degree)

  -- the values of the form of a generator
  abbrev pub dual_left : ℕ → ℕ → ℕ
  dual_left g k = combination (vector_at e.duals (source_place F x d g)) (boundary_matrix G F x d).entry
      (boundary_count G F x d) k % G.prime

  pub dual_sides :
      (g : ℕ) → g < length (F.degrees x) → slice_index (F.degrees x) g ≡ d →
      AreSides (ComparesDual G F x d e) Dual g (stalk_count G.rank (F.degrees x) d) (dual_left g)
      (unit (generator_place G F x d g))
  dual_sides g within is_new = record {
    kinds = λ r c. c.kind;
    sides = λ r c here. (
      c.place,
      c.left_is ∙ ap (λ j. dual_left j r.place) here,
      c.right_is ∙ ap (λ j. unit (generator_place G F x d j) r.place) here,
    );
    compared = λ k below. record {
      kind = refl;
      generator = within;
      degree = is_new;
      place = below;
      left_is = refl;
      right_is = refl;
    };
  }

  pub no_dual : (g : ℕ) → slice_index (F.degrees x) g ≢ d → (r : CoverFault) → ComparesDual G F x d e r → r.index ≡ g →
      ⊥
  no_dual g other r c here = other (ap (slice_index (F.degrees x)) (sym here) ∙ c.degree)

  -- the three kinds in their order
  pub all_pass : CoverPasses (ComparesCover G F x d list e) → CoverPasses (ComparesSource G F x d list e) →
      CoverPasses (ComparesDual G F x d e) → CoverPasses (CoverCompares G F x d list e)
  all_pass covers sources duals r (inl c) = covers r c
  all_pass covers sources duals r (inr (inl c)) = sources r c
  all_pass covers sources duals r (inr (inr c)) = duals r c

  pub cover_first : (fault : CoverFault) → IsFirstCoverFailure (ComparesCover G F x d list e) fault →
      IsFirstCoverFailure (CoverCompares G F x d list e) fault
  cover_first fault is = record {
    compared = inl is.compared;
    differs = is.differs;
    earlier = λ r compared before. elim compared [
      | inl c ↦ is.earlier r c before
      | inr later ↦
          let own : kind_number fault.kind ≡ 4 = ap kind_number is.compared.kind in
          elim later [
            | inl c ↦ let its : kind_number r.kind ≡ 5 = ap kind_number c.kind in
                absurd (elim before [ inl less ↦ omega arith | inr same ↦ omega (arith, same.0) ])
            | inr c ↦ let its : kind_number r.kind ≡ 6 = ap kind_number c.kind in
                absurd (elim before [ inl less ↦ omega arith | inr same ↦ omega (arith, same.0) ])
          ]
    ];
  }

  pub source_first : (fault : CoverFault) → CoverPasses (ComparesCover G F x d list e) →
      IsFirstCoverFailure (ComparesSource G F x d list e) fault →
      IsFirstCoverFailure (CoverCompares G F x d list e) fault
  source_first fault covers is = record {
    compared = inr (inl is.compared);
    differs = is.differs;
    earlier = λ r compared before. elim compared [
      | inl c ↦ covers r c
      | inr later ↦
          elim later [
            | inl c ↦ is.earlier r c before
            | inr c ↦
                let own : kind_number fault.kind ≡ 5 = ap kind_number is.compared.kind in
                let its : kind_number r.kind ≡ 6 = ap kind_number c.kind in
                absurd (elim before [ inl less ↦ omega arith | inr same ↦ omega (arith, same.0) ])
          ]
    ];
  }

  pub dual_first : (fault : CoverFault) → CoverPasses (ComparesCover G F x d list e) →
      CoverPasses (ComparesSource G F x d list e) → IsFirstCoverFailure (ComparesDual G F x d e) fault →
      IsFirstCoverFailure (CoverCompares G F x d list e) fault
  dual_first fault covers sources is = record {
    compared = inr (inr is.compared);
    differs = is.differs;
    earlier = λ r compared before. elim compared [
      | inl c ↦ covers r c
      | inr later ↦ elim later [ inl c ↦ sources r c | inr c ↦ is.earlier r c before ]
    ];
  }
