-- The edge equations decide what a section is.
use Rattle.std.proofs.Common.{◌≡◌, ℕ, suc, ◌+◌, ◌%◌, ◌<◌, Bool, List, sym, ap, subst, ◌∙◌, arith}
use Rattle.std.specs.Prelude.{slice_index}
use Rattle.bmp_math.specs.Congruences.{SameMod}
use Rattle.bmp_math.proofs.CongruenceLemmas.{same_cancel, same_below, same_remainders}
use Rattle.bmp_poly.specs.Exponents.{IsMonomial}
use Rattle.bmp_poly.specs.Forms.{IsLabel}
use Rattle.bmp_graph.specs.Graph.{Graph, edge_count, lower, upper, label}
use Rattle.bmp_sheaf.specs.Elements.{HasComponent, CongruentElement}
use Rattle.bmp_sheaf.specs.Sheaves.{SheafData, Tuple, lift_of, EqualOnEdge}
use Rattle.bmp_sheaf.specs.Coordinates.{leading, edge_place, edge_module_count, AreEdgeCoordinates}
use Rattle.bmp_sheaf.proofs.CoordinateLemmas.{edge_coordinates_decide}
use Rattle.bmp_sheaf.proofs.StalkPlaces.{edge_place_below}
use Rattle.bmp_sections.specs.Positions.{equation_start, AreEquationsOn}
use Rattle.bmp_sections.specs.Statements.{HasLabels, VanishOn, EquationsDecide}

module _ (q d : ℕ) (G : Graph) (F : SheafData) (U : ℕ → Bool) (s : Tuple) (values : ℕ → ℕ) (has : HasLabels (suc q) G)
    (e : ℕ) (is_edge : e < edge_count G) (on : AreEquationsOn G F U d s values e) where
  below_p : (i : ℕ) → i < edge_module_count G F d e → values (equation_start G F U d e + i) < suc q
  below_p i l = subst (λ p. values (equation_start G F U d e + i) < p) has.prime (on.below i l)

  difference : (i : ℕ) → i < edge_module_count G F d e →
      SameMod (suc q) (values (equation_start G F U d e + i) + on.from_upper i) (on.from_lower i)
  difference i l = subst (λ p. SameMod p (values (equation_start G F U d e + i) + on.from_upper i) (on.from_lower i))
      has.prime (on.difference i l)

  on_lower : AreEdgeCoordinates (suc q) G.rank (label G e) (leading G e) (F.degrees (upper G e)) d
      (lift_of G F e d (s (lower G e))) on.from_lower
  on_lower = subst (λ p. AreEdgeCoordinates p G.rank (label G e) (leading G e) (F.degrees (upper G e)) d
      (lift_of G F e d (s (lower G e))) on.from_lower) has.prime on.lower_is

  on_upper : AreEdgeCoordinates (suc q) G.rank (label G e) (leading G e) (F.degrees (upper G e)) d (s (upper G e))
      on.from_upper
  on_upper = subst (λ p. AreEdgeCoordinates p G.rank (label G e) (leading G e) (F.degrees (upper G e)) d (s (upper G e))
      on.from_upper) has.prime on.upper_is

  leads : IsLabel (suc q) G.rank (label G e) (leading G e)
  leads = has.labels e is_edge

  place_below : (g t : ℕ) (m : List ℕ) → HasComponent (F.degrees (upper G e)) d g t → IsMonomial 6 G.rank t m →
      slice_index m (leading G e) ≡ 0 →
      edge_place G.rank (leading G e) (F.degrees (upper G e)) d g m < edge_module_count G F d e
  place_below g t m component mono pure =
      edge_place_below G.rank (leading G e) d g t (F.degrees (upper G e)) m leads.here has.wide component mono pure

  -- equal on the edge: the equations vanish
  vanish : EqualOnEdge G F e d (lift_of G F e d (s (lower G e))) (s (upper G e)) → VanishOn G F U d values e
  vanish equal g t m component mono pure =
      let i = edge_place G.rank (leading G e) (F.degrees (upper G e)) d g m in
      let inside : edge_place G.rank (leading G e) (F.degrees (upper G e)) d g m < edge_module_count G F d e =
      place_below g t m component mono pure in
      let congruent : CongruentElement (suc q) G.rank (F.degrees (upper G e)) (label G e) d
      (lift_of G F e d (s (lower G e))) (s (upper G e)) =
      subst (λ p. CongruentElement p G.rank (F.degrees (upper G e)) (label G e) d (lift_of G F e d (s (lower G e)))
      (s (upper G e))) has.prime equal in
      let same : on.from_lower i ≡ on.from_upper i =
      (edge_coordinates_decide q G.rank (leading G e) d (label G e) (F.degrees (upper G e))
      (lift_of G F e d (s (lower G e))) (s (upper G e)) on.from_lower on.from_upper leads has.wide on_lower
      on_upper).0 congruent g t m component mono pure in
      let alone : on.from_lower i ≡ 0 + on.from_upper i = omega (arith, same) in
      same_below (suc q) (values (equation_start G F U d e + i)) 0 (below_p i inside) (omega arith)
      (same_cancel (suc q) (values (equation_start G F U d e + i)) 0 (on.from_upper i)
      (difference i inside ∙ ap (λ z. z % suc q) alone))

  -- the equations vanish: equal on the edge
  equal : VanishOn G F U d values e → EqualOnEdge G F e d (lift_of G F e d (s (lower G e))) (s (upper G e))
  equal zeros =
      subst (λ p. CongruentElement p G.rank (F.degrees (upper G e)) (label G e) d (lift_of G F e d (s (lower G e)))
      (s (upper G e))) (sym has.prime)
      ((edge_coordinates_decide q G.rank (leading G e) d (label G e) (F.degrees (upper G e))
      (lift_of G F e d (s (lower G e))) (s (upper G e)) on.from_lower on.from_upper leads has.wide on_lower
      on_upper).1
      (λ g t m component mono pure.
      let i = edge_place G.rank (leading G e) (F.degrees (upper G e)) d g m in
      let inside : edge_place G.rank (leading G e) (F.degrees (upper G e)) d g m < edge_module_count G F d e =
      place_below g t m component mono pure in
      let alone : values (equation_start G F U d e + i) + on.from_upper i ≡ on.from_upper i =
      omega (arith, zeros g t m component mono pure) in
      let x = on_lower g t component in
      let y = on_upper g t component in
      same_remainders (suc q) (on.from_lower i) (on.from_upper i) (x.0 m) (y.0 m) (x.2 m mono pure) (y.2 m mono pure)
      (sym (sym (ap (λ z. z % suc q) alone) ∙ difference i inside))))

pub equations_decide : EquationsDecide
equations_decide q d G F U s values has are = (
  (λ section e is_edge low high. vanish q d G F U s values has e is_edge (are e is_edge low high)
      (section e is_edge low high)),
  (λ zeros e is_edge low high. equal q d G F U s values has e is_edge (are e is_edge low high)
      (zeros e is_edge low high)),
)
