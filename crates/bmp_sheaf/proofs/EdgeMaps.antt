-- The maps to the edge modules, from the coordinates of the stalks at the two ends: they are linear, and have their
-- matrices.
use Rattle.std.proofs.Common.{◌≡◌, ℕ, ◌+◌, ◌*◌, ◌%◌, ◌<◌, ◌≤◌, List, refl, ap, ◌∙◌}
use Rattle.std.proofs.Math.Nat.{mod-eq_of_lt}
use Rattle.bmp_math.specs.Vectors.{SameVector, IsLinear}
use Rattle.bmp_math.specs.Matrices.{NumbersBelow, image}
use Rattle.bmp_math.proofs.MatrixLemmas.{matrix_of_linear}
use Rattle.bmp_graph.specs.Graph.{Graph, edge_count, lower, upper}
use Rattle.bmp_sheaf.specs.Fields.{IsOverField}
use Rattle.bmp_sheaf.specs.Elements.{Element, SameElement}
use Rattle.bmp_sheaf.specs.Sheaves.{SheafData, lift_of}
use Rattle.bmp_sheaf.specs.Coordinates.{stalk_place, stalk_count, element_of, edge_module_count}
use Rattle.bmp_sheaf.specs.Numbers.{on_edge, unit_at, lower_matrix, upper_matrix}
use Rattle.bmp_sheaf.proofs.StalkPlaces.{stalk_place_below}
use Rattle.bmp_sheaf.proofs.LiftLaws.{lift_same, lift_plus, lift_times}
use Rattle.bmp_sheaf.proofs.EdgeLabels.{label_leads}
use Rattle.bmp_sheaf.proofs.OnEdge.{on_edge_below, on_edge_respects, on_edge-plus, on_edge-times}

-- the same coordinates make the same element
pub element_respects : (p r : ℕ) (degrees : List ℕ) (d : ℕ) (u v : ℕ → ℕ) → r ≤ 6 →
    SameVector p (stalk_count r degrees d) u v →
    SameElement p r degrees d (element_of r degrees d u) (element_of r degrees d v)
element_respects p r degrees d u v wide same g s has m is =
    same (stalk_place r degrees d g m) (stalk_place_below 6 r d g s degrees m wide has is)

module _ (G : Graph) (over : IsOverField G) (F : SheafData) (d e : ℕ) (inside : e < edge_count G) where
  -- the element at the lower end, and at the upper end, with these coordinates
  abbrev pub element_below : (ℕ → ℕ) → Element
  element_below u = element_of G.rank (F.degrees (lower G e)) d u

  abbrev pub element_above : (ℕ → ℕ) → Element
  element_above u = element_of G.rank (F.degrees (upper G e)) d u

  -- the coordinates on the edge of the lift, and of an element at the upper end
  abbrev pub from_below : (ℕ → ℕ) → ℕ → ℕ
  from_below u = on_edge G F d e (lift_of G F e d (element_below u))

  abbrev pub from_above : (ℕ → ℕ) → ℕ → ℕ
  from_above u = on_edge G F d e (element_above u)

  wide : G.rank ≤ 6
  wide = (label_leads G over e inside).rank

  pub from_below_is_linear : IsLinear G.prime (stalk_count G.rank (F.degrees (lower G e)) d) (edge_module_count G F d e)
      from_below
  from_below_is_linear = record {
    respects = λ u v same i below. ap (λ z. z % G.prime)
        (on_edge_respects G over F d e inside (lift_of G F e d (element_below u)) (lift_of G F e d (element_below v))
        (lift_same G F e d (element_below u) (element_below v) wide
        (element_respects G.prime G.rank (F.degrees (lower G e)) d u v wide same)) i below);
    sums = λ u v i below.
        ap (λ z. z % G.prime)
        (on_edge_respects G over F d e inside (lift_of G F e d (λ g m. element_below u g m + element_below v g m))
        (λ g m. lift_of G F e d (element_below u) g m + lift_of G F e d (element_below v) g m)
        (lift_plus G F e d (element_below u) (element_below v)) i below)
        ∙ on_edge-plus G over F d e inside (lift_of G F e d (element_below u)) (lift_of G F e d (element_below v)) i
        below;
    multiples = λ x u i below.
        ap (λ z. z % G.prime)
        (on_edge_respects G over F d e inside (lift_of G F e d (λ g m. x * element_below u g m))
        (λ g m. x * lift_of G F e d (element_below u) g m) (lift_times G F e d x (element_below u)) i below)
        ∙ on_edge-times G over F d e inside x (lift_of G F e d (element_below u)) i below;
  }

  pub from_above_is_linear : IsLinear G.prime (stalk_count G.rank (F.degrees (upper G e)) d) (edge_module_count G F d e)
      from_above
  from_above_is_linear = record {
    respects = λ u v same i below. ap (λ z. z % G.prime)
        (on_edge_respects G over F d e inside (element_above u) (element_above v)
        (element_respects G.prime G.rank (F.degrees (upper G e)) d u v wide same) i below);
    sums = λ u v i below. on_edge-plus G over F d e inside (element_above u) (element_above v) i below;
    multiples = λ x u i below. on_edge-times G over F d e inside x (element_above u) i below;
  }

  -- the matrices are those of the two maps
  pub lower_image : (u : ℕ → ℕ) (i : ℕ) → i < edge_module_count G F d e → image (lower_matrix G F d e) u i
      % G.prime ≡ from_below u i
  lower_image u i below =
      matrix_of_linear G.prime (stalk_count G.rank (F.degrees (lower G e)) d) (edge_module_count G F d e)
      (lower_matrix G F d e) from_below from_below_is_linear refl refl (λ i j row column. refl) u i below
      ∙ mod-eq_of_lt (on_edge_below G over F d e inside (lift_of G F e d (element_below u)) i)

  pub upper_image : (u : ℕ → ℕ) (i : ℕ) → i < edge_module_count G F d e → image (upper_matrix G F d e) u i
      % G.prime ≡ from_above u i
  upper_image u i below =
      matrix_of_linear G.prime (stalk_count G.rank (F.degrees (upper G e)) d) (edge_module_count G F d e)
      (upper_matrix G F d e) from_above from_above_is_linear refl refl (λ i j row column. refl) u i below
      ∙ mod-eq_of_lt (on_edge_below G over F d e inside (element_above u) i)

  pub lower_numbers_below : NumbersBelow G.prime (lower_matrix G F d e)
  lower_numbers_below i j row column =
      on_edge_below G over F d e inside (lift_of G F e d (unit_at G.rank (F.degrees (lower G e)) d j)) i

  pub upper_numbers_below : NumbersBelow G.prime (upper_matrix G F d e)
  upper_numbers_below i j row column = on_edge_below G over F d e inside (unit_at G.rank (F.degrees (upper G e)) d j) i
