-- The root of an edge.
use Rattle.std.proofs.Common.{◌≡◌, ℕ, ◌<◌, List, length, get_or, Some, slice_get, arith, refl, sym, subst, ◌∙◌}
use Rattle.std.proofs.lemmas.Option.{slice_get_within, slice_get_read, get_or_from_slice_get}
use Rattle.bmp_roots.specs.Pairs.{pair_of}
use Rattle.bmp_roots.specs.RootPairs.{RootPair}
use Rattle.bmp_roots.specs.RootSystems.{matrix_of, positives, positive_roots_of}
use Rattle.bmp_roots.specs.declared.root_pair.Pair.{Pair}
use Rattle.bmp_roots.specs.declared.root_system.Roots.{Roots}
use Rattle.bmp_weyl.specs.Elements.{IsElement, AreElementsOfOne, IsReflection}
use Rattle.bmp_weyl.specs.declared.elem.Elem.{Elem}
use Rattle.bmp_bruhat.specs.Edges.{IsEdge, IsEdgeOfRoot}
use Rattle.bmp_bruhat.proofs.EdgeLemmas.{one_at, some_at, pair_is_positive, edge_of_root}
use Rattle.bmp_bruhat.proofs.AddingLemmas.{IsTimes, are_elements, is_reflected, edge_high}

-- an edge gives its ends
pub edge_ends : (roots : Roots) (list : List Elem) (x y : ℕ) →
    (q : RootPair) × IsEdge (matrix_of roots) (positive_roots_of roots) list x y q → (x < length list) ×
    (y < length list)
edge_ends roots list x y given =
    (slice_get_within list x given.1.low given.1.low_is, slice_get_within list y given.1.high given.1.high_is)

module _ (roots : Roots) (list : List Elem) (x y : ℕ)
    (given : (q : RootPair) × IsEdge (matrix_of roots) (positive_roots_of roots) list x y q) (low high : Elem)
    (low_is : (d : Elem) → low ≡ get_or list x d) (high_is : (d : Elem) → high ≡ get_or list y d)
    (j : ℕ) (j_in : j < length (positives roots)) (r : Elem)
    (reflection : (d : Pair) → IsReflection (matrix_of roots) (pair_of (get_or (positives roots) j d)) r) where
  low_at : slice_get list x ≡ Some low
  low_at = slice_get_read list (length list) x low refl (edge_ends roots list x y given).0 (low_is low)

  high_at : slice_get list y ≡ Some high
  high_at = slice_get_read list (length list) y high refl (edge_ends roots list x y given).1 (high_is high)

  low_element : IsElement (matrix_of roots) low
  low_element =
      subst (λ e. IsElement (matrix_of roots) e) (one_at list x given.1.low low given.1.low_is low_at)
      (given.1.reflected.before, given.1.reflected.before_is)

  pair_at : (pair : Pair) × (slice_get (positives roots) j ≡ Some pair)
  pair_at = some_at (positives roots) j j_in

  reflection_at : IsReflection (matrix_of roots) (pair_of pair_at.0) r
  reflection_at =
      subst (λ q. IsReflection (matrix_of roots) (pair_of q) r)
      (get_or_from_slice_get (positives roots) j pair_at.0 pair_at.0 pair_at.1) (reflection pair_at.0)

  pub root_operands : AreElementsOfOne r low
  root_operands = are_elements roots j pair_at.0 pair_at.1 r low reflection_at low_element

  module _ (above : Elem) (product : IsTimes r low above) where
    -- the product is the upper end
    pub root_found : above ≡ high → IsEdgeOfRoot roots list x y j
    root_found same =
        let edge = given.1 in
        let low_same = one_at list x edge.low low edge.low_is low_at in
        let high_same = one_at list y edge.high high edge.high_is high_at in
        record {
          pair = pair_at.0;
          pair_is = pair_at.1;
          edge = record {
            low = edge.low;
            high = edge.high;
            low_is = edge.low_is;
            high_is = edge.high_is;
            pair = (pair_is_positive roots j pair_at.0 pair_at.1).0;
            positive = (pair_is_positive roots j pair_at.0 pair_at.1).1;
            reflected = is_reflected roots j pair_at.0 pair_at.1 r edge.low reflection_at
                (edge.reflected.before, edge.reflected.before_is) edge.high
                (subst (λ e. IsTimes r edge.low e) (same ∙ sym high_same)
                (subst (λ e. IsTimes r e above) (sym low_same) product));
            longer = edge.longer;
          };
        }

    -- it is not
    pub root_other : (above ≡ high → ⊥) → IsEdgeOfRoot roots list x y j → ⊥
    root_other apart edge =
        apart (sym (edge_high roots j pair_at.0 pair_at.1 r low reflection_at low_element list x low_at above product y
        edge)
        ∙ one_at list y edge.edge.high high edge.edge.high_is high_at)

-- some root is that of the edge
pub root_missed : (roots : Roots) (list : List Elem) (x y n : ℕ) →
    (q : RootPair) × IsEdge (matrix_of roots) (positive_roots_of roots) list x y q → length (positives roots) ≡ n
    → ((j : ℕ) → j < n → IsEdgeOfRoot roots list x y j → ⊥) → ⊥
root_missed roots list x y n given count none =
    let r = edge_of_root roots list x y given.0 given.1 in
    none r.0 (omega (arith, count, slice_get_within (positives roots) r.0 r.1.pair r.1.pair_is)) r.1
