-- What a reflection times a vertex says of the edges that lead up from it.
use Rattle.std.proofs.Common.{◌≡◌, ℕ, ◌<◌, ◌≤◌, List, ◌++◌, Some, slice_get, arith, ap, subst, ◌∙◌}
use Rattle.std.proofs.lemmas.Option.{slice_get_within, get_or_from_slice_get}
use Rattle.bmp_math.specs.Lists.{Member}
use Rattle.bmp_math.proofs.ListLemmas.{member_at}
use Rattle.bmp_roots.specs.RootPairs.{CartanMatrix, Vector, HasCartanForm}
use Rattle.bmp_roots.specs.Pairs.{pair_of}
use Rattle.bmp_roots.specs.RootSystems.{matrix_of, positives, positive_roots_of}
use Rattle.bmp_roots.specs.declared.root_pair.Pair.{Pair}
use Rattle.bmp_roots.specs.declared.root_system.Roots.{Roots}
use Rattle.bmp_roots.proofs.RootsLemmas.{has_finite_system}
use Rattle.bmp_weyl.specs.Words.{acts}
use Rattle.bmp_weyl.specs.Elements.{IsProduct, IsElement, AreElementsOfOne, IsReflection, element_length}
use Rattle.bmp_weyl.specs.declared.elem.Elem.{Elem}
use Rattle.bmp_weyl.proofs.ActionLemmas.{acts-append}
use Rattle.bmp_weyl.proofs.ElementLemmas.{reflection_product}
use Rattle.bmp_weyl.proofs.CallLemmas.{root_system}
use Rattle.bmp_interval.specs.Vertices.{IsVertex, HasVertices}
use Rattle.bmp_bruhat.specs.Edges.{IsReflectedTo, IsEdgeOfRoot}
use Rattle.bmp_bruhat.proofs.EdgeLemmas.{one_at, pair_is_positive, one_target}

-- a member of a list of vertices is a vertex
pub vertex_at : (m : CartanMatrix) (word : List ℕ) (list : List Elem) → HasVertices m word list → (x : ℕ) (e : Elem) →
    slice_get list x ≡ Some e → IsVertex m word e
vertex_at m word list vertices x e at =
    vertices.each e (subst (λ z. Member z list) (get_or_from_slice_get list x e e at)
    (member_at list x e (slice_get_within list x e at)))

-- the product of a reflection and an element, by all their words
abbrev pub IsTimes : Elem → Elem → Elem → Type 0
IsTimes r low above = (m : CartanMatrix) (u w : List ℕ) → HasCartanForm m → IsProduct m u r → IsProduct m w low →
    IsProduct m (u ++ w) above

module _ (roots : Roots) (i : ℕ) (pair : Pair) (pair_is : slice_get (positives roots) i ≡ Some pair)
    (r low : Elem) (reflection : IsReflection (matrix_of roots) (pair_of pair) r)
    (low_is : IsElement (matrix_of roots) low) where
  pub are_elements : AreElementsOfOne r low
  are_elements =
      let t = reflection_product (matrix_of roots) (positive_roots_of roots) (root_system roots) (pair_of pair)
      (pair_is_positive roots i pair pair_is).0 r reflection in
      record {
        matrix = matrix_of roots;
        form = roots.form;
        finite = has_finite_system roots;
        first = (t.0, t.3);
        second = low_is;
      }

  pub is_reflected : (above : Elem) → IsTimes r low above → IsReflectedTo (matrix_of roots) (pair_of pair) low above
  is_reflected above product =
      let t = reflection_product (matrix_of roots) (positive_roots_of roots) (root_system roots) (pair_of pair)
      (pair_is_positive roots i pair pair_is).0 r reflection in
      record {
        before = low_is.0;
        after = t.0 ++ low_is.0;
        before_is = low_is.1;
        after_is = product (matrix_of roots) t.0 low_is.0 roots.form t.3 low_is.1;
        reflects = λ v. acts-append (matrix_of roots) t.0 low_is.0 v
            ∙ ap (λ (f : Vector → Vector). f (acts (matrix_of roots) low_is.0 v)) t.2;
      }

  module _ (list : List Elem) (x : ℕ) (at : slice_get list x ≡ Some low) (above : Elem) (product : IsTimes r low above)
    where
      -- an edge of this root leads up to the product alone
      pub edge_high : (y : ℕ) → (edge : IsEdgeOfRoot roots list x y i) → edge.edge.high ≡ above
      edge_high y edge =
          let same_low = one_at list x edge.edge.low low edge.edge.low_is at in
          let same_pair = one_at (positives roots) i edge.pair pair edge.pair_is pair_is in
          let reflected : IsReflectedTo (matrix_of roots) (pair_of pair) low edge.edge.high =
          subst (λ q. IsReflectedTo (matrix_of roots) (pair_of q) low edge.edge.high) same_pair
          (subst (λ v. IsReflectedTo (matrix_of roots) (pair_of edge.pair) v edge.edge.high) same_low
          edge.edge.reflected) in
          one_target (matrix_of roots) (positive_roots_of roots) (root_system roots) (pair_of pair) low edge.edge.high
          above reflected (is_reflected above product)

      -- so there is none where the product is no vertex
      pub no_vertex : (word : List ℕ) → HasVertices (matrix_of roots) word list →
          (IsVertex (matrix_of roots) word above → ⊥) → (y : ℕ) → IsEdgeOfRoot roots list x y i → ⊥
      no_vertex word vertices none y edge =
          none (subst (λ z. IsVertex (matrix_of roots) word z) (edge_high y edge)
          (vertex_at (matrix_of roots) word list vertices y edge.edge.high edge.edge.high_is))

      -- and none where it is not longer
      pub not_longer : element_length (positive_roots_of roots) above ≤ element_length (positive_roots_of roots) low →
          (y : ℕ) → IsEdgeOfRoot roots list x y i → ⊥
      not_longer short y edge =
          let same_low = ap (element_length (positive_roots_of roots))
          (one_at list x edge.edge.low low edge.edge.low_is at) in
          let same_high = ap (element_length (positive_roots_of roots)) (edge_high y edge) in
          let longer = edge.edge.longer in
          omega arith

      -- a longer vertex that is the product has the edge
      abbrev pub edge_found : (y : ℕ) → slice_get list y ≡ Some above →
          element_length (positive_roots_of roots) low < element_length (positive_roots_of roots) above
          → IsEdgeOfRoot roots list x y i
      edge_found y above_at longer = record {
        pair = pair;
        pair_is = pair_is;
        edge = record {
          low = low;
          high = above;
          low_is = at;
          high_is = above_at;
          pair = (pair_is_positive roots i pair pair_is).0;
          positive = (pair_is_positive roots i pair pair_is).1;
          reflected = is_reflected above product;
          longer = longer;
        };
      }
