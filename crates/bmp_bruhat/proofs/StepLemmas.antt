-- One reflection at one vertex: the three ways in which the edges go on.
use Rattle.std.proofs.Common.{◌≡◌, ℕ, ◌+◌, ◌<◌, ◌≤◌, List, length, get_or, insert, Some, slice_get, arith, refl, sym, ap, subst, ◌∙◌}
use Rattle.std.proofs.lemmas.Option.{slice_get_read}
use Rattle.bmp_roots.specs.Pairs.{pair_of}
use Rattle.bmp_roots.specs.RootSystems.{matrix_of, positives, positive_roots_of}
use Rattle.bmp_roots.specs.declared.root_pair.Pair.{Pair}
use Rattle.bmp_roots.specs.declared.root_system.Roots.{Roots}
use Rattle.bmp_weyl.specs.Words.{kept}
use Rattle.bmp_weyl.specs.Elements.{IsElement, IsReflection, AreElementsOfOne, element_length}
use Rattle.bmp_weyl.specs.declared.elem.Elem.{Elem}
use Rattle.bmp_interval.specs.Vertices.{IsVertex}
use Rattle.bmp_interval.specs.Intervals.{IsInterval}
use Rattle.bmp_bruhat.specs.Building.{ComesBefore, HasEdgesUpTo}
use Rattle.bmp_bruhat.specs.declared.root_edge.RootEdge.{RootEdge}
use Rattle.bmp_bruhat.proofs.EdgeLemmas.{some_at}
use Rattle.bmp_bruhat.proofs.AddingLemmas.{IsTimes, are_elements, no_vertex, not_longer, edge_found}
use Rattle.bmp_bruhat.proofs.BuildingLemmas.{root_edge, HasEdgesUpTo-none, HasEdgesUpTo-more, IsPlace-found}

module _ (roots : Roots) (list : List Elem) (word : List ℕ) (x i : ℕ) (r low : Elem)
    (i_in : i < length (positives roots)) (of : (pair : Pair) → slice_get (positives roots) i ≡ Some pair →
    IsReflection (matrix_of roots) (pair_of pair) r)
    (x_in : x < length list) (low_is : (d : Elem) → low ≡ get_or list x d)
    (vertex : IsVertex (matrix_of roots) word low) where
  low_at : slice_get list x ≡ Some low
  low_at = slice_get_read list (length list) x low refl x_in (low_is low)

  low_element : IsElement (matrix_of roots) low
  low_element = (kept vertex.choices word, vertex.product)

  pub operands : AreElementsOfOne r low
  operands =
      let s = some_at (positives roots) i i_in in
      are_elements roots i s.0 s.1 r low (of s.0 s.1) low_element

  module _ (interval : IsInterval (matrix_of roots) (positive_roots_of roots) word list) (above : Elem)
      (product : IsTimes r low above)
      (edges : List RootEdge) (so_far : HasEdgesUpTo roots list x i edges) where
    -- the product is no vertex
    pub none_added : (IsVertex (matrix_of roots) word above → ⊥) → HasEdgesUpTo roots list x (i + 1) edges
    none_added none =
        let s = some_at (positives roots) i i_in in
        HasEdgesUpTo-none roots list interval.vertices.once x i edges so_far
        (no_vertex roots i s.0 s.1 r low (of s.0 s.1) low_element list x low_at above product word interval.vertices
        none)

    module _ (y : ℕ) (y_in : y < length list) (above_is : (d : Elem) → get_or list y d ≡ above) (short long : ℕ)
        (short_is : (d : Elem) → short ≡ element_length (positive_roots_of roots) (get_or list x d))
        (long_is : (d : Elem) → long ≡ element_length (positive_roots_of roots) (get_or list y d)) where
      low_length : short ≡ element_length (positive_roots_of roots) low
      low_length = short_is low ∙ ap (element_length (positive_roots_of roots)) (sym (low_is low))

      above_length : long ≡ element_length (positive_roots_of roots) above
      above_length = long_is above ∙ ap (element_length (positive_roots_of roots)) (above_is above)

      above_at : slice_get list y ≡ Some above
      above_at = slice_get_read list (length list) y above refl y_in (sym (above_is above))

      -- it is a vertex that is not longer
      pub short_added : long ≤ short → HasEdgesUpTo roots list x (i + 1) edges
      short_added not_above =
          let s = some_at (positives roots) i i_in in
          HasEdgesUpTo-none roots list interval.vertices.once x i edges so_far
          (not_longer roots i s.0 s.1 r low (of s.0 s.1) low_element list x low_at above product
          (omega (arith, low_length, above_length)))

      -- it is a longer vertex
      edge_goes : short < long → (place : ℕ) (new : List RootEdge) → place ≤ length edges
          → ((e : ℕ) (o : RootEdge) → place ≤ e → e < length edges →
          ComesBefore x y (get_or edges e o).lower (get_or edges e o).upper)
          → ((e : ℕ) (o : RootEdge) → e + 1 ≡ place →
          ComesBefore x y (get_or edges e o).lower (get_or edges e o).upper → ⊥)
          → new ≡ insert edges place (root_edge x y i)
          → HasEdgesUpTo roots list x (i + 1) new
      edge_goes longer place new within after before is =
          let s = some_at (positives roots) i i_in in
          let edge = edge_found roots i s.0 s.1 r low (of s.0 s.1) low_element list x low_at above product y above_at
          (omega (arith, low_length, above_length)) in
          subst (λ es. HasEdgesUpTo roots list x (i + 1) es) (sym is)
          (HasEdgesUpTo-more roots list interval.vertices.once x i edges so_far place y edge
          (IsPlace-found roots list interval.vertices.once x i edges so_far y place edge within after before))

      -- the same where the place was found in the edges as they were read
      pub edge_added : short < long → (read : List RootEdge) → read ≡ edges → (place : ℕ) (new : List RootEdge) →
          place ≤ length read
          → ((e : ℕ) (o : RootEdge) → place ≤ e → e < length read →
          ComesBefore x y (get_or read e o).lower (get_or read e o).upper)
          → ((e : ℕ) (o : RootEdge) → e + 1 ≡ place → ComesBefore x y (get_or read e o).lower (get_or read e o).upper →
          ⊥)
          → new ≡ insert edges place (root_edge x y i)
          → HasEdgesUpTo roots list x (i + 1) new
      edge_added longer read same place new within after before is =
          edge_goes longer place new
          (subst (λ (es : List RootEdge). place ≤ length es) same within)
          (subst (λ (es : List RootEdge). (e : ℕ) (o : RootEdge) → place ≤ e → e < length es →
          ComesBefore x y (get_or es e o).lower (get_or es e o).upper) same after)
          (subst (λ (es : List RootEdge). (e : ℕ) (o : RootEdge) → e + 1 ≡ place →
          ComesBefore x y (get_or es e o).lower (get_or es e o).upper → ⊥) same before)
          is
