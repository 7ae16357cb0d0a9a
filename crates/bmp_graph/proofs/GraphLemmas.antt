-- Graphs from what holds of neighbors, and what lies above a vertex.
use Rattle.std.proofs.Common.{◌≡◌, ℕ, zero, suc, ◌+◌, ◌<◌, ◌≤◌, ◌⊎◌, ◌↔◌, inl, inr, List, length, get_or, map, arith, refl, sym, subst, ap, ◌∙◌}
use Rattle.std.proofs.Math.Nat.{eq-or-lt_of_le}
use Rattle.std.proofs.lemmas.List.{get_or-map}
use Rattle.bmp_graph.specs.declared.edge.Edge.{Edge}
use Rattle.bmp_graph.specs.Graph.{Graph, vertex_count, edge_count, length_at, lower, upper, HasEnds, HasLabel, IsBefore, IsGraph, IsAbove}
use Rattle.bmp_graph.specs.Graph.IsAbove.{edge, further}
use Rattle.bmp_graph.specs.Laws.{IsHigher}
use Rattle.bmp_graph.specs.Faults.{HoldsBelow, KeepsLength, KeepsOrder}

-- numbers none of which is below the one before it
pub rising : (f : ℕ → ℕ) (n : ℕ) → ((i : ℕ) → i < n → (w : ℕ) → w + 1 ≡ i → f w ≤ f i) → (x y : ℕ) → x ≤ y → y < n →
    f x ≤ f y
rising f n step x zero le lt = let e : x ≡ 0 = omega arith in rw e (omega arith)
rising f n step x (suc y) le lt =
    elim (eq-or-lt_of_le le) [
      | inl e ↦ rw e (omega arith)
      | inr below ↦
          let so_far = rising f n step x y (omega arith) (omega arith) in
          let last = step (suc y) lt y (omega arith) in
          omega arith
    ]

pub IsBefore-trans : (g : Graph) (c d e : ℕ) → IsBefore g c d → IsBefore g d e → IsBefore g c e
IsBefore-trans g c d e p q =
    elim p [
      | inl a ↦ elim q [ inl b ↦ inl (omega arith) | inr b ↦ inl (omega arith) ]
      | inr a ↦ elim q [ inl b ↦ inl (omega arith) | inr b ↦ inr (omega arith, omega arith) ]
    ]

pub IsBefore-chain : (g : Graph) → HoldsBelow (edge_count g) (KeepsOrder g) → (d e : ℕ) → d < e → e < edge_count g →
    IsBefore g d e
IsBefore-chain g step d zero lt within = absurd (omega arith)
IsBefore-chain g step d (suc e) lt within =
    let last : IsBefore g e (suc e) = step (suc e) within e (omega arith) in
    let le : d ≤ e = omega arith in
    elim (eq-or-lt_of_le le) [
      | inl same ↦ subst (λ z. IsBefore g z (suc e)) (sym same) last
      | inr below ↦ IsBefore-trans g d e (suc e) (IsBefore-chain g step d e below (omega arith)) last
    ]

-- the rules make a graph
pub IsGraph-rules : (g : Graph) → 0 < vertex_count g → HoldsBelow (vertex_count g) (KeepsLength g) →
    HoldsBelow (edge_count g) (HasEnds g)
    → HoldsBelow (edge_count g) (KeepsOrder g) → HoldsBelow (edge_count g) (HasLabel g) → IsGraph g
IsGraph-rules g some lengths ends order labels = record {
  has_vertex = some;
  lengths_rise = rising (length_at g) (vertex_count g) lengths;
  ends = ends;
  order = IsBefore-chain g order;
  labels = labels;
}

-- a vertex is above the lower end of an edge exactly where it is the upper end, or above that
pub IsAbove-by_edge : (g : Graph) (y x : ℕ) → IsAbove g y x
    → (e : ℕ) × (e < edge_count g) × (lower g e ≡ x) × ((upper g e ≡ y) ⊎ IsAbove g y (upper g e))
IsAbove-by_edge g y _ (edge e within ends) = (e, within, refl, inl ends)
IsAbove-by_edge g y _ (further e within above) = (e, within, refl, inr above)

pub IsAbove-trans : (g : Graph) (z y x : ℕ) → IsAbove g z y → IsAbove g y x → IsAbove g z x
IsAbove-trans g z y _ high (edge e within ends) = further e within (subst (λ v. IsAbove g z v) (sym ends) high)
IsAbove-trans g z y _ high (further e within above) = further e within (IsAbove-trans g z y (upper g e) high above)

-- later edges start at no smaller vertex
pub lower_rises : (g : Graph) → IsGraph g → (d e : ℕ) → d ≤ e → e < edge_count g → lower g d ≤ lower g e
lower_rises g is d e le within =
    elim (eq-or-lt_of_le le) [
      | inl same ↦ rw same (omega arith)
      | inr lt ↦ elim (is.order d e lt within) [ inl below ↦ omega arith | inr level ↦ omega arith ]
    ]

-- the upper end of an edge has the greater number
pub edge_rises : (g : Graph) → IsGraph g → (e : ℕ) → e < edge_count g → lower g e < upper g e
edge_rises g is e within =
    let ends = is.ends e within in
    let length_rises = is.lengths_rise (upper g e) (lower g e) in
    grind (arith, ends, length_rises)

pub IsAbove-higher : (g : Graph) → IsGraph g → (y x : ℕ) → IsAbove g y x → IsHigher g y x
IsAbove-higher g is y _ (edge e within ends) =
    subst (λ z. IsHigher g z (lower g e)) ends (record {
      number = edge_rises g is e within;
      is_vertex = (is.ends e within).1;
      longer = (is.ends e within).2;
    })
IsAbove-higher g is y _ (further e within above) =
    let rest = IsAbove-higher g is y (upper g e) above in
    let first = edge_rises g is e within in
    let longer = (is.ends e within).2 in
    let number = rest.number in
    let rest_longer = rest.longer in
    record { number = omega arith; is_vertex = rest.is_vertex; longer = omega arith }

pub IsAbove-irreflexive : (g : Graph) → IsGraph g → (x : ℕ) → IsAbove g x x → ⊥
IsAbove-irreflexive g is x above = let rises = (IsAbove-higher g is x x above).number in omega arith

-- the converse of what an edge shows
pub IsAbove-from_edge : (g : Graph) (y x e : ℕ) → e < edge_count g → lower g e ≡ x →
    (upper g e ≡ y) ⊎ IsAbove g y (upper g e) → IsAbove g y x
IsAbove-from_edge g y x e within starts reach =
    subst (λ z. IsAbove g y z) starts
    (elim reach [ inl ends ↦ edge e within ends | inr above ↦ further e within above ])

pub IsAbove-by_edges : (g : Graph) (y x : ℕ) → IsAbove g y x ↔
    ((e : ℕ) × (e < edge_count g) × (lower g e ≡ x) × ((upper g e ≡ y) ⊎ IsAbove g y (upper g e)))
IsAbove-by_edges g y x = (IsAbove-by_edge g y x, λ r. IsAbove-from_edge g y x r.0 r.1 r.2 r.3)

-- a number of the edge that stands at a place
pub edge_number : (number : Edge → ℕ) (edges : List Edge) (e : ℕ) (d : Edge) → e < length edges → d ≡ get_or edges e d →
    number d ≡ get_or (map number edges) e 0
edge_number number edges e d within read = ap number read ∙ sym (get_or-map number edges e d 0 within)
