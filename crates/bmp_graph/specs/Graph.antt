-- Moment graphs. Vertices, edges and coordinates are numbered from 0. In the order to read:
--   Graph                          rank and prime of the labels, the length of each vertex, the edges
--   vertex_count g, edge_count g   how many vertices and edges g has
--   length_at g x                  the length of vertex x
--   lower g e, upper g e           the ends of edge e, which leads from the lower up to the upper one
--   label g e i                    coordinate i of the linear form on edge e
--   HasEnds g e                    both ends of e are vertices, and the lower one is shorter
--   HasLabel g e                   the label of e has the rank and the prime of g
--   IsBefore g d e                 d is less than e by lower, and then by upper end
--   IsGraph g                      what a graph is: all of this, and lengths that never fall
--   IsUpRange g x from to          the edges that lead up from x are those from number `from` to before `to`
--   IsAbove g y x                  a chain of one or more edges leads from x up to y
--   IsEndOf g x e                  x is an end of edge e, the lower or the upper one
--   AreParallel p r a b            each two by two minor of the forms a and b in r variables is 0 modulo p
--   IsParallel g d e               the labels of the edges d and e are so
--   HasGkm g                       at no vertex are two different edges parallel
use Rattle.std.specs.Prelude.{◌≡◌, ◌≢◌, ℕ, ◌*◌, ◌<◌, ◌≤◌, ◌⊎◌, List, [], length, map, slice_index, slice_index_or}
use Rattle.bmp_math.specs.Congruences.{SameMod}
use Rattle.bmp_poly.specs.Labels.{rank_of, prime_of, coordinates_of}
use Rattle.bmp_graph.specs.declared.edge.Edge.{Edge}

pub record Graph : Type 0 where
  pub rank : ℕ
  pub prime : ℕ
  pub lengths : List ℕ
  pub edges : List Edge

abbrev pub vertex_count : Graph → ℕ
vertex_count g = length g.lengths

abbrev pub edge_count : Graph → ℕ
edge_count g = length g.edges

abbrev pub length_at : Graph → ℕ → ℕ
length_at g x = slice_index g.lengths x

abbrev pub lower : Graph → ℕ → ℕ
lower g e = slice_index (map (λ (d : Edge). d.lower) g.edges) e

abbrev pub upper : Graph → ℕ → ℕ
upper g e = slice_index (map (λ (d : Edge). d.upper) g.edges) e

abbrev pub label : Graph → ℕ → ℕ → ℕ
label g e i = slice_index (slice_index_or (map (λ (d : Edge). coordinates_of d.label) g.edges) e []) i

abbrev pub label_rank : Graph → ℕ → ℕ
label_rank g e = slice_index (map (λ (d : Edge). rank_of d.label) g.edges) e

abbrev pub label_prime : Graph → ℕ → ℕ
label_prime g e = slice_index (map (λ (d : Edge). prime_of d.label) g.edges) e

-- both ends are vertices, and the lower one is shorter
abbrev pub HasEnds : Graph → ℕ → Type 0
HasEnds g e = (lower g e < vertex_count g) × (upper g e < vertex_count g) ×
    (length_at g (lower g e) < length_at g (upper g e))

-- the label has the rank and the prime of the graph
abbrev pub HasLabel : Graph → ℕ → Type 0
HasLabel g e = (label_rank g e ≡ g.rank) × (label_prime g e ≡ g.prime)

-- d is less than e, by lower and then by upper end
abbrev pub IsBefore : Graph → ℕ → ℕ → Type 0
IsBefore g d e = (lower g d < lower g e) ⊎ (lower g d ≡ lower g e) × (upper g d < upper g e)

pub record IsGraph (g : Graph) : Type 0 where
  pub has_vertex : 0 < vertex_count g
  pub lengths_rise : (x y : ℕ) → x ≤ y → y < vertex_count g → length_at g x ≤ length_at g y
  pub ends : (e : ℕ) → e < edge_count g → HasEnds g e
  pub order : (d e : ℕ) → d < e → e < edge_count g → IsBefore g d e
  pub labels : (e : ℕ) → e < edge_count g → HasLabel g e

-- the edges that lead up from x, which may be none; the earlier ones start below x, the later ones above it
pub record IsUpRange (g : Graph) (x from to : ℕ) : Type 0 where
  pub ordered : from ≤ to
  pub within : to ≤ edge_count g
  pub before : (e : ℕ) → e < from → lower g e < x
  pub inside : (e : ℕ) → from ≤ e → e < to → lower g e ≡ x
  pub after : (e : ℕ) → to ≤ e → e < edge_count g → x < lower g e

-- a chain of one or more edges leads up to y: an edge with the upper end y, or an edge to a vertex from which such a
-- chain leads on
pub data IsAbove (g : Graph) (y : ℕ) : ℕ → Type 0 where
  edge : (e : ℕ) → e < edge_count g → upper g e ≡ y → IsAbove g y (lower g e)
  further : (e : ℕ) → e < edge_count g → IsAbove g y (upper g e) → IsAbove g y (lower g e)

-- x is an end of edge e
pub record IsEndOf (g : Graph) (x e : ℕ) : Type 0 where
  pub is_edge : e < edge_count g
  pub is_end : (lower g e ≡ x) ⊎ (upper g e ≡ x)

-- each two by two minor of the two linear forms is 0 modulo p
abbrev pub AreParallel : ℕ → ℕ → (ℕ → ℕ) → (ℕ → ℕ) → Type 0
AreParallel p r a b = (i j : ℕ) → i < r → j < r → SameMod p (a i * b j) (a j * b i)

abbrev pub IsParallel : Graph → ℕ → ℕ → Type 0
IsParallel g d e = AreParallel g.prime g.rank (label g d) (label g e)

-- no two different edges at one vertex have parallel labels
abbrev pub HasGkm : Graph → Type 0
HasGkm g = (x d e : ℕ) → IsEndOf g x d → IsEndOf g x e → d ≢ e → IsParallel g d e → ⊥
