-- The Bruhat moment graph of the elements of an interval. Vertices and edges are numbered from 0. In the order to read:
--   IsReflectedTo m q x y              the element y is the product t x, t the reflection of the root pair q
--   IsEdge m roots list x y q          an edge of the positive root pair q leads from vertex x up to vertex y: y is t x
--                                      for the reflection t of q, and x is shorter than y
--   IsGraphOf m roots list p form g    g has these vertices with their lengths, these edges, and as label of the edge
--                                      of q the linear form that belongs to q, modulo p
--   IsBruhatGraph roots list p form g  the same for a `Roots`
--   HasZeroLabel m roots list p form x y      the form of an edge from x up to y is zero modulo p
--   IsFirstZeroLabel m roots list p form x y  x and y are the first such vertices, by the lower and then by the upper
--                                             one
--   IsEdgeOfRoot roots list x y i      the edge from x up to y is that of the positive root number i
use Rattle.std.specs.Prelude.{◌≡◌, ℕ, ◌<◌, ◌≤◌, ◌⊎◌, List, map, slice_get, Some}
use Rattle.bmp_roots.specs.RootPairs.{CartanMatrix, Vector, RootPair, across, IsRootPair, IsPositive}
use Rattle.bmp_roots.specs.Pairs.{pair_of}
use Rattle.bmp_roots.specs.RootSystems.{matrix_of, positives, positive_roots_of}
use Rattle.bmp_roots.specs.declared.root_pair.Pair.{Pair}
use Rattle.bmp_roots.specs.declared.root_system.Roots.{Roots}
use Rattle.bmp_weyl.specs.Words.{acts}
use Rattle.bmp_weyl.specs.Elements.{IsProduct, element_length}
use Rattle.bmp_weyl.specs.declared.elem.Elem.{Elem}
use Rattle.bmp_graph.specs.Graph.{Graph, edge_count, lower, upper, label}
use Rattle.bmp_bruhat.specs.Labels.{IsLabelOf, IsZeroForm}

-- words of x and y, of which the second makes of each vector what the reflection makes of what the first makes of it
pub record IsReflectedTo (m : CartanMatrix) (q : RootPair) (x y : Elem) : Type 0 where
  pub before : List ℕ
  pub after : List ℕ
  pub before_is : IsProduct m before x
  pub after_is : IsProduct m after y
  pub reflects : (v : Vector) → acts m after v ≡ across m q (acts m before v)

-- the roots are the positive roots of m, which lengths count
pub record IsEdge (m : CartanMatrix) (roots : List Vector) (list : List Elem) (x y : ℕ) (q : RootPair) : Type 0 where
  pub low : Elem
  pub high : Elem
  pub low_is : slice_get list x ≡ Some low
  pub high_is : slice_get list y ≡ Some high
  pub pair : IsRootPair m q
  pub positive : IsPositive m q.root
  pub reflected : IsReflectedTo m q low high
  pub longer : element_length roots low < element_length roots high

pub record IsGraphOf (m : CartanMatrix) (roots : List Vector) (list : List Elem) (p : ℕ) (form : RootPair → Vector)
    (g : Graph)
    : Type 0 where
  pub rank : g.rank ≡ m.rank
  pub prime : g.prime ≡ p
  pub lengths : g.lengths ≡ map (element_length roots) list
  -- each edge of the definition is an edge of g, and each edge of g is one of the definition, with its form as the
  -- label
  pub all : (x y : ℕ) (q : RootPair) → IsEdge m roots list x y q
      → (e : ℕ) × (e < edge_count g) × (lower g e ≡ x) × (upper g e ≡ y)
  pub each : (e : ℕ) → e < edge_count g → (q : RootPair) × IsEdge m roots list (lower g e) (upper g e) q
      × IsLabelOf p g.rank (form q) (label g e)

abbrev pub IsBruhatGraph : Roots → List Elem → ℕ → (RootPair → Vector) → Graph → Type 0
IsBruhatGraph roots list p form g = IsGraphOf (matrix_of roots) (positive_roots_of roots) list p form g

pub record HasZeroLabel (m : CartanMatrix) (roots : List Vector) (list : List Elem) (p : ℕ) (form : RootPair → Vector)
    (x y : ℕ) : Type 0 where
  pub pair : RootPair
  pub edge : IsEdge m roots list x y pair
  pub zero : IsZeroForm p m.rank (form pair)

pub record IsFirstZeroLabel (m : CartanMatrix) (roots : List Vector) (list : List Elem) (p : ℕ)
    (form : RootPair → Vector)
    (x y : ℕ) : Type 0 where
  pub here : HasZeroLabel m roots list p form x y
  pub first : (v w : ℕ) → HasZeroLabel m roots list p form v w → (x < v) ⊎ ((x ≡ v) × (y ≤ w))

-- roots are numbered as a `Roots` does
pub record IsEdgeOfRoot (roots : Roots) (list : List Elem) (x y i : ℕ) : Type 0 where
  pub pair : Pair
  pub pair_is : slice_get (positives roots) i ≡ Some pair
  pub edge : IsEdge (matrix_of roots) (positive_roots_of roots) list x y (pair_of pair)
