-- How the edges of a graph are found, vertex by vertex and root by root, and how they get their labels.
--   HasReflections roots n list       the list has the reflections of the first n positive roots
--   ComesBefore a b c d               (a, b) is less than (c, d)
--   IsDone x i w j                    the root j at the vertex w comes before the root i at the vertex x
--   HasEdge edges w y                 one of the edges leads from w up to y
--   IsFound roots list x i d          d is an edge of the definition, with its root, that comes before the root i at x
--   HasEdgesUpTo roots list x i edges    the edges are those that come before the root i at x, in rising order
--   IsLabeled roots p form d o        o is the edge d with the form of its root as the label
--   AreLabeled roots p form n found edges    the edges are the first n of those that were found, with their labels
--   IsFirstZero roots p form found x y       the first of those found whose form is zero leads from x up to y
--   IsError roots list p form error   why there is no graph: the first zero label; want of memory says nothing
use Rattle.std.specs.Prelude.{◌≡◌, ℕ, ◌+◌, ◌*◌, ◌<◌, ◌≤◌, ◌⊎◌, List, length, slice_get, slice_index_or, Some, ⊤}
use Rattle.bmp_roots.specs.RootPairs.{Vector, RootPair}
use Rattle.bmp_roots.specs.Pairs.{pair_of}
use Rattle.bmp_roots.specs.RootSystems.{matrix_of, positives, positive_roots_of}
use Rattle.bmp_roots.specs.declared.root_pair.Pair.{Pair}
use Rattle.bmp_roots.specs.declared.root_system.Roots.{Roots}
use Rattle.bmp_weyl.specs.Elements.{IsReflection}
use Rattle.bmp_weyl.specs.declared.elem.Elem.{Elem}
use Rattle.bmp_graph.specs.declared.edge.Edge.{Edge}
use Rattle.bmp_bruhat.specs.Labels.{IsZeroForm, IsFormLabel}
use Rattle.bmp_bruhat.specs.Edges.{IsEdgeOfRoot, IsFirstZeroLabel}
use Rattle.bmp_bruhat.specs.declared.root_edge.RootEdge.{RootEdge}
use Rattle.bmp_bruhat.specs.declared.error.BruhatError.{BruhatError}
use Rattle.bmp_bruhat.specs.declared.error.BruhatError.TheVariants.{ZeroLabel, Memory}

pub record HasReflections (roots : Roots) (n : ℕ) (list : List Elem) : Type 0 where
  pub as_long : length list ≡ n
  pub each : (i : ℕ) (pair : Pair) (o : Elem) → i < n → slice_get (positives roots) i ≡ Some pair
      → IsReflection (matrix_of roots) (pair_of pair) (slice_index_or list i o)

-- (a, b) is less than (c, d), by the first and then by the second number
abbrev pub ComesBefore : ℕ → ℕ → ℕ → ℕ → Type 0
ComesBefore a b c d = (a < c) ⊎ (a ≡ c) × (b < d)

abbrev pub IsDone : ℕ → ℕ → ℕ → ℕ → Type 0
IsDone x i w j = ComesBefore w j x i

pub record HasEdge (edges : List RootEdge) (w y : ℕ) : Type 0 where
  pub place : ℕ
  pub within : place < length edges
  pub lower : (o : RootEdge) → (slice_index_or edges place o).lower ≡ w
  pub upper : (o : RootEdge) → (slice_index_or edges place o).upper ≡ y

pub record IsFound (roots : Roots) (list : List Elem) (x i : ℕ) (d : RootEdge) : Type 0 where
  pub done : IsDone x i d.lower d.root
  pub edge : IsEdgeOfRoot roots list d.lower d.upper d.root

pub record HasEdgesUpTo (roots : Roots) (list : List Elem) (x i : ℕ) (edges : List RootEdge) : Type 0 where
  pub few : length edges ≤ x * 36 + i
  pub order : (d e : ℕ) (o : RootEdge) → d < e → e < length edges
      → ComesBefore (slice_index_or edges d o).lower (slice_index_or edges d o).upper
      (slice_index_or edges e o).lower (slice_index_or edges e o).upper
  pub each : (e : ℕ) (o : RootEdge) → e < length edges → IsFound roots list x i (slice_index_or edges e o)
  pub all : (w y j : ℕ) → IsEdgeOfRoot roots list w y j → IsDone x i w j → HasEdge edges w y

pub record IsLabeled (roots : Roots) (p : ℕ) (form : RootPair → Vector) (d : RootEdge) (o : Edge) : Type 0 where
  pub lower : o.lower ≡ d.lower
  pub upper : o.upper ≡ d.upper
  pub label : (pair : Pair) → slice_get (positives roots) d.root ≡ Some pair
      → IsFormLabel p (matrix_of roots).rank (form (pair_of pair)) o.label

pub record AreLabeled (roots : Roots) (p : ℕ) (form : RootPair → Vector) (n : ℕ) (found : List RootEdge)
    (edges : List Edge)
    : Type 0 where
  pub as_long : length edges ≡ n
  pub each : (e : ℕ) (d : RootEdge) (o : Edge) → e < n → slice_get found e ≡ Some d
      → IsLabeled roots p form d (slice_index_or edges e o)

pub record IsFirstZero (roots : Roots) (p : ℕ) (form : RootPair → Vector) (found : List RootEdge) (x y : ℕ) :
    Type 0 where
  pub place : ℕ
  pub edge : RootEdge
  pub edge_is : slice_get found place ≡ Some edge
  pub lower : x ≡ edge.lower
  pub upper : y ≡ edge.upper
  pub zero : (pair : Pair) → slice_get (positives roots) edge.root ≡ Some pair
      → IsZeroForm p (matrix_of roots).rank (form (pair_of pair))
  pub before : (e : ℕ) (d : RootEdge) (pair : Pair) → e < place → slice_get found e ≡ Some d
      → slice_get (positives roots) d.root ≡ Some pair → IsZeroForm p (matrix_of roots).rank (form (pair_of pair)) → ⊥

abbrev pub IsError : Roots → List Elem → ℕ → (RootPair → Vector) → BruhatError → Type 0
IsError roots list p form (ZeroLabel x y) =
    IsFirstZeroLabel (matrix_of roots) (positive_roots_of roots) list p form x y
IsError roots list p form Memory = ⊤
