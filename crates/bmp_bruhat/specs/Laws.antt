-- The laws of Bruhat moment graphs, as statements.
--   EdgeIsUnique         two vertices have at most one edge: one root pair whose reflection leads from the one to the
--                        other
--   LabelIsNotZero       no root is zero modulo a number from 2 on
--   ReflectionIsEdge     where a reflection leads from a vertex to a vertex, an edge joins them, one way and not the
--                        other
--   GraphIsOne           the vertices have one graph, whatever the order of the positive roots
use Rattle.std.specs.Prelude.{◌≡◌, ℕ, ◌≤◌, ◌⊎◌, List, slice_get, Some}
use Rattle.bmp_roots.specs.RootPairs.{CartanMatrix, Vector, RootPair, IsRootPair, IsPositive, HasCartanForm}
use Rattle.bmp_roots.specs.PositiveRoots.{ArePositiveRoots}
use Rattle.bmp_weyl.specs.Words.{IsRootSystem}
use Rattle.bmp_weyl.specs.declared.elem.Elem.{Elem}
use Rattle.bmp_graph.specs.Graph.{Graph, IsGraph}
use Rattle.bmp_bruhat.specs.Labels.{root_form, IsZeroForm}
use Rattle.bmp_bruhat.specs.Edges.{IsReflectedTo, IsEdge, IsGraphOf}

abbrev pub EdgeIsUnique : Type 0
EdgeIsUnique = (m : CartanMatrix) (roots : List Vector) → IsRootSystem m roots →
    (list : List Elem) (x y : ℕ) (q p : RootPair)
    → IsEdge m roots list x y q → IsEdge m roots list x y p → q ≡ p

abbrev pub LabelIsNotZero : Type 0
LabelIsNotZero = (m : CartanMatrix) → HasCartanForm m → (q : RootPair) → IsRootPair m q
    → (p : ℕ) → 2 ≤ p → IsZeroForm p m.rank (root_form q) → ⊥

abbrev pub ReflectionIsEdge : Type 0
ReflectionIsEdge = (m : CartanMatrix) (roots : List Vector) → IsRootSystem m roots
    → (list : List Elem) (x y : ℕ) (low high : Elem) → slice_get list x ≡ Some low → slice_get list y ≡ Some high
    → (q : RootPair) → IsRootPair m q → IsPositive m q.root → IsReflectedTo m q low high
    → IsEdge m roots list x y q ⊎ IsEdge m roots list y x q

abbrev pub GraphIsOne : Type 0
GraphIsOne = (m : CartanMatrix) (roots others : List Vector) → IsRootSystem m roots → ArePositiveRoots m others
    → (list : List Elem) (p : ℕ) (form : RootPair → Vector) (g h : Graph)
    → IsGraphOf m roots list p form g → IsGraphOf m others list p form h → IsGraph g → IsGraph h → g ≡ h
