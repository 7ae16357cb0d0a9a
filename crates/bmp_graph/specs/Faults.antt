-- What the calls on graphs answer besides graphs.
--   KeepsLength g x             vertex x isn't shorter than the one before it
--   KeepsOrder g e              edge e is greater than the one before it
--   HoldsBelow n P              P holds of each number below n
--   IsFirstFailure n P i        i is the first number below n of which P fails
--   BreaksFirst g fault         the fault is that of the first rule that g breaks, at the first place
--   IsParallelPair g x d e      d and e, d less than e, have the end x and are parallel
--   HasNoPartner g x d          d is parallel to no later edge at x
--   IsFirstPartner g x d e      e is the first later edge at x to which d is parallel
--   IsFirstAt g x d e           d and e are the first parallel pair at x, by first, then second edge
--   IsFirstParallelPair g x d e    the first parallel pair of all, by vertex, then first, then second edge
use Rattle.std.specs.Prelude.{◌≡◌, ℕ, ◌+◌, ◌<◌, ◌≤◌}
use Rattle.bmp_graph.specs.Graph.{Graph, vertex_count, edge_count, length_at, HasEnds, HasLabel, IsBefore, IsGraph, IsEndOf, IsParallel}
use Rattle.bmp_graph.specs.declared.fault.GraphFault.{GraphFault}
use Rattle.bmp_graph.specs.declared.fault.GraphFault.TheVariants.{Empty, LengthFalls, EdgeEnds, EdgeOrder, LabelOf, Memory}

-- vertex x isn't shorter than the one before it
abbrev pub KeepsLength : Graph → ℕ → Type 0
KeepsLength g x = (w : ℕ) → w + 1 ≡ x → length_at g w ≤ length_at g x

-- edge e is greater than the one before it
abbrev pub KeepsOrder : Graph → ℕ → Type 0
KeepsOrder g e = (d : ℕ) → d + 1 ≡ e → IsBefore g d e

abbrev pub HoldsBelow : ℕ → (ℕ → Type 0) → Type 0
HoldsBelow n P = (i : ℕ) → i < n → P i

pub record IsFirstFailure (n : ℕ) (P : ℕ → Type 0) (i : ℕ) : Type 0 where
  pub within : i < n
  pub broken : P i → ⊥
  pub before : HoldsBelow i P

-- the rules come in the order of the variants, and memory is wanted only for a graph that keeps them all
abbrev pub BreaksFirst : Graph → GraphFault → Type 0
BreaksFirst g Empty = vertex_count g ≡ 0
BreaksFirst g (LengthFalls x) = (0 < vertex_count g) × IsFirstFailure (vertex_count g) (KeepsLength g) x
BreaksFirst g (EdgeEnds e) = (0 < vertex_count g) × HoldsBelow (vertex_count g) (KeepsLength g)
    × IsFirstFailure (edge_count g) (HasEnds g) e
BreaksFirst g (EdgeOrder e) = (0 < vertex_count g) × HoldsBelow (vertex_count g) (KeepsLength g)
    × HoldsBelow (edge_count g) (HasEnds g) × IsFirstFailure (edge_count g) (KeepsOrder g) e
BreaksFirst g (LabelOf e) = (0 < vertex_count g) × HoldsBelow (vertex_count g) (KeepsLength g)
    × HoldsBelow (edge_count g) (HasEnds g) × HoldsBelow (edge_count g) (KeepsOrder g) ×
    IsFirstFailure (edge_count g) (HasLabel g) e
BreaksFirst g Memory = IsGraph g

-- d and e, d less than e, have the end x and are parallel
pub record IsParallelPair (g : Graph) (x d e : ℕ) : Type 0 where
  pub first : IsEndOf g x d
  pub second : IsEndOf g x e
  pub rising : d < e
  pub parallel : IsParallel g d e

-- d is parallel to no later edge at x
abbrev pub HasNoPartner : Graph → ℕ → ℕ → Type 0
HasNoPartner g x d = (e : ℕ) → IsParallelPair g x d e → ⊥

-- e is the first later edge at x to which d is parallel
pub record IsFirstPartner (g : Graph) (x d e : ℕ) : Type 0 where
  pub pair : IsParallelPair g x d e
  pub before : (c : ℕ) → c < e → IsParallelPair g x d c → ⊥

-- no pair before it at x is parallel
pub record IsFirstAt (g : Graph) (x d e : ℕ) : Type 0 where
  pub partner : IsFirstPartner g x d e
  pub before : (b : ℕ) → b < d → HasNoPartner g x b

-- no pair before it, by vertex, then first, then second edge, is parallel
pub record IsFirstParallelPair (g : Graph) (x d e : ℕ) : Type 0 where
  pub first_at : IsFirstAt g x d e
  pub vertices_before : (w : ℕ) → w < x → (b : ℕ) → HasNoPartner g w b
