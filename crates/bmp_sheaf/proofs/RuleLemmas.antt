-- The rules of a stalk, as they are tried.
use Rattle.std.proofs.Common.{◌≡◌, ℕ, ◌+◌, ◌-◌, ◌*◌, ◌/◌, ◌<◌, List, [], length, sym, ap, subst, inl, inr, arith}
use Rattle.std.specs.Prelude.{slice_index, slice_index_or}
use Rattle.std.proofs.lemmas.Bool.{cases_eq}
use Rattle.std.proofs.lemmas.List.{get_or_read}
use Rattle.std.proofs.Math.Nat.{div-lt_iff_lt-mul}
use Rattle.bmp_linear.specs.declared.vector.Entry.{Entry}
use Rattle.bmp_linear.specs.SparseVectors.{FitsBelow}
use Rattle.bmp_graph.specs.Graph.{Graph, IsGraph, IsUpRange, vertex_count, edge_count, lower, upper}
use Rattle.bmp_graph.proofs.GraphLemmas.{edge_rises}
use Rattle.bmp_sheaf.specs.Written.{first_edge, up_count}
use Rattle.bmp_sheaf.specs.States.{SheafState, IsThere, next_vertex}
use Rattle.bmp_sheaf.specs.StalkFaults.{NeverFalls, IsFirst}
use Rattle.bmp_sheaf.proofs.UpEdges.{first_edge_is, up_count_is}

-- the first i degrees never fall, and `before` is the last of them
pub record HasRisen (degrees : List ℕ) (i before : ℕ) : Type 0 where
  pub start : i ≡ 0 → before ≡ 0
  pub last : (k : ℕ) → k + 1 ≡ i → before ≡ slice_index degrees k
  pub earlier : (k : ℕ) → k < i → NeverFalls degrees k

module _ (degrees : List ℕ) where
  module _ (i before d : ℕ) (here : d ≡ slice_index degrees i) (h : HasRisen degrees i before) where
    pub risen_breaks : d < before → i < length degrees → IsFirst (NeverFalls degrees) (length degrees) i
    risen_breaks falls inside = record { below = inside; broken = broken; earlier = h.earlier }
      where
        broken : NeverFalls degrees i → ⊥
        broken rises = elim (cases_eq i 0) [
          | inl first ↦ omega (arith, h.start first, falls)
          | inr later ↦
              let before_it : (i - 1) + 1 ≡ i = omega (arith, later) in
              omega (arith, h.last (i - 1) before_it, rises (i - 1) before_it, here, falls)
        ]

-- the edge of the lift number i, where n lifts stand for each edge
module _ (G : Graph) (is : IsGraph G) (x from to : ℕ) (range : IsUpRange G x from to) (i n : ℕ)
    (inside : i < up_count G x * n) where
  pub some : 0 < n
  some = elim (cases_eq n 0) [
    | inl none ↦ let nothing : up_count G x * n ≡ 0 = omega (arith, ap (λ z. up_count G x * z) none) in
        absurd (omega (arith, inside, nothing))
    | inr more ↦ omega (arith, more)
  ]

  pub edge_number_below : from + i / n < to
  edge_number_below =
      let number : i / n < up_count G x = (div-lt_iff_lt-mul some).1 inside in
      omega (arith, number, up_count_is G x from to range, range.ordered)

  pub is_edge : from + i / n < edge_count G
  is_edge = omega (arith, edge_number_below, range.within)

  pub starts_at : lower G (from + i / n) ≡ x
  starts_at = range.inside (from + i / n) (omega arith) edge_number_below

  pub leads_up : (x < upper G (from + i / n)) × (upper G (from + i / n) < vertex_count G)
  leads_up = (omega (arith, edge_rises G is (from + i / n) is_edge, starts_at), (is.ends (from + i / n) is_edge).1)

  pub edge_number_is : from + i / n ≡ first_edge G x + i / n
  edge_number_is = ap (λ z. z + i / n) (sym (first_edge_is G x from to range))

-- the stalks above the next vertex are there
pub there_above : {F : Type 0} (s : SheafState F) (x y : ℕ) → length s.stalks < vertex_count s.graph →
    x ≡ next_vertex s → x < y → y < vertex_count s.graph → IsThere s y
there_above s x y left next above below = (below, omega (arith, left, next, above))

-- a vector that was read fits where the rule says so
pub read_fits : (lifts : List (List Entry)) (i room space : ℕ) (v : List Entry) → i < length lifts →
    v ≡ slice_index_or lifts i v → room ≡ space → FitsBelow (slice_index_or lifts i []) space → FitsBelow v room
read_fits lifts i room space v inside read same fits =
    subst (λ n. FitsBelow v n) (sym same)
    (subst (λ w. FitsBelow w space) (sym (get_or_read lifts i v inside read [])) fits)
