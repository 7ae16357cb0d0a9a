-- What is known of the edges going up from x in the check of covers, and of the boundary coordinates on them.
use Rattle.std.proofs.Common.{◌≡◌, ℕ, ◌+◌, ◌<◌, ◌≤◌, cond, eqb, true, refl, sym, subst, arith}
use Rattle.bmp_math.proofs.SumLemmas.{sum_below_rises}
use Rattle.bmp_graph.specs.Graph.{IsUpRange, IsAbove, edge_count, lower, upper}
use Rattle.bmp_graph.specs.Graph.IsAbove.{edge}
use Rattle.bmp_sheaf.specs.Coordinates.{edge_module_count, boundary_start, boundary_count}
use Rattle.bmp_sheaf.specs.States.{SheafState, IsState, IsThere, sheaf_of}
use Rattle.bmp_sheaf.proofs.UpEdges.{boundary_starts, boundary_goes_on, boundary_ends}
use Rattle.bmp_sections.specs.TupleLists.{TupleList}
use Rattle.bmp_sections.specs.Numbers.{is_above}
use Rattle.bmp_sections.proofs.AboveLemmas.{test_from_above}
use Rattle.bmp_cover.specs.CoverInputs.{HasStalks, HasValues, HasTuples}

module _ {A : Type 0} (s : SheafState A) (x d : ℕ) (state : IsState s) (stalks : HasStalks s x d) (from to : ℕ)
    (range : IsUpRange s.graph x from to) where
  module _ (e : ℕ) (past : from ≤ e) (before : e < to) where
    pub is_edge : e < edge_count s.graph
    is_edge = omega (arith, range.within)

    pub starts : lower s.graph e ≡ x
    starts = range.inside e past before

    pub low_there : IsThere s (lower s.graph e)
    low_there = subst (IsThere s) (sym starts) stalks.there

    pub high_in : is_above s.graph x (upper s.graph e) ≡ true
    high_in = test_from_above s.graph state.over.is_graph x (upper s.graph e)
        (subst (λ y. IsAbove s.graph (upper s.graph e) y) starts (edge e is_edge refl))

    pub high_values : (list : TupleList) → HasTuples s x d list → HasValues s d list (upper s.graph e)
    high_values list tuples = tuples (upper s.graph e) high_in

    pub goes_on : boundary_start s.graph (sheaf_of s) x d (e + 1) ≡ boundary_start s.graph (sheaf_of s) x d e
        + edge_module_count s.graph (sheaf_of s) d e
    goes_on = boundary_goes_on s.graph x from to range (sheaf_of s) d e past before

    pub within : boundary_start s.graph (sheaf_of s) x d e + edge_module_count s.graph (sheaf_of s) d e ≤ boundary_count
        s.graph (sheaf_of s) x d
    within =
        omega (
          arith,
          goes_on,
          sum_below_rises (λ f. cond (eqb (lower s.graph f) x) (edge_module_count s.graph (sheaf_of s) d f) 0) (e + 1)
              (edge_count s.graph) (omega (arith, is_edge)),
        )

  pub starts_at : 0 ≡ boundary_start s.graph (sheaf_of s) x d from
  starts_at = sym (boundary_starts s.graph x from to range (sheaf_of s) d)

  pub ends_at : (e : ℕ) → e ≡ to → boundary_start s.graph (sheaf_of s) x d e ≡ boundary_count s.graph (sheaf_of s) x d
  ends_at e all = subst (λ m. boundary_start s.graph (sheaf_of s) x d m ≡ boundary_count s.graph (sheaf_of s) x d)
      (sym all) (boundary_ends s.graph x from to range (sheaf_of s) d)
