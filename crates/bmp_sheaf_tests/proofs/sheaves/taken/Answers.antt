use Rattle.std.proofs.Common.{◌≡◌, ℕ, ◌+◌, ◌-◌, ◌<◌, ◌≤◌, length, take, sym, ◌∙◌, arith, rules}
use Rattle.std.proofs.lemmas.List.{get_or-take, length-take}
use Rattle.bmp_graph.specs.Graph.{IsGraph, vertex_count, edge_count, lower, upper}
use Rattle.bmp_graph.proofs.GraphLemmas.{edge_rises}
use Rattle.bmp_sheaf.specs.States.{SheafState, no_stalk, stalk_of, next_vertex}
use Rattle.bmp_sheaf_tests.proofs.sheaves.taken.Goals as goal

-- above the vertex that comes next, one stalk more makes no difference
same_above : {F : Type 0} (s : SheafState F) (k n : ℕ) → n ≡ k + 1 → length s.stalks ≤ vertex_count s.graph →
    IsGraph s.graph → n ≤ length s.stalks
    → (e : ℕ) → e < edge_count s.graph → lower s.graph e ≡ next_vertex (record s { stalks = take k s.stalks })
    → stalk_of (record s { stalks = take n s.stalks }) (upper s.graph e)
    ≡ stalk_of (record s { stalks = take k s.stalks }) (upper s.graph e)
same_above s k n next few is enough e below starts =
    let inside : vertex_count s.graph - 1 - upper s.graph e < k =
    omega (
      arith,
      edge_rises s.graph is e below,
      starts,
      length-take k s.stalks,
      (is.ends e below).1,
      next,
      enough,
      few,
    ) in
    get_or-take n s.stalks (vertex_count s.graph - 1 - upper s.graph e) no_stalk (omega (arith, inside, next))
    ∙ sym (get_or-take k s.stalks (vertex_count s.graph - 1 - upper s.graph e) no_stalk inside)

pub adopt-requires-clause-above : goal.adopt-requires-clause-above
adopt-requires-clause-above g c =
    let s = c.args.whole.now in
    let some : 0 < c.args.count = search rules in
    let enough : c.args.count ≤ length s.stalks = search rules in
    rw (c.in_ok-last.ensures, c.in_ok-taken.ensures)
    (same_above s (c.args.count - 1) c.args.count (omega (arith, some))
    (omega (arith, c.pushed.ensures.count, c.pushed.ensures.within))
    c.graph.ensures.state.over.is_graph enough)
