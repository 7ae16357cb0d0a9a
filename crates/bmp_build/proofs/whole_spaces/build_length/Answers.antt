use Rattle.std.proofs.Common.{◌≡◌, ◌+◌, ◌<◌, ◌≤◌, List, length, sym, ap, subst, ◌∙◌, arith}
use Rattle.std.proofs.lemmas.List.{length_push}
use Rattle.bmp_graph.specs.Graph.{IsGraph}
use Rattle.bmp_sheaf.specs.States.{with_stalk}
use Rattle.bmp_cert.specs.declared.cert.VertexPart.{VertexPart}
use Rattle.bmp_check.specs.Shaped.{cert_stalk}
use Rattle.bmp_build.specs.WholeSpaces.{IsWholePart, AreWholeDown}
use Rattle.bmp_build.specs.Tasks.{IsLengthMade}
use Rattle.bmp_build.proofs.WholeDown.{whole_more}
use Rattle.bmp_build.proofs.Lengths.{last_over, taken_graph, taken_degree, taken_count, taken_above, taken_stalk, fewer_made}
use Rattle.bmp_build.proofs.whole_spaces.build_length.Goals as goal

pub adopt-requires-clause-graph : goal.adopt-requires-clause-graph
adopt-requires-clause-graph g c =
    let h = c.vertices.invariant in
    let is : IsGraph c.vertices.sheaf.graph = subst IsGraph (sym h.down.graph) c.requires.on.graph in
    let last = last_over c.pop.new.self.items h.made c.in-Some.ensures.items c.stalk.view_is in
    taken_graph is last.0 last.1

pub adopt-requires-clause-degree : goal.adopt-requires-clause-degree
adopt-requires-clause-degree g c =
    let h = c.vertices.invariant in
    let is : IsGraph c.vertices.sheaf.graph = subst IsGraph (sym h.down.graph) c.requires.on.graph in
    let last = last_over c.pop.new.self.items h.made c.in-Some.ensures.items c.stalk.view_is in
    taken_degree is last.0 last.1

pub adopt-requires-clause-count : goal.adopt-requires-clause-count
adopt-requires-clause-count g c =
    let h = c.vertices.invariant in
    let is : IsGraph c.vertices.sheaf.graph = subst IsGraph (sym h.down.graph) c.requires.on.graph in
    let last = last_over c.pop.new.self.items h.made c.in-Some.ensures.items c.stalk.view_is in
    taken_count is last.0 last.1

pub adopt-requires-clause-above : goal.adopt-requires-clause-above
adopt-requires-clause-above g c =
    let h = c.vertices.invariant in
    let is : IsGraph c.vertices.sheaf.graph = subst IsGraph (sym h.down.graph) c.requires.on.graph in
    let last = last_over c.pop.new.self.items h.made c.in-Some.ensures.items c.stalk.view_is in
    taken_above is last.0 last.1

pub vertices-preserved : goal.vertices-preserved
vertices-preserved g c =
    let h = c.vertices.invariant in
    let is : IsGraph c.vertices.sheaf.graph = subst IsGraph (sym h.down.graph) c.requires.on.graph in
    let last = last_over c.pop.new.self.items h.made c.in-Some.ensures.items c.stalk.view_is in
    let taken : c.adopt.new.self ≡ with_stalk c.vertices.sheaf (cert_stalk c.stalk.inside.part) =
    c.in_ok-adopt.ensures.ok ∙ ap (with_stalk c.vertices.sheaf) (taken_stalk is last.0 last.1) in
    let rest = c.pop.new.self.items in
    let count : length c.vertices.made.items ≡ length rest + 1 =
    ap length c.in-Some.ensures.items ∙ length_push rest c.in-Some.stalk in
    let more = h.more in
    record {
      down = subst (AreWholeDown c.args.sheaf.now.graph c.args.sheaf.now.degree c.adopt.new.self)
          (sym c.in_ok-push.ensures.ok) (whole_more h.down c.requires.on.graph last.0 last.1 taken);
      made = subst (λ s. IsLengthMade IsWholePart c.next_length-k.result s rest) (sym taken)
          (fewer_made is last.0 last.1 (cert_stalk c.stalk.inside.part) _ h.made c.in-Some.ensures.items);
      more = omega (
        arith,
        more,
        count,
        ap length c.in_ok-push.ensures.ok,
        length_push c.vertices.parts c.stalk.inside.part,
      );
    }
