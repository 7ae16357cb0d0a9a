use Rattle.std.proofs.Common.{◌≡◌, suc, List, length, sym, ap, subst, ◌∙◌, arith}
use Rattle.bmp_graph.specs.Graph.{IsGraph}
use Rattle.bmp_sheaf.specs.States.{with_stalk}
use Rattle.bmp_cert.specs.declared.cert.VertexPart.{VertexPart}
use Rattle.bmp_check.specs.Shaped.{cert_stalk}
use Rattle.bmp_build.specs.Building.{IsBuiltDown}
use Rattle.bmp_build.specs.Tasks.{IsBuiltBy, IsLengthMade}
use Rattle.bmp_build.proofs.Downward.{members_over, down_more, level_there}
use Rattle.bmp_build.proofs.Lengths.{last_over, taken_graph, taken_degree, taken_count, taken_above, taken_stalk, fewer_made, none_left}
use Rattle.bmp_build.proofs.level.build_level.Goals as goal

pub level_stalks-requires-clause-members : goal.level_stalks-requires-clause-members
level_stalks-requires-clause-members g c κs within = members_over c.requires.on c.requires.down c.requires.counts

pub adopt-requires-clause-graph : goal.adopt-requires-clause-graph
adopt-requires-clause-graph g c =
    let h = c.vertices.invariant in
    let is : IsGraph c.vertices.sheaf.graph = subst IsGraph (sym h.down.graph) c.requires.on.graph in
    let last = last_over c.pop.new.self.items h.made c.in-Some.ensures.items c.stalk.view_is in
    taken_graph is last.0 last.1

pub adopt-requires-clause-degree : goal.adopt-requires-clause-degree
adopt-requires-clause-degree g c =
    let h = c.vertices.invariant in
    let is : IsGraph c.vertices.sheaf.graph = subst IsGraph (sym h.down.graph) c.requires.on.graph in
    let last = last_over c.pop.new.self.items h.made c.in-Some.ensures.items c.stalk.view_is in
    taken_degree is last.0 last.1

pub adopt-requires-clause-count : goal.adopt-requires-clause-count
adopt-requires-clause-count g c =
    let h = c.vertices.invariant in
    let is : IsGraph c.vertices.sheaf.graph = subst IsGraph (sym h.down.graph) c.requires.on.graph in
    let last = last_over c.pop.new.self.items h.made c.in-Some.ensures.items c.stalk.view_is in
    taken_count is last.0 last.1

pub adopt-requires-clause-above : goal.adopt-requires-clause-above
adopt-requires-clause-above g c =
    let h = c.vertices.invariant in
    let is : IsGraph c.vertices.sheaf.graph = subst IsGraph (sym h.down.graph) c.requires.on.graph in
    let last = last_over c.pop.new.self.items h.made c.in-Some.ensures.items c.stalk.view_is in
    taken_above is last.0 last.1

pub vertices-preserved : goal.vertices-preserved
vertices-preserved g c =
    let h = c.vertices.invariant in
    let is : IsGraph c.vertices.sheaf.graph = subst IsGraph (sym h.down.graph) c.requires.on.graph in
    let last = last_over c.pop.new.self.items h.made c.in-Some.ensures.items c.stalk.view_is in
    let taken : c.adopt.new.self ≡ with_stalk c.vertices.sheaf (cert_stalk c.stalk.inside.part) =
    c.in_ok-adopt.ensures.ok ∙ ap (with_stalk c.vertices.sheaf) (taken_stalk is last.0 last.1) in
    record {
      down = subst (λ (l : List VertexPart). IsBuiltDown c.args.sheaf.now.graph c.args.sheaf.now.degree (suc c.args.k)
          c.args.k c.adopt.new.self l c.args.families.now) (sym c.in_ok-push.ensures.ok)
          (down_more c.requires.on h.down c.requires.counts last.0 last.1 taken);
      made = subst (λ s. IsLengthMade (IsBuiltBy c.args.families.now c.args.counts.now) c.args.k s
          c.pop.new.self.items) (sym taken)
          (fewer_made is last.0 last.1 (cert_stalk c.stalk.inside.part) _ h.made c.in-Some.ensures.items);
    }

pub returns-clause-level : goal.returns-clause-level
returns-clause-level g c =
    let h = c.vertices.invariant in
    level_there c.requires.on.graph h.down
    (none_left h.made (omega (arith, c.vertices.made.ok.0, c.in_default.ensures.cases.0)))
