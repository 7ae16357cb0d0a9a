use Rattle.std.proofs.Common.{◌≡◌, ℕ, ◌+◌, ◌-◌, ◌<◌, ◌≤◌, length, sym, ap, subst, ◌∙◌, arith}
use Rattle.bmp_graph.specs.Graph.{vertex_count}
use Rattle.bmp_build.specs.Tasks.{IsOpen}
use Rattle.bmp_build.proofs.Lengths.{is_open, at_length, members_at, length_is_made}
use Rattle.bmp_build.proofs.level.level_stalks.Goals as goal

pub invariant_of-tasks : goal.invariant_of-tasks
invariant_of-tasks g c =
    let h = c.in_ok-count.ensures in
    let old = c.args.sheaf.now in
    let s = c.open_length.new.self in
    let low : ℕ = c.vertices.result - c.pushed.result in
    let members = c.requires.members in
    let low_is : low ≡ vertex_count s.graph - length s.stalks =
    omega (arith, c.vertices.ensures.count, ap (λ G. vertex_count G) c.graph.ensures.graph, c.pushed.ensures.count) in
    let opened : IsOpen s low c.in_ok-count.count = is_open h low_is members.some in
    let degree : s.degree ≡ old.degree = sym (ap (λ u. u.degree) h.begins) in
    record {
      opened = opened;
      families_are = omega (arith, members.families_are, degree);
      counts_are = omega (arith, members.counts_are, degree);
      members = λ i own. members_at c.requires.on.graph members (at_length h c.requires.on.graph opened i own);
    }

pub returns-clause-made : goal.returns-clause-made
returns-clause-made g c =
    let h = c.in_ok-count.ensures in
    let s = c.open_length.new.self in
    let low : ℕ = c.vertices.result - c.pushed.result in
    let members = c.requires.members in
    let low_is : low ≡ vertex_count s.graph - length s.stalks =
    omega (arith, c.vertices.ensures.count, ap (λ G. vertex_count G) c.graph.ensures.graph, c.pushed.ensures.count) in
    length_is_made h c.requires.on.graph (is_open h low_is members.some)
    (sym c.in_ok-made.made.ok.0 ∙ c.in_ok-made.ensures.count) c.in_ok-made.ensures.each
