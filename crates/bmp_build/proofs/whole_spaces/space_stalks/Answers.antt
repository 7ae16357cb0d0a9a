use Rattle.std.proofs.Common.{◌≡◌, ℕ, ◌-◌, length, sym, ap, ◌∙◌, arith}
use Rattle.bmp_graph.specs.Graph.{vertex_count}
use Rattle.bmp_build.proofs.Lengths.{is_open, length_is_made}
use Rattle.bmp_build.proofs.whole_spaces.space_stalks.Goals as goal

pub returns-clause-made : goal.returns-clause-made
returns-clause-made g c =
    let h = c.in_ok-count.ensures in
    let s = c.open_length.new.self in
    let low : ℕ = c.vertices.result - c.pushed.result in
    let low_is : low ≡ vertex_count s.graph - length s.stalks =
    omega (arith, c.vertices.ensures.count, ap (λ G. vertex_count G) c.graph.ensures.graph, c.pushed.ensures.count) in
    length_is_made h c.requires.on.graph (is_open h low_is c.requires.some)
    (sym c.in_ok-made.made.ok.0 ∙ c.in_ok-made.ensures.count) c.in_ok-made.ensures.each
