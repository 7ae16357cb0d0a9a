use Rattle.std.proofs.Common.{◌≡◌, refl, ap, arith}
use Rattle.bmp_graph.specs.Graph.{vertex_count}
use Rattle.bmp_sheaf.specs.States.{sheaf_of}
use Rattle.bmp_sections.proofs.IndexLemmas.{indexed_none, indexed_all}
use Rattle.bmp_sections.proofs.index.SectionIndex.fill.Goals as goal

pub loop-y-init : goal.loop-y-init
loop-y-init g c = record {
  indexed = indexed_none c.args.sheaf.now.graph (sheaf_of c.args.sheaf.now) c.args.x c.args.d _ refl refl;
  starts = refl;
  places = refl;
}

pub returns-clause-indexed : goal.returns-clause-indexed
returns-clause-indexed g c =
    let s = c.args.sheaf.now in
    let all : c.loop-y.y ≡ vertex_count s.graph =
    omega (arith, c.vertices-y-end.ensures.count, ap vertex_count c.graph.ensures.graph) in
    record {
      vertex = c.requires.vertex;
      there = c.requires.there;
      degree = c.requires.degree;
      indexed =
          indexed_all s.graph (sheaf_of s) c.args.x c.args.d c.loop-y.self c.loop-y.y
          c.graph.ensures.state.over.is_graph all c.loop-y.invariant.indexed
          c.requires.room.few_positions (omega (arith, c.requires.room.vertices, c.loop-y.invariant.starts))
          (omega (arith, c.requires.room.equations, c.loop-y.invariant.places));
    }
