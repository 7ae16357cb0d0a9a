use Rattle.std.proofs.Common.{◌≡◌, ◌<◌, arith, subst}
use Rattle.bmp_graph.specs.Graph.{edge_count}
use Rattle.bmp_graph.specs.Parts.{graph_of}
use Rattle.bmp_graph.proofs.GraphLemmas.{edge_rises}
use Rattle.bmp_graph.proofs.TableLemmas.{FillsRow, FillsRow-more, HasRowsFrom-filled}
use Rattle.bmp_graph.proofs.parts.Parts.fill_row.Goals as goal

pub insert-requires-clause-column : goal.insert-requires-clause-column
insert-requires-clause-column c =
    omega (
      arith,
      (c.requires.graph.ends c.loop-e.e (omega (arith, c.requires.range.within))).1,
      c.loop-e.invariant.size,
    )

pub merge-requires-clause-from : goal.merge-requires-clause-from
merge-requires-clause-from c =
    omega (
      arith,
      (c.requires.graph.ends c.loop-e.e (omega (arith, c.requires.range.within))).1,
      c.loop-e.invariant.size,
    )

pub merge-requires-clause-apart : goal.merge-requires-clause-apart
merge-requires-clause-apart c =
    let is_edge : c.loop-e.e < edge_count (graph_of c.args.self.now) = omega (arith, c.requires.range.within) in
    let starts = c.requires.range.inside c.loop-e.e (omega arith) (omega arith) in
    let rises = edge_rises (graph_of c.args.self.now) c.requires.graph c.loop-e.e is_edge in
    λ same. omega arith

pub loop-e-preserved : goal.loop-e-preserved
loop-e-preserved c =
    let is_edge : c.loop-e.e < edge_count (graph_of c.args.self.now) = omega (arith, c.requires.range.within) in
    FillsRow-more (graph_of c.args.self.now) c.args.vertex c.args.from c.loop-e.e c.upper-upper.result c.loop-e.rows
    c.insert.new.self c.merge.new.self
    c.requires.graph is_edge (c.requires.range.inside c.loop-e.e (omega arith) (omega arith)) c.upper-upper.ensures
    c.loop-e.invariant (omega arith) c.insert.ensures.size c.merge.ensures.size c.insert.ensures.bits
    c.merge.ensures.bits

pub returns : goal.returns
returns c =
    let all : c.loop-e.e ≡ c.args.to = omega (arith, c.requires.range.ordered) in
    HasRowsFrom-filled (graph_of c.args.self.now) c.args.vertex c.args.from c.args.to c.loop-e.rows c.requires.range
    (subst (λ e. FillsRow (graph_of c.args.self.now) c.args.vertex c.args.from e c.loop-e.rows) all c.loop-e.invariant)
