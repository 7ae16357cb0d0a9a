use Rattle.std.proofs.Common.{◌+◌, ◌<◌, arith}
use Rattle.bmp_graph.specs.Graph.{vertex_count}
use Rattle.bmp_check.specs.ShapedViews.{written_in}
use Rattle.bmp_check.proofs.TupleCountLemmas.{has_its_block, not_greatest}
use Rattle.bmp_check.proofs.tuple_counts.degree_counts.Goals as goal

pub longer_counts-requires-clause-blocks : goal.longer_counts-requires-clause-blocks
longer_counts-requires-clause-blocks c = λ x vertex shorter.
    let within : x + 1 < vertex_count c.args.graph.now = not_greatest c.args.graph.now x vertex shorter in
    has_its_block (written_in c.args.c.now) c.requires.formed c.args.d c.requires.degree.0 x
    (omega (arith, within, c.requires.vertices))
