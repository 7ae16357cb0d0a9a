use Rattle.std.proofs.Common.{length, codes}
use Rattle.bmp_text.specs.Printing.{single_text}
use Rattle.bmp_graph.specs.Graph.{vertex_count, edge_count}
use Rattle.bmp_report.proofs.SummaryLemmas.{joined}
use Rattle.bmp_report.proofs.summary.push_sizes.Goals as goal

pub returns : goal.returns
returns c =
    rw (
      c.in_ok-push_single-7.ensures,
      c.in_ok-push_single-6.ensures,
      c.in_ok-push_single-5.ensures,
      c.in_ok-push_single-4.ensures,
      c.in_ok-push_single-3.ensures,
      c.in_ok-push_single-2.ensures,
      c.in_ok-push_single.ensures,
      c.from.ensures,
      c.from-2.ensures,
      c.from-3.ensures,
      c.from-4.ensures,
      c.len.ensures,
      c.from-5.ensures,
      c.from-6.ensures,
      c.vertices.ensures.count,
      c.from-7.ensures,
      c.edges.ensures.count,
    )
    (joined c.args.out.now.items (single_text (codes "sample seed") c.args.n)
    (single_text (codes "rank") c.args.j.now.rank) (single_text (codes "prime") c.args.j.now.prime)
    (single_text (codes "letters") (length c.args.j.now.word)) (single_text (codes "degree") c.args.j.now.degree)
    (single_text (codes "vertices") (vertex_count c.args.graph.now))
    (single_text (codes "edges") (edge_count c.args.graph.now)))
