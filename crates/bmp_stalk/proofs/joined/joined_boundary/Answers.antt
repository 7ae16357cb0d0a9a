use Rattle.bmp_math.proofs.SameMatrices.{numbers_below_same}
use Rattle.bmp_sheaf.specs.States.{sheaf_of}
use Rattle.bmp_stalk.specs.Values.{joined_matrix}
use Rattle.bmp_stalk.proofs.EdgeRowLemmas.{so_far_from, joined_below}
use Rattle.bmp_stalk.proofs.joined.joined_boundary.Goals as goal

pub returns-clause-joined : goal.returns-clause-joined
returns-clause-joined g c =
    let s = c.args.sheaf.now in
    so_far_from s.graph (sheaf_of s) c.args.x c.args.d (g.T.Sections.list c.args.tuples.now)
    (g.A.Rows.matrix c.push_edges.new.o) c.in_ok-push_edges.ensures.same

pub returns-clause-numbers : goal.returns-clause-numbers
returns-clause-numbers g c =
    let s = c.args.sheaf.now in
    let J = joined_matrix s.graph (sheaf_of s) c.args.x c.args.d (g.T.Sections.list c.args.tuples.now) in
    numbers_below_same {a = g.A.Rows.matrix c.push_edges.new.o} {b = J} c.in_ok-push_edges.ensures.same s.graph.prime
    (joined_below s.graph (sheaf_of s) c.args.x c.args.d (g.T.Sections.list c.args.tuples.now)
    c.graph.ensures.state.over)
