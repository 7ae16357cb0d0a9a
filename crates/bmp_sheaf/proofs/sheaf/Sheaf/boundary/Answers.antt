use Rattle.std.proofs.Common.{◌≡◌, subst, arith}
use Rattle.bmp_linear.specs.SparseVectors.{number_at}
use Rattle.bmp_graph.specs.Graph.{IsUpRange}
use Rattle.bmp_sheaf.specs.States.{sheaf_of}
use Rattle.bmp_sheaf.proofs.BoundaryWrites.{before_none, has_room, before_more, before_all}
use Rattle.bmp_sheaf.proofs.sheaf.Sheaf.boundary.Goals as goal

pub loop-e-init : goal.loop-e-init
loop-e-init g c =
    let s = c.args.self.now in
    let range : IsUpRange s.graph c.args.x c.up-first.result.0 c.up-first.result.1 =
    subst (λ G. IsUpRange G c.args.x c.up-first.result.0 c.up-first.result.1) c.graph.ensures.graph
    c.up-first.ensures.range in
    before_none s.graph c.graph.ensures.state.over (sheaf_of s) c.args.x c.args.d c.up-first.result.0
    c.up-first.result.1 range (number_at c.args.u.now) c.args.s.now

pub write_lift-start-requires-clause-room : goal.write_lift-start-requires-clause-room
write_lift-start-requires-clause-room g c =
    let s = c.args.self.now in
    let range : IsUpRange s.graph c.args.x c.up-first.result.0 c.up-first.result.1 =
    subst (λ G. IsUpRange G c.args.x c.up-first.result.0 c.up-first.result.1) c.graph.ensures.graph
    c.up-first.ensures.range in
    has_room s.graph c.graph.ensures.state.over (sheaf_of s) c.args.x c.args.d c.up-first.result.0 c.up-first.result.1
    range (number_at c.args.u.now) c.args.s.now c.loop-e.e c.loop-e.start c.loop-e.auto.e c.loop-e-test.true
    c.loop-e.s c.requires.room
    c.loop-e.invariant

pub loop-e-preserved : goal.loop-e-preserved
loop-e-preserved g c =
    let s = c.args.self.now in
    let range : IsUpRange s.graph c.args.x c.up-first.result.0 c.up-first.result.1 =
    subst (λ G. IsUpRange G c.args.x c.up-first.result.0 c.up-first.result.1) c.graph.ensures.graph
    c.up-first.ensures.range in
    before_more s.graph c.graph.ensures.state.over (sheaf_of s) c.args.x c.args.d c.up-first.result.0
    c.up-first.result.1 range (number_at c.args.u.now) c.args.s.now c.loop-e.e c.loop-e.start c.loop-e.auto.e
    c.loop-e-test.true c.write_lift-start.result c.loop-e.s
    c.write_lift-start.new.s c.write_lift-start.ensures.count c.write_lift-start.ensures.few c.loop-e.invariant
    c.write_lift-start.ensures.written

pub returns : goal.returns
returns g c =
    let s = c.args.self.now in
    let range : IsUpRange s.graph c.args.x c.up-first.result.0 c.up-first.result.1 =
    subst (λ G. IsUpRange G c.args.x c.up-first.result.0 c.up-first.result.1) c.graph.ensures.graph
    c.up-first.ensures.range in
    let last : c.loop-e.e ≡ c.up-first.result.1 =
    omega (arith, range.ordered, c.loop-e.auto.e-end, c.loop-e-test.false) in
    before_all s.graph c.graph.ensures.state.over (sheaf_of s) c.args.x c.args.d c.up-first.result.0 c.up-first.result.1
    range (number_at c.args.u.now) c.args.s.now c.loop-e.e c.loop-e.start c.loop-e.s last c.loop-e.invariant
