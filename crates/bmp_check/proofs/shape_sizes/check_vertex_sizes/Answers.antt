use Rattle.std.proofs.Common.{◌≡◌, ◌≤◌, ◌∙◌, [], ◌∷◌, length, Some, ap, arith}
use Rattle.std.proofs.lemmas.Result.{err_from_is_err_and}
use Rattle.bmp_cert.specs.declared.cert.VertexPart.{VertexPart}
use Rattle.bmp_cert.specs.Counts.{part_of}
use Rattle.bmp_sheaf.specs.Written.{up_count}
use Rattle.bmp_check.specs.Sizes.{is, at_most, listed, lift_size, vertex_sizes}
use Rattle.bmp_check.specs.SizeChecks.{first_of}
use Rattle.bmp_check.proofs.LiftLemmas.{LiftAt, StandsIn, lift_here, lift_stands, edges_as, length-listed}
use Rattle.bmp_check.proofs.SizeCheckLemmas.{Passed, exit_compares, goes_on, stops, passed_all, passed_more, failed_at, then_passed}
use Rattle.bmp_check.specs.ShapedViews.{written_in}
use Rattle.bmp_check.proofs.shape_sizes.check_vertex_sizes.Goals as goal

pub lift_room-room-requires-clause-generators : goal.lift_room-room-requires-clause-generators
lift_room-room-requires-clause-generators c =
    let G = c.args.graph.now in
    let cert = written_in c.args.c.now in
    let here : LiftAt c.part_of-part.result.now cert.degree c.up-first.result.0 c.up-first.result.1 c.lifts.i =
    lift_here G cert c.args.table.now c.args.x c.up-first.result.0 c.up-first.result.1 c.part_of-part.result.now
    c.requires.ready c.up-first.ensures.graph c.up-first.ensures.range c.requires.vertex c.part_of-part.ensures
    (omega (arith, c.from.ensures, c.from-2.ensures, c.in_ok-is.ensures.equal)) c.lifts.i
    (omega (arith, c.lifts-test.true, c.len-i-end.ensures)) in
    here.some

pub lift_room-room-requires-clause-edge : goal.lift_room-room-requires-clause-edge
lift_room-room-requires-clause-edge c =
    let G = c.args.graph.now in
    let cert = written_in c.args.c.now in
    let here : LiftAt c.part_of-part.result.now cert.degree c.up-first.result.0 c.up-first.result.1 c.lifts.i =
    lift_here G cert c.args.table.now c.args.x c.up-first.result.0 c.up-first.result.1 c.part_of-part.result.now
    c.requires.ready c.up-first.ensures.graph c.up-first.ensures.range c.requires.vertex c.part_of-part.ensures
    (omega (arith, c.from.ensures, c.from-2.ensures, c.in_ok-is.ensures.equal)) c.lifts.i
    (omega (arith, c.lifts-test.true, c.len-i-end.ensures)) in
    omega (arith, here.edge, c.up-first.ensures.range.within)

pub lift_room-room-requires-clause-fits : goal.lift_room-room-requires-clause-fits
lift_room-room-requires-clause-fits c =
    let G = c.args.graph.now in
    let cert = written_in c.args.c.now in
    let here : LiftAt c.part_of-part.result.now cert.degree c.up-first.result.0 c.up-first.result.1 c.lifts.i =
    lift_here G cert c.args.table.now c.args.x c.up-first.result.0 c.up-first.result.1 c.part_of-part.result.now
    c.requires.ready c.up-first.ensures.graph c.up-first.ensures.range c.requires.vertex c.part_of-part.ensures
    (omega (arith, c.from.ensures, c.from-2.ensures, c.in_ok-is.ensures.equal)) c.lifts.i
    (omega (arith, c.lifts-test.true, c.len-i-end.ensures)) in
    omega (arith, here.edge)

pub lift_room-room-requires-clause-degree : goal.lift_room-room-requires-clause-degree
lift_room-room-requires-clause-degree c =
    let G = c.args.graph.now in
    let cert = written_in c.args.c.now in
    let here : LiftAt c.part_of-part.result.now cert.degree c.up-first.result.0 c.up-first.result.1 c.lifts.i =
    lift_here G cert c.args.table.now c.args.x c.up-first.result.0 c.up-first.result.1 c.part_of-part.result.now
    c.requires.ready c.up-first.ensures.graph c.up-first.ensures.range c.requires.vertex c.part_of-part.ensures
    (omega (arith, c.from.ensures, c.from-2.ensures, c.in_ok-is.ensures.equal)) c.lifts.i
    (omega (arith, c.lifts-test.true, c.len-i-end.ensures)) in
    omega (arith, here.most, c.requires.ready.of.stalks.width)

pub lifts-preserved : goal.lifts-preserved
lifts-preserved c =
    let G = c.args.graph.now in
    let cert = written_in c.args.c.now in
    let lifts = listed (lift_size G cert c.args.x) (length (part_of cert c.args.x).lifts) in
    let size = at_most c.need.result c.lift_room-room.result in
    let stands : StandsIn lifts c.lifts.i size =
    lift_stands G cert c.args.table.now c.args.x c.up-first.result.0 c.up-first.result.1 c.part_of-part.result.now
    c.requires.ready c.up-first.ensures.graph c.up-first.ensures.range c.requires.vertex c.part_of-part.ensures
    (omega (arith, c.from.ensures, c.from-2.ensures, c.in_ok-is.ensures.equal)) c.lifts.i
    (omega (arith, c.lifts-test.true, c.len-i-end.ensures))
    c.need.result c.lift_room-room.result c.at.result.now c.at.ensures c.need.ensures c.lift_room-room.ensures in
    record {
      passed = passed_more c.is.new.self c.lifts.at lifts c.lifts.i size stands.within stands.read c.at_most.new.self
          c.lifts.invariant.passed c.in_ok-at_most.ensures.compares;
      index = omega (arith, c.lifts.invariant.index, c.in_ok-at_most.ensures.index);
    }

pub returns-in_err-is-clause-compares : goal.returns-in_err-is-clause-compares
returns-in_err-is-clause-compares c =
    let G = c.args.graph.now in
    let cert = written_in c.args.c.now in
    let own = is (part_of cert c.args.x).edges (up_count G c.args.x) ∷ [] in
    let r = c.in_err-is.field-0.0 in
    let lifts = listed (lift_size G cert c.args.x) (length (part_of cert c.args.x).lifts) in
    let fails : first_of c.args.at.now own ≡ Some r =
    edges_as G cert c.args.table.now c.args.x c.up-first.result.0 c.up-first.result.1 c.part_of-part.result.now
    c.requires.ready c.up-first.ensures.graph c.up-first.ensures.range c.requires.vertex c.part_of-part.ensures
    (λ sizes. first_of c.args.at.now sizes ≡ Some r) c.from.result c.from-2.result c.from.ensures c.from-2.ensures
    c.in_err-is.ensures.compares in
    let p = err_from_is_err_and c.from_residual.result c.from_residual.ensures.1 in
    exit_compares c.args.at.now c.is.new.self (vertex_sizes G cert c.args.x) c.from_residual.result p.0 r p.1 p.2
    (stops c.args.at.now own lifts r fails)

pub returns-in_err-at_most-clause-compares : goal.returns-in_err-at_most-clause-compares
returns-in_err-at_most-clause-compares c =
    let G = c.args.graph.now in
    let cert = written_in c.args.c.now in
    let lifts = listed (lift_size G cert c.args.x) (length (part_of cert c.args.x).lifts) in
    let size = at_most c.need.result c.lift_room-room.result in
    let stands : StandsIn lifts c.lifts.i size =
    lift_stands G cert c.args.table.now c.args.x c.up-first.result.0 c.up-first.result.1 c.part_of-part.result.now
    c.requires.ready c.up-first.ensures.graph c.up-first.ensures.range c.requires.vertex c.part_of-part.ensures
    (omega (arith, c.from.ensures, c.from-2.ensures, c.in_ok-is.ensures.equal)) c.lifts.i
    (omega (arith, c.lifts-test.true, c.len-i-end.ensures))
    c.need.result c.lift_room-room.result c.at.result.now c.at.ensures c.need.ensures c.lift_room-room.ensures in
    let own = is (part_of cert c.args.x).edges (up_count G c.args.x) ∷ [] in
    let passes : Passed c.args.at.now c.is.new.self own =
    edges_as G cert c.args.table.now c.args.x c.up-first.result.0 c.up-first.result.1 c.part_of-part.result.now
    c.requires.ready c.up-first.ensures.graph c.up-first.ensures.range c.requires.vertex c.part_of-part.ensures
    (Passed c.args.at.now c.is.new.self) c.from.result c.from-2.result c.from.ensures c.from-2.ensures
    c.in_ok-is.ensures.compares in
    let r = c.in_err-at_most.field-0.0 in
    let fails = failed_at c.is.new.self c.lifts.at lifts c.lifts.i size stands.within stands.read r
    c.lifts.invariant.passed c.in_err-at_most.ensures.compares in
    let p = err_from_is_err_and c.from_residual-in_err-at_most.result c.from_residual-in_err-at_most.ensures.1 in
    exit_compares c.args.at.now c.at_most.new.self (vertex_sizes G cert c.args.x) c.from_residual-in_err-at_most.result
    p.0 r p.1 p.2
    (goes_on c.args.at.now c.is.new.self own lifts passes ∙ fails)

pub returns-clause-compares : goal.returns-clause-compares
returns-clause-compares c =
    let G = c.args.graph.now in
    let cert = written_in c.args.c.now in
    let own = is (part_of cert c.args.x).edges (up_count G c.args.x) ∷ [] in
    let passes : Passed c.args.at.now c.is.new.self own =
    edges_as G cert c.args.table.now c.args.x c.up-first.result.0 c.up-first.result.1 c.part_of-part.result.now
    c.requires.ready c.up-first.ensures.graph c.up-first.ensures.range c.requires.vertex c.part_of-part.ensures
    (Passed c.args.at.now c.is.new.self) c.from.result c.from-2.result c.from.ensures c.from-2.ensures
    c.in_ok-is.ensures.compares in
    let count = length (part_of cert c.args.x).lifts in
    let lifts = listed (lift_size G cert c.args.x) count in
    let past : length lifts ≤ c.lifts.i =
    omega (
      arith,
      c.lifts-test.false,
      c.len-i-end.ensures,
      length-listed (lift_size G cert c.args.x) count,
      ap (λ (w : VertexPart). length w.lifts) c.part_of-part.ensures,
    ) in
    then_passed c.args.at.now c.is.new.self c.lifts.at own lifts passes
    (passed_all c.is.new.self c.lifts.at lifts c.lifts.i past c.lifts.invariant.passed)
