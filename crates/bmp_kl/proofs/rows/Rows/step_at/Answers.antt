use Rattle.std.proofs.Common.{◌≡◌, ◌+◌, ◌*◌, ◌∙◌, arith, sym, Some, None, get_or}
use Rattle.bmp_kl.specs.VertexProducts.{partner}
use Rattle.bmp_kl.proofs.RowLemmas.{read}
use Rattle.bmp_kl.proofs.rows.Rows.step_at.Goals as goal

pub turn-requires-clause-here : goal.turn-requires-clause-here
turn-requires-clause-here c j far k =
    let product : partner c.args.steps.now.products.items c.args.k c.args.x ≡ Some c.in-Some.z =
    sym (read c.args.steps.now.products.items (c.args.x * 6 + c.args.k) _ None c.index.ensures
    (omega (arith, c.requires.products, c.requires.vertex, c.requires.letter))) ∙ c.in-Some.is in
    let length : c.index-then-x-z.result.now ≡ get_or c.args.steps.now.lengths.items c.args.x 0 =
    read c.args.steps.now.lengths.items c.args.x _ 0 c.index-then-x-z.ensures c.requires.vertex in
    c.requires.here c.in-Some.z j product c.if-x-z.true (omega (arith, far, length)) k

pub turn-requires-clause-small_here : goal.turn-requires-clause-small_here
turn-requires-clause-small_here c j k =
    let product : partner c.args.steps.now.products.items c.args.k c.args.x ≡ Some c.in-Some.z =
    sym (read c.args.steps.now.products.items (c.args.x * 6 + c.args.k) _ None c.index.ensures
    (omega (arith, c.requires.products, c.requires.vertex, c.requires.letter))) ∙ c.in-Some.is in
    c.requires.small_here c.in-Some.z j product c.if-x-z.true k
