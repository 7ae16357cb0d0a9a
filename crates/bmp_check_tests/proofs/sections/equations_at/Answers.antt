use Rattle.std.proofs.Common.{subst}
use Rattle.bmp_check.specs.declared.method.Method.{Method}
use Rattle.bmp_check.specs.Shaped.{IsRoomFor}
use Rattle.bmp_check.specs.ShapedViews.{graph_in, cert_in}
use Rattle.bmp_check.proofs.InputLemmas.{at_block, read_at, has_room, has_stalks}
use Rattle.bmp_check_tests.proofs.sections.equations_at.Goals as goal

pub fill-requires-clause-there : goal.fill-requires-clause-there
fill-requires-clause-there c =
    let at = read_at c.requires.method c.sheaf-sheaf.ensures
    (at_block c.requires.whole c.args.x c.args.d c.requires.block) in
    (has_stalks at).above

pub fill-requires-clause-room : goal.fill-requires-clause-room
fill-requires-clause-room c =
    let at = read_at c.requires.method c.sheaf-sheaf.ensures
    (at_block c.requires.whole c.args.x c.args.d c.requires.block) in
    has_room at c.in_ok-scratch.scratch
    (subst (λ (m : Method). IsRoomFor (graph_in c.args.s.now) m (cert_in c.args.s.now) c.in_ok-scratch.scratch)
    c.requires.method c.in_ok-scratch.ensures)
