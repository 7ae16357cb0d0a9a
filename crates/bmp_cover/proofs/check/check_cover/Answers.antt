use Rattle.std.proofs.lemmas.Result.{err_from_is_err_and}
use Rattle.bmp_sheaf.specs.States.{sheaf_of}
use Rattle.bmp_cover.proofs.CoverSides.{cover_first}
use Rattle.bmp_cover.proofs.check.check_cover.Goals as goal

pub returns-in_err-check_covers-clause-fault : goal.returns-in_err-check_covers-clause-fault
returns-in_err-check_covers-clause-fault g c =
    let s = c.args.sheaf.now in
    let p = err_from_is_err_and c.from_residual.result c.from_residual.ensures.1 in
    rw (p.1, p.2) (cover_first s.graph (sheaf_of s) c.args.x c.args.d (g.T.Sections.list c.args.tuples.now) c.args.e.now
    _ c.in_err-check_covers.ensures.fault)
