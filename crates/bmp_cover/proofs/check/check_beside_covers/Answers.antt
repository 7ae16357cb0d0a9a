use Rattle.std.proofs.Common.{sym, subst}
use Rattle.std.proofs.lemmas.Result.{err_from_is_err_and}
use Rattle.bmp_linear.proofs.FaultLemmas.{on_ok}
use Rattle.bmp_sheaf.specs.States.{sheaf_of}
use Rattle.bmp_cover.specs.CoverInputs.{CoverFits}
use Rattle.bmp_cover.proofs.FaultLemmas.{on_err}
use Rattle.bmp_cover.proofs.CoverSides.{all_pass, source_first, dual_first}
use Rattle.bmp_cover.proofs.CoverTheorems.{passing_covers, passing_sources, passing_duals}
use Rattle.bmp_cover.proofs.check.check_beside_covers.Goals as goal

pub returns-in_err-check_sources-clause-fault : goal.returns-in_err-check_sources-clause-fault
returns-in_err-check_sources-clause-fault g c =
    let s = c.args.sheaf.now in
    let p = err_from_is_err_and c.from_residual.result
    c.from_residual.ensures.1 in
    rw (p.1, p.2) (source_first s.graph (sheaf_of s) c.args.x c.args.d (g.T.Sections.list c.args.tuples.now)
    c.args.e.now _ c.requires.covers c.in_err-check_sources.ensures.fault)

pub check_duals-requires-clause-fits : goal.check_duals-requires-clause-fits
check_duals-requires-clause-fits g c =
    subst (λ n. CoverFits c.args.sheaf.now c.args.x c.args.d n c.args.e.now) (sym c.requires.fits.covers)
    c.requires.fits

pub returns-clause-ok : goal.returns-clause-ok
returns-clause-ok g c =
    let s = c.args.sheaf.now in
    on_ok c.check_duals.result _ _
    (all_pass s.graph (sheaf_of s) c.args.x c.args.d (g.T.Sections.list c.args.tuples.now) c.args.e.now
    c.requires.covers c.in_ok-check_sources.ensures.ok)
    c.check_duals.ensures.ok

pub returns-clause-fault : goal.returns-clause-fault
returns-clause-fault g c =
    let s = c.args.sheaf.now in
    on_err c.check_duals.result _ _
    (λ fault. dual_first s.graph (sheaf_of s) c.args.x c.args.d (g.T.Sections.list c.args.tuples.now) c.args.e.now fault
    c.requires.covers c.in_ok-check_sources.ensures.ok)
    c.check_duals.ensures.fault

pub returns-clause-minimal : goal.returns-clause-minimal
returns-clause-minimal g c =
    let s = c.args.sheaf.now in
    let state = c.check_duals.ensures.state in
    on_ok c.check_duals.result _ _
    (passing_duals s.graph (sheaf_of s) c.args.x c.args.d state.over state.wide (g.T.Sections.list c.args.tuples.now)
    c.args.e.now)
    c.check_duals.ensures.ok

pub returns-clause-lifted : goal.returns-clause-lifted
returns-clause-lifted g c =
    let s = c.args.sheaf.now in
    let state = c.check_duals.ensures.state in
    on_ok c.check_duals.result _ _
    (λ duals. passing_covers s.graph (sheaf_of s) c.args.x c.args.d state.over state.wide
    (g.T.Sections.list c.args.tuples.now) c.args.e.now c.requires.covers)
    c.check_duals.ensures.ok

pub returns-clause-reached : goal.returns-clause-reached
returns-clause-reached g c =
    let s = c.args.sheaf.now in
    let state = c.check_duals.ensures.state in
    on_ok c.check_duals.result _ _
    (λ duals. passing_sources s.graph (sheaf_of s) c.args.x c.args.d state.over state.wide
    (g.T.Sections.list c.args.tuples.now) c.args.e.now c.in_ok-check_sources.ensures.ok)
    c.check_duals.ensures.ok
