use Rattle.std.proofs.lemmas.Result.{on_ok_weaker}
use Rattle.bmp_linear.specs.SparseVectors.{number_at}
use Rattle.bmp_sheaf.specs.States.{sheaf_of}
use Rattle.bmp_sections.proofs.EdgeFaultLemmas.{none_fails, one_fails, on_err_then}
use Rattle.bmp_sections.proofs.compatible.compatible.Goals as goal

pub returns-clause-section : goal.returns-clause-section
returns-clause-section g c =
    let s = c.args.sheaf.now in
    on_ok_weaker c.first_fault.result
    (none_fails s.graph (sheaf_of s) c.args.x c.args.d c.graph.ensures.state.over (number_at c.args.t.now))
    c.first_fault.ensures.passed

pub returns-clause-none : goal.returns-clause-none
returns-clause-none g c =
    let s = c.args.sheaf.now in
    on_err_then _ _ c.first_fault.result c.first_fault.ensures.fault
    (one_fails s.graph (sheaf_of s) c.args.x c.args.d c.graph.ensures.state.over (number_at c.args.t.now))
