use Rattle.std.proofs.Common.{arith}
use Rattle.bmp_check_tests.proofs.FixtureLemmas.{line_checkable}
use Rattle.bmp_check_tests.proofs.verdict.verdict_by_levels.Goals as goal

pub check_graph-requires-clause-checkable : goal.check_graph-requires-clause-checkable
check_graph-requires-clause-checkable g c = λ ks lives.
    line_checkable c.args.graph.now c.in_ok-cert.cert 2 c.requires.graph (omega arith, omega arith) c.in_ok-cert.ensures
