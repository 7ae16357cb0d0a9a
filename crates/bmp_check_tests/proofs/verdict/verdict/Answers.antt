use Rattle.bmp_check_tests.proofs.FixtureLemmas.{square_checkable}
use Rattle.bmp_check_tests.proofs.verdict.verdict.Goals as goal

pub check_graph-requires-clause-checkable : goal.check_graph-requires-clause-checkable
check_graph-requires-clause-checkable g c = λ ks lives.
    square_checkable c.args.graph.now c.in_ok-cert.cert c.requires.graph c.in_ok-cert.ensures
