use Rattle.bmp_check_tests.proofs.FixtureLemmas.{formed_over}
use Rattle.bmp_check_tests.proofs.verdict.sizes_of_the_line.Goals as goal

pub check_shape-requires-clause-formed : goal.check_shape-requires-clause-formed
check_shape-requires-clause-formed g c =
    formed_over c.in_ok-graph.graph c.in_ok-cert.cert 1 2 c.in_ok-cert.ensures c.in_ok-graph.ensures.prime
