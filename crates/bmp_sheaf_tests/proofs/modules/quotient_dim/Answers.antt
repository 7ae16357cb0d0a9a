use Rattle.std.proofs.Common.{arith, ◌-◌}
use Rattle.bmp_graded.proofs.CopiesLemmas.{quotient_small}
use Rattle.bmp_sheaf_tests.proofs.modules.quotient_dim.Goals as goal

pub dim-requires-clause-small : goal.dim-requires-clause-small
dim-requires-clause-small c =
    let s = c.args.quotient.now in
    quotient_small (s.label.rank - 1) s.label.leading c.args.d _ s.free.degrees.items
    (omega (arith, s.agree, s.free.wide)) c.requires s.free.few
