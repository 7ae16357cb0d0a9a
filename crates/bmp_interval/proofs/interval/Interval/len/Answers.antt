use Rattle.std.proofs.Common.{arith}
use Rattle.bmp_interval.proofs.FactLemmas.{interval_is, interval_of_is, has_a_vertex}
use Rattle.bmp_interval.proofs.interval.Interval.len.Goals as goal

pub returns-clause-at_least_one : goal.returns-clause-at_least_one
returns-clause-at_least_one c = omega (arith, has_a_vertex c.args.self.now, c.len.ensures.len)

pub returns-clause-at_most : goal.returns-clause-at_most
returns-clause-at_most c = omega (arith, (interval_is c.args.self.now).few, c.len.ensures.len)

pub returns-clause-interval : goal.returns-clause-interval
returns-clause-interval c = interval_of_is c.args.self.now
