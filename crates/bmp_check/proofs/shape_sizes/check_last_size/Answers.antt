use Rattle.bmp_check.specs.Sizes.{at_most, largest, limit}
use Rattle.bmp_check.proofs.SizeCheckLemmas.{compares_as}
use Rattle.bmp_check.proofs.shape_sizes.check_last_size.Goals as goal

pub returns : goal.returns
returns c =
    let n = c.args.n.now in
    let end = c.at_most.new.self in
    compares_as c.args.at.now end (λ k. at_most (largest n) k) c.from.result limit c.at_most.result c.from.ensures
    (compares_as c.args.at.now end (λ k. at_most k c.from.result) c.largest.result (largest n) c.at_most.result
    c.largest.ensures c.at_most.ensures.compares)
