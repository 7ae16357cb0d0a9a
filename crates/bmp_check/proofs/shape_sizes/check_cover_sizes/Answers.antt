use Rattle.std.proofs.Common.{◌∙◌, ◌++◌}
use Rattle.std.proofs.lemmas.Result.{err_from_is_err_and}
use Rattle.bmp_check.specs.Sizes.{each_at_most, cover_sizes}
use Rattle.bmp_check.proofs.SizeCheckLemmas.{exit_compares, goes_on, stops, then_compares}
use Rattle.bmp_check.proofs.shape_sizes.check_cover_sizes.Goals as goal

pub returns-in_err-each_at_most-clause-compares : goal.returns-in_err-each_at_most-clause-compares
returns-in_err-each_at_most-clause-compares c =
    let n = c.args.n.now in
    let e = c.args.e.now in
    let r = c.in_err-each_at_most.field-0.0 in
    let p = err_from_is_err_and c.from_residual.result c.from_residual.ensures.1 in
    exit_compares c.args.at.now c.each_at_most.new.self (cover_sizes n e) c.from_residual.result p.0 r p.1 p.2
    (stops c.args.at.now (each_at_most e.covers n.stalk)
    (each_at_most e.sources n.tuples ++ each_at_most e.duals n.boundary) r c.in_err-each_at_most.ensures.compares)

pub returns-in_err-each_at_most-2-clause-compares : goal.returns-in_err-each_at_most-2-clause-compares
returns-in_err-each_at_most-2-clause-compares c =
    let n = c.args.n.now in
    let e = c.args.e.now in
    let r = c.in_err-each_at_most-2.field-0.0 in
    let p = err_from_is_err_and c.from_residual-in_err-each_at_most-2.result
    c.from_residual-in_err-each_at_most-2.ensures.1 in
    exit_compares c.args.at.now c.each_at_most-2.new.self (cover_sizes n e) c.from_residual-in_err-each_at_most-2.result
    p.0 r p.1 p.2
    (goes_on c.args.at.now c.each_at_most.new.self (each_at_most e.covers n.stalk)
    (each_at_most e.sources n.tuples ++ each_at_most e.duals n.boundary) c.in_ok-each_at_most.ensures.compares
    ∙ stops c.each_at_most.new.self (each_at_most e.sources n.tuples) (each_at_most e.duals n.boundary) r
    c.in_err-each_at_most-2.ensures.compares)

pub returns-clause-compares : goal.returns-clause-compares
returns-clause-compares c =
    let n = c.args.n.now in
    let e = c.args.e.now in
    then_compares c.args.at.now c.each_at_most.new.self c.each_at_most-3.new.self (each_at_most e.covers n.stalk)
    (each_at_most e.sources n.tuples ++ each_at_most e.duals n.boundary) c.each_at_most-3.result
    c.in_ok-each_at_most.ensures.compares
    (then_compares c.each_at_most.new.self c.each_at_most-2.new.self c.each_at_most-3.new.self
    (each_at_most e.sources n.tuples) (each_at_most e.duals n.boundary) c.each_at_most-3.result
    c.in_ok-each_at_most-2.ensures.compares c.each_at_most-3.ensures.compares)
