use Rattle.std.proofs.Common.{◌≡◌, ◌+◌, ◌∙◌, [], ◌∷◌, length, ap₂}
use Rattle.bmp_check.specs.Sizes.{is, at_most, need_of_places}
use Rattle.bmp_check.proofs.SizeCheckLemmas.{passed_as, compares_as, then_compares}
use Rattle.bmp_check.proofs.shape_sizes.check_pivot_sizes.Goals as goal

pub returns-clause-compares : goal.returns-clause-compares
returns-clause-compares c =
    let n = c.args.n.now in
    let e = c.args.e.now in
    let all : c.from.result + c.from-2.result ≡ length e.pivots + length e.basis =
    ap₂ (λ x y. x + y) (c.from.ensures ∙ c.len.ensures) (c.from-2.ensures ∙ c.len-2.ensures) in
    then_compares c.args.at.now c.is.new.self c.at_most.new.self (is (length e.pivots + length e.basis) n.columns ∷ [])
    (at_most (need_of_places e.pivots) n.columns ∷ []) c.at_most.result
    (passed_as c.args.at.now c.is.new.self (λ k. is k n.columns) _ _ all c.in_ok-is.ensures.compares)
    (compares_as c.is.new.self c.at_most.new.self (λ k. at_most k n.columns) _ _ c.at_most.result
    c.need_of_places.ensures c.at_most.ensures.compares)
