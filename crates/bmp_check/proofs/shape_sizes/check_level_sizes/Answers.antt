use Rattle.std.proofs.Common.{◌≡◌, ◌∙◌, [], ◌∷◌, ◌++◌, length, Some, subst}
use Rattle.std.proofs.lemmas.Result.{err_from_is_err_and}
use Rattle.bmp_check.specs.declared.method.Method.TheVariants.{Levels}
use Rattle.bmp_check.specs.Sizes.{is, pivot_sizes, kernel_sizes, cover_sizes, last_size, sizes_of_block}
use Rattle.bmp_check.specs.SizeChecks.{first_of}
use Rattle.bmp_check.proofs.SizeCheckLemmas.{exit_compares, goes_on, stops, passed_as, then_compares}
use Rattle.bmp_check.proofs.shape_sizes.check_level_sizes.Goals as goal

pub returns-in_err-is : goal.returns-in_err-is
returns-in_err-is c =
    let n = c.args.n.now in
    let b = c.args.b.now in
    let r = c.in_err-is.field-0.0 in
    let covers : c.from.result ≡ length b.cover.covers = c.from.ensures ∙ c.len.ensures in
    let fails = subst (λ k. first_of c.args.at.now (is k n.tuples ∷ []) ≡ Some r) covers c.in_err-is.ensures.compares in
    let p = err_from_is_err_and c.from_residual.result c.from_residual.ensures.1 in
    exit_compares c.args.at.now c.is.new.self (sizes_of_block Levels n b) c.from_residual.result p.0 r p.1 p.2
    (stops c.args.at.now (is (length b.cover.covers) n.tuples ∷ [])
    (pivot_sizes n b.kernel ++ (cover_sizes n b.cover ++ (kernel_sizes n b.kernel ++ last_size n))) r fails)

pub returns-in_err-check_pivot_sizes : goal.returns-in_err-check_pivot_sizes
returns-in_err-check_pivot_sizes c =
    let n = c.args.n.now in
    let b = c.args.b.now in
    let r = c.in_err-check_pivot_sizes.field-0.0 in
    let first = is (length b.cover.covers) n.tuples ∷ [] in
    let rest = cover_sizes n b.cover ++ (kernel_sizes n b.kernel ++ last_size n) in
    let start = passed_as c.args.at.now c.is.new.self (λ k. is k n.tuples) _ _ (c.from.ensures ∙ c.len.ensures)
    c.in_ok-is.ensures.compares in
    let p = err_from_is_err_and c.from_residual-in_err-check_pivot_sizes.result
    c.from_residual-in_err-check_pivot_sizes.ensures.1 in
    exit_compares c.args.at.now c.check_pivot_sizes.new.at (sizes_of_block Levels n b)
    c.from_residual-in_err-check_pivot_sizes.result p.0 r p.1 p.2
    (goes_on c.args.at.now c.is.new.self first (pivot_sizes n b.kernel ++ rest) start
    ∙ stops c.is.new.self (pivot_sizes n b.kernel) rest r c.in_err-check_pivot_sizes.ensures.compares)

pub returns-in_err-check_cover_sizes : goal.returns-in_err-check_cover_sizes
returns-in_err-check_cover_sizes c =
    let n = c.args.n.now in
    let b = c.args.b.now in
    let r = c.in_err-check_cover_sizes.field-0.0 in
    let first = is (length b.cover.covers) n.tuples ∷ [] in
    let last = kernel_sizes n b.kernel ++ last_size n in
    let start = passed_as c.args.at.now c.is.new.self (λ k. is k n.tuples) _ _ (c.from.ensures ∙ c.len.ensures)
    c.in_ok-is.ensures.compares in
    let p = err_from_is_err_and c.from_residual-in_err-check_cover_sizes.result
    c.from_residual-in_err-check_cover_sizes.ensures.1 in
    exit_compares c.args.at.now c.check_cover_sizes.new.at (sizes_of_block Levels n b)
    c.from_residual-in_err-check_cover_sizes.result p.0 r p.1 p.2
    (goes_on c.args.at.now c.is.new.self first (pivot_sizes n b.kernel ++ (cover_sizes n b.cover ++ last)) start
    ∙ goes_on c.is.new.self c.check_pivot_sizes.new.at (pivot_sizes n b.kernel) (cover_sizes n b.cover ++ last)
    c.in_ok-check_pivot_sizes.ensures.compares
    ∙ stops c.check_pivot_sizes.new.at (cover_sizes n b.cover) last r c.in_err-check_cover_sizes.ensures.compares)

pub returns-in_err-check_kernel_sizes : goal.returns-in_err-check_kernel_sizes
returns-in_err-check_kernel_sizes c =
    let n = c.args.n.now in
    let b = c.args.b.now in
    let r = c.in_err-check_kernel_sizes.field-0.0 in
    let first = is (length b.cover.covers) n.tuples ∷ [] in
    let last = kernel_sizes n b.kernel ++ last_size n in
    let start = passed_as c.args.at.now c.is.new.self (λ k. is k n.tuples) _ _ (c.from.ensures ∙ c.len.ensures)
    c.in_ok-is.ensures.compares in
    let p = err_from_is_err_and c.from_residual-in_err-check_kernel_sizes.result
    c.from_residual-in_err-check_kernel_sizes.ensures.1 in
    exit_compares c.args.at.now c.check_kernel_sizes.new.at (sizes_of_block Levels n b)
    c.from_residual-in_err-check_kernel_sizes.result p.0 r p.1 p.2
    (goes_on c.args.at.now c.is.new.self first (pivot_sizes n b.kernel ++ (cover_sizes n b.cover ++ last)) start
    ∙ goes_on c.is.new.self c.check_pivot_sizes.new.at (pivot_sizes n b.kernel) (cover_sizes n b.cover ++ last)
    c.in_ok-check_pivot_sizes.ensures.compares
    ∙ goes_on c.check_pivot_sizes.new.at c.check_cover_sizes.new.at (cover_sizes n b.cover) last
    c.in_ok-check_cover_sizes.ensures.compares
    ∙ stops c.check_cover_sizes.new.at (kernel_sizes n b.kernel) (last_size n) r
    c.in_err-check_kernel_sizes.ensures.compares)

pub returns : goal.returns
returns c =
    let n = c.args.n.now in
    let b = c.args.b.now in
    let end = c.check_last_size.new.at in
    let result = c.check_last_size.result in
    let first = is (length b.cover.covers) n.tuples ∷ [] in
    let last = kernel_sizes n b.kernel ++ last_size n in
    let start = passed_as c.args.at.now c.is.new.self (λ k. is k n.tuples) _ _ (c.from.ensures ∙ c.len.ensures)
    c.in_ok-is.ensures.compares in
    then_compares c.args.at.now c.is.new.self end first (pivot_sizes n b.kernel ++ (cover_sizes n b.cover ++ last))
    result start
    (then_compares c.is.new.self c.check_pivot_sizes.new.at end (pivot_sizes n b.kernel) (cover_sizes n b.cover ++ last)
    result c.in_ok-check_pivot_sizes.ensures.compares
    (then_compares c.check_pivot_sizes.new.at c.check_cover_sizes.new.at end (cover_sizes n b.cover) last result
    c.in_ok-check_cover_sizes.ensures.compares
    (then_compares c.check_cover_sizes.new.at c.check_kernel_sizes.new.at end (kernel_sizes n b.kernel) (last_size n)
    result c.in_ok-check_kernel_sizes.ensures.compares
    c.check_last_size.ensures)))
