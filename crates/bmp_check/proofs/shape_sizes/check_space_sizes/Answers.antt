use Rattle.std.proofs.Common.{◌∙◌, ◌++◌}
use Rattle.std.proofs.lemmas.Result.{err_from_is_err_and}
use Rattle.bmp_check.specs.declared.method.Method.TheVariants.{Spaces}
use Rattle.bmp_check.specs.Sizes.{pivot_sizes, kernel_sizes, cover_sizes, last_size, sizes_of_block}
use Rattle.bmp_check.proofs.SizeCheckLemmas.{exit_compares, goes_on, stops, then_compares}
use Rattle.bmp_check.proofs.shape_sizes.check_space_sizes.Goals as goal

pub returns-in_err-check_pivot_sizes : goal.returns-in_err-check_pivot_sizes
returns-in_err-check_pivot_sizes c =
    let n = c.args.n.now in
    let b = c.args.b.now in
    let r = c.in_err-check_pivot_sizes.field-0.0 in
    let p = err_from_is_err_and c.from_residual.result c.from_residual.ensures.1 in
    exit_compares c.args.at.now c.check_pivot_sizes.new.at (sizes_of_block Spaces n b) c.from_residual.result p.0 r p.1
    p.2
    (stops c.args.at.now (pivot_sizes n b.kernel) (kernel_sizes n b.kernel ++ (cover_sizes n b.cover ++ last_size n)) r
    c.in_err-check_pivot_sizes.ensures.compares)

pub returns-in_err-check_kernel_sizes : goal.returns-in_err-check_kernel_sizes
returns-in_err-check_kernel_sizes c =
    let n = c.args.n.now in
    let b = c.args.b.now in
    let r = c.in_err-check_kernel_sizes.field-0.0 in
    let rest = cover_sizes n b.cover ++ last_size n in
    let p = err_from_is_err_and c.from_residual-in_err-check_kernel_sizes.result
    c.from_residual-in_err-check_kernel_sizes.ensures.1 in
    exit_compares c.args.at.now c.check_kernel_sizes.new.at (sizes_of_block Spaces n b)
    c.from_residual-in_err-check_kernel_sizes.result p.0 r p.1 p.2
    (goes_on c.args.at.now c.check_pivot_sizes.new.at (pivot_sizes n b.kernel) (kernel_sizes n b.kernel ++ rest)
    c.in_ok-check_pivot_sizes.ensures.compares
    ∙ stops c.check_pivot_sizes.new.at (kernel_sizes n b.kernel) rest r c.in_err-check_kernel_sizes.ensures.compares)

pub returns-in_err-check_cover_sizes : goal.returns-in_err-check_cover_sizes
returns-in_err-check_cover_sizes c =
    let n = c.args.n.now in
    let b = c.args.b.now in
    let r = c.in_err-check_cover_sizes.field-0.0 in
    let rest = cover_sizes n b.cover ++ last_size n in
    let p = err_from_is_err_and c.from_residual-in_err-check_cover_sizes.result
    c.from_residual-in_err-check_cover_sizes.ensures.1 in
    exit_compares c.args.at.now c.check_cover_sizes.new.at (sizes_of_block Spaces n b)
    c.from_residual-in_err-check_cover_sizes.result p.0 r p.1 p.2
    (goes_on c.args.at.now c.check_pivot_sizes.new.at (pivot_sizes n b.kernel) (kernel_sizes n b.kernel ++ rest)
    c.in_ok-check_pivot_sizes.ensures.compares
    ∙ goes_on c.check_pivot_sizes.new.at c.check_kernel_sizes.new.at (kernel_sizes n b.kernel) rest
    c.in_ok-check_kernel_sizes.ensures.compares
    ∙ stops c.check_kernel_sizes.new.at (cover_sizes n b.cover) (last_size n) r
    c.in_err-check_cover_sizes.ensures.compares)

pub returns : goal.returns
returns c =
    let n = c.args.n.now in
    let b = c.args.b.now in
    let end = c.check_last_size.new.at in
    let result = c.check_last_size.result in
    let rest = cover_sizes n b.cover ++ last_size n in
    then_compares c.args.at.now c.check_pivot_sizes.new.at end (pivot_sizes n b.kernel)
    (kernel_sizes n b.kernel ++ rest) result c.in_ok-check_pivot_sizes.ensures.compares
    (then_compares c.check_pivot_sizes.new.at c.check_kernel_sizes.new.at end (kernel_sizes n b.kernel) rest result
    c.in_ok-check_kernel_sizes.ensures.compares
    (then_compares c.check_kernel_sizes.new.at c.check_cover_sizes.new.at end (cover_sizes n b.cover) (last_size n)
    result c.in_ok-check_cover_sizes.ensures.compares
    c.check_last_size.ensures))
