use Rattle.std.proofs.Common.{◌≡◌, ◌∙◌, ap, subst, arith, get_or}
use Rattle.bmp_poly.specs.Exponents.{count}
use Rattle.bmp_module.specs.Tables.{HasNormalColumns}
use Rattle.bmp_module.proofs.NormalColumns.{columns_none, columns_more}
use Rattle.bmp_module.proofs.normal_table.columns.Goals as goal

pub loop-t-init : goal.loop-t-init
loop-t-init g c =
    rw c.new-numbers.ensures.items
    (columns_none c.args.label.now.prime c.args.label.now.rank c.args.label.now.leading
    (λ k. get_or c.args.label.now.coords k 0) c.args.degree)

pub loop-t-preserved : goal.loop-t-preserved
loop-t-preserved g c =
    rw (c.in_ok-extend_from_slice.ensures.items, c.deref.ensures.value)
    (columns_more c.args.label.now.prime c.args.label.now.rank c.args.label.now.leading
    (λ k. get_or c.args.label.now.coords k 0) c.args.degree c.loop-t.t c.loop-t.numbers.items
    c.in_ok-column.column.items c.loop-t.invariant c.in_ok-column.ensures)

pub returns : goal.returns
returns g c =
    let last : c.loop-t.t ≡ c.count-t-end.result = omega (arith, c.loop-t.auto.t-end, c.loop-t-test.false) in
    let rank_is : c.rank.result ≡ c.args.label.now.rank = c.rank.ensures in
    let count_is : c.count-t-end.result ≡ count c.args.label.now.rank c.args.degree =
    c.count-t-end.ensures.number ∙ ap (λ r. count r c.args.degree) rank_is in
    let all : c.loop-t.t ≡ count c.args.label.now.rank c.args.degree = last ∙ count_is in
    subst (λ n. HasNormalColumns c.args.label.now.prime c.args.label.now.rank (λ k. get_or c.args.label.now.coords k 0)
    c.args.label.now.leading c.args.degree n c.loop-t.numbers.items) all c.loop-t.invariant
