use Rattle.bmp_linear.proofs.SparseRowChangeLemmas.{copied_more, copied_all, copied_sparse, copied_table}
use Rattle.bmp_linear.proofs.sparse.SparseRowsRowSpace.copy.Goals as goal

pub loop-row-preserved : goal.loop-row-preserved
loop-row-preserved g c =
    copied_more c.deref-row-items.result.now c.loop-row.row-index c.loop-row.rows.items c.push.new.self.items
    c.row-item.result c.in_ok-from_slice.field-0 c.as_slice.result.now
    c.loop-row-test.true c.loop-row.invariant c.row-item.is c.as_slice.ensures c.in_ok-from_slice.ensures.ok
    c.in_ok-push.ensures.items

pub invariant_of-result : goal.invariant_of-result
invariant_of-result g c =
    copied_sparse c.self.inside.cols c.self.inside.rows.items c.loop-row.rows.items
    (copied_all c.self.inside.rows.items c.deref-row-items.result.now c.loop-row.row-index c.loop-row.rows.items
    c.deref-row-items.ensures.value c.loop-row-test.false c.loop-row.invariant) c.self.invariant

pub returns : goal.returns
returns g c =
    copied_table c.args.self.now c.self.inside.cols c.self.inside.rows.items c.loop-row.rows.items
    (copied_all c.self.inside.rows.items c.deref-row-items.result.now c.loop-row.row-index c.loop-row.rows.items
    c.deref-row-items.ensures.value c.loop-row-test.false c.loop-row.invariant) c.self.view_is
