use Rattle.std.proofs.Common.{get_or, refl}
use Rattle.bmp_module.proofs.NormalColumns.{forms_none, forms_pushed}
use Rattle.bmp_module.proofs.normal_table.NormalTable.new.Goals as goal

pub loop-s-init : goal.loop-s-init
loop-s-init g c =
    rw c.in_ok-table.ensures.items (
      refl,
      forms_none c.args.label.now.prime c.args.label.now.rank c.args.label.now.leading
          (λ k. get_or c.args.label.now.coords k 0),
    )

pub loop-s-preserved : goal.loop-s-preserved
loop-s-preserved g c =
    rw c.in_ok-push.ensures.items
    (forms_pushed c.args.label.now.prime c.args.label.now.rank c.args.label.now.leading
    (λ k. get_or c.args.label.now.coords k 0) (λ v. v.items) c.loop-s.table.items c.in_ok-columns.field-0 c.loop-s.s
    c.loop-s.invariant.0 c.loop-s.invariant.1 c.in_ok-columns.ensures)
