use Rattle.std.proofs.Common.{arith, ◌<◌, length}
use Rattle.bmp_module.proofs.TabledBlocks.{number_none, number_passed, number_more}
use Rattle.bmp_module.proofs.tabled.number_at.Goals as goal
use Rattle.bmp_module.proofs.tabled.number_at.Goals.{then-num-ne0, else-num-ne0}

pub loop-k-init : goal.loop-k-init
loop-k-init g c =
    number_none (g.F.Field.is_value c.args.f.now) (g.F.Field.num c.args.f.now) (g.F.Field.size c.args.f.now)
    c.args.table.now.label.prime c.args.table.now.label.rank c.args.table.now.label.leading
    c.args.table.now.label.coords c.args.s c.args.places.now c.args.block.now c.args.i c.zero-total.result
    c.zero-total.ensures.value c.zero-total.ensures.number

pub loop-k-preserved : goal.loop-k-preserved
loop-k-preserved g c =
    let inside : c.loop-k.k < length c.args.block.now = omega (arith, c.loop-k-test.true) in
    elim c.if-num-ne0.branch [
      | then-num-ne0 w ↦ rw w.total-is
          (number_more (g.F.Field.is_value c.args.f.now) (g.F.Field.num c.args.f.now) (g.F.Field.size c.args.f.now)
          c.args.table.now.label.prime c.args.table.now.label.rank c.args.table.now.label.leading
          c.args.table.now.label.coords c.args.s c.args.places.now c.args.block.now c.args.i
          c.loop-k.k c.loop-k.total c.index-block-k.result w.from_num.result w.mul.result w.add-total.result
          w.from.result w.column.result.now inside c.index-block-k.is c.requires.place w.column.ensures
          w.from_num.ensures.number w.from.ensures w.mul.ensures.number w.add-total.ensures.value
          w.add-total.ensures.number c.loop-k.invariant)
      | else-num-ne0 w ↦ rw w.total-is
          (number_passed (g.F.Field.is_value c.args.f.now) (g.F.Field.num c.args.f.now) (g.F.Field.size c.args.f.now)
          c.args.table.now.label.prime c.args.table.now.label.rank c.args.table.now.label.leading
          c.args.table.now.label.coords c.args.s c.args.places.now c.args.block.now c.args.i
          c.loop-k.k c.loop-k.total c.index-block-k.result inside c.index-block-k.is (let number = c.num.ensures in
          let none = w.if-num-ne0.false in omega (arith, number, none)) c.loop-k.invariant)
    ]
