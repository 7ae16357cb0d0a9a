use Rattle.std.proofs.Common.{arith, ◌∙◌, refl, sym}
use Rattle.bmp_graded.specs.Modules.{polynomials}
use Rattle.bmp_graded.proofs.Totals.{total_step, total_end}
use Rattle.bmp_graded.proofs.CopiesLemmas.{block_dim, copies_dim, free_small}
use Rattle.bmp_module.proofs.free.dimension.Goals as goal

pub overflow_add-dim : goal.overflow_add-dim
overflow_add-dim c =
    let more = total_step (block_dim (polynomials c.args.rank) c.args.d) c.args.degrees.now c.args.degrees.now
    c.loop-g.g-index _ c.loop-g.dim 0 refl c.loop-g-test.true c.loop-g.invariant in
    let small = free_small c.args.rank c.args.d c.args.degrees.now c.requires.rank c.requires.degree c.requires.few in
    omega (
      arith,
      more,
      c.from-dim.ensures,
      c.block_length.ensures,
      small,
      copies_dim (polynomials c.args.rank) c.args.d c.args.degrees.now,
    )

pub loop-g-preserved : goal.loop-g-preserved
loop-g-preserved c =
    rw (c.from-dim.ensures, c.block_length.ensures)
    (total_step (block_dim (polynomials c.args.rank) c.args.d) c.args.degrees.now c.args.degrees.now
    c.loop-g.g-index _ c.loop-g.dim 0 refl c.loop-g-test.true c.loop-g.invariant)

pub returns : goal.returns
returns c = total_end (block_dim (polynomials c.args.rank) c.args.d) c.args.degrees.now c.args.degrees.now
    c.loop-g.g-index _ c.loop-g.dim refl c.loop-g-test.false c.loop-g.invariant
    ∙ sym (copies_dim (polynomials c.args.rank) c.args.d c.args.degrees.now)
