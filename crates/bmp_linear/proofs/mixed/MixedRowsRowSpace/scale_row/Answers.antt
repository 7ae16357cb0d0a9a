use Rattle.std.proofs.Common.{◌<◌, ◌∙◌, length, length-set, ap, sym, subst, arith}
use Rattle.bmp_linear.proofs.RowChangeLemmas.{numbers_below-multiplied}
use Rattle.bmp_linear.proofs.NumberRowLemmas.{row_is, within, table_times, set_lengths}
use Rattle.bmp_linear.proofs.mixed.MixedRowsRowSpace.scale_row.Goals as goal

pub returns-clause-multiplied : goal.returns-clause-multiplied
returns-clause-multiplied g c =
    let cols = c.self.inside.cols in
    let rows = c.self.inside.rows.items in
    let below = within c.args.self.now cols rows c.self.view_is c.args.i c.requires.row in
    table_times c.args.self.now cols rows c.self.view_is c.args.i c.index_mut.result.now c.scale.new.self below
    (row_is rows c.args.i c.index_mut.result.now below c.index_mut.ensures.value) c.self.invariant.2
    (g.F.Field.size c.args.f.now) (g.F.Field.num c.args.f.now c.args.c) c.scale.ensures

pub returns-clause-numbers : goal.returns-clause-numbers
returns-clause-numbers g c =
    let two = g.met.F.Field.laws.at_least_two c.args.f.now in
    let some : 0 < g.F.Field.size c.args.f.now = omega (arith, two) in
    numbers_below-multiplied (g.F.Field.size c.args.f.now) _ _ c.args.i _ some c.requires.numbers
    (returns-clause-multiplied g c)

pub invariant_of-self : goal.invariant_of-self
invariant_of-self g c =
    let cols = c.self.inside.cols in
    let rows = c.self.inside.rows.items in
    let below = within c.args.self.now cols rows c.self.view_is c.args.i c.requires.row in
    let row = row_is rows c.args.i c.index_mut.result.now below c.index_mut.ensures.value in (
      subst (λ n. n < 4294967296) (sym (length-set rows c.args.i c.scale.new.self)) c.self.invariant.0,
      c.self.invariant.1,
      set_lengths cols rows c.args.i c.scale.new.self below c.self.invariant.2
          (c.scale.ensures.length_is ∙ ap length row ∙ c.self.invariant.2 c.args.i below),
    )
