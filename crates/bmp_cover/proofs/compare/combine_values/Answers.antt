use Rattle.std.proofs.Common.{◌+◌, ◌*◌, ◌%◌, ◌∙◌, get_or, ap, refl, arith}
use Rattle.bmp_linear.proofs.EntrySums.{entry_sum_none, entry_sum_step, entry_sum_all}
use Rattle.bmp_cover.proofs.compare.combine_values.Goals as goal

pub loop-factor-init : goal.loop-factor-init
loop-factor-init g c = record {
  combined = λ k l. c.loop-c.invariant.zeros k (omega (arith, l, c.size-c-end.ensures))
      ∙ entry_sum_none _ c.args.factors.now _;
  first = c.loop-c.invariant.first;
  room = c.loop-c.invariant.room;
}

pub loop-factor-preserved : goal.loop-factor-preserved
loop-factor-preserved g c = record {
  combined = λ k l.
      entry_sum_step (g.F.Field.size c.args.f.now) c.args.factors.now c.loop-factor.factor-index _
      (λ j. (g.T.Sections.list c.args.tuples.now).value j c.args.y k) _ _ _ _
      c.loop-factor-test.true (c.loop-factor.invariant.combined k l) (c.from_num-value.ensures.number ∙ c.from.ensures)
      refl
      (c.add_value.ensures.added k l
      ∙ ap (λ j. (get_or c.loop-factor.s.second k 0 + g.F.Field.num c.args.f.now c.from_num-value.result
      * (g.T.Sections.list c.args.tuples.now).value j c.args.y k) % g.F.Field.size c.args.f.now)
      c.from-in-loop-factor.ensures);
  first = c.add_value.ensures.first ∙ c.loop-factor.invariant.first;
  room = c.add_value.ensures.room ∙ c.loop-factor.invariant.room;
}

pub returns-clause-combined : goal.returns-clause-combined
returns-clause-combined g c = λ k l.
    entry_sum_all (g.F.Field.size c.args.f.now) c.args.factors.now c.loop-factor.factor-index
    (g.T.Sections.list c.args.tuples.now).count (λ j. (g.T.Sections.list c.args.tuples.now).value j c.args.y k) _
    c.loop-factor-test.false c.requires.sparse.rising c.requires.fits (c.loop-factor.invariant.combined k l)

pub add_value-requires-clause-room : goal.add_value-requires-clause-room
add_value-requires-clause-room g c =
    omega (arith, c.requires.room, c.len.ensures.first, c.len.ensures.second, c.loop-factor.invariant.room)
