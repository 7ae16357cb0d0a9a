use Rattle.std.proofs.Common.{◌+◌, length, ap, subst, ◌∙◌, sym, arith}
use Rattle.std.proofs.lemmas.List.{length-set}
use Rattle.bmp_linear.specs.RowTables.{Work}
use Rattle.bmp_linear.proofs.RowSums.{IsAddedBelow, added_more}
use Rattle.bmp_sections.proofs.ValueLemmas.{value_row}
use Rattle.bmp_sections.proofs.sections.Sections.add_value.Goals as goal

pub loop-c-preserved : goal.loop-c-preserved
loop-c-preserved g c =
    let p = g.F.Field.size c.args.f.now in
    let row = value_row (g.Self.Sections.list c.args.self.now) c.args.j c.args.y in
    let factor = g.F.Field.num c.args.f.now c.args.factor in
    let second = ap (λ (w : Work). w.second) c.set.ensures in
    record {
      added =
          subst (λ l. IsAddedBelow p row 0 factor (c.loop-c.c + 1) c.args.s.now.second l) (sym second)
          (added_more p row 0 factor c.args.s.now.second c.loop-c.c c.loop-c.s.second _ _ _ _
          (omega (arith, c.loop-c.invariant.room, c.requires.room, c.size-c-end.ensures)) c.loop-c.invariant.added
          (c.from_num-sum.ensures.number ∙ c.from.ensures ∙ c.get.ensures) c.mul-term.ensures.number
          (c.from_num.ensures.number ∙ c.from-in-loop-c.ensures ∙ c.at.ensures)
          (c.num.ensures ∙ c.add.ensures.number));
      first = ap (λ (w : Work). w.first) c.set.ensures ∙ c.loop-c.invariant.first;
      room = ap length second ∙ length-set c.loop-c.s.second c.loop-c.c _ ∙ c.loop-c.invariant.room;
    }
