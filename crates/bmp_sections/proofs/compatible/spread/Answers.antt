use Rattle.std.proofs.Common.{◌≡◌, ℕ, ◌+◌, ◌<◌, ◌∙◌, length, set, get_or, take, take_all, sym, ap, subst, arith}
use Rattle.std.proofs.lemmas.List.{length-set}
use Rattle.bmp_linear.specs.declared.vector.Entry.{Entry}
use Rattle.bmp_linear.specs.RowTables.{Work}
use Rattle.bmp_linear.specs.SparseVectors.{FitsBelow, number_at}
use Rattle.bmp_sections.proofs.EdgeFaultLemmas.{spread_more}
use Rattle.bmp_sections.proofs.compatible.spread.Goals as goal

pub loop-entry-init : goal.loop-entry-init
loop-entry-init c = record {
  written = λ j l. c.loop-place.invariant.zeros j (omega (arith, l, c.loop-place-test.false, c.from-place-end.ensures));
  room = c.loop-place.invariant.room;
}

pub loop-entry-preserved : goal.loop-entry-preserved
loop-entry-preserved c =
    let entries = c.entries-entry-items.result.now in
    let d : Entry = record { place = 0; value = 0 } in
    let first = ap (λ (w : Work). w.first) c.set-in-loop-entry.ensures
    ∙ ap (λ z. set c.loop-entry.s.first z
    (get_or c.entries-entry-items.result.now c.loop-entry.entry-index (record { place = 0; value = 0 })).value)
    c.from.ensures in
    let fits = subst (λ v. FitsBelow v c.args.len) (sym c.entries-entry-items.ensures.items) c.requires.fits in
    record {
      written =
          subst (λ ns. (j : ℕ) → j < c.args.len →
          get_or ns j 0 ≡ number_at (take (c.loop-entry.entry-index + 1) c.entries-entry-items.result.now) j)
          (sym first)
          (spread_more entries c.loop-entry.s.first c.args.len c.loop-entry.entry-index d
          c.entries-entry-items.ensures.sparse.rising c.loop-entry-test.true
          (omega (arith, c.requires.room, c.loop-entry.invariant.room))
          (fits c.loop-entry.entry-index d c.loop-entry-test.true) c.loop-entry.invariant.written);
      room = ap length first ∙ length-set c.loop-entry.s.first _ _ ∙ c.loop-entry.invariant.room;
    }

pub returns : goal.returns
returns c =
    let all = take_all c.loop-entry.entry-index c.entries-entry-items.result.now c.loop-entry-test.false in
    let whole = all ∙ c.entries-entry-items.ensures.items in
    record {
      spread = record {
        room = omega (arith, c.requires.room, c.loop-entry.invariant.room);
        same = λ j l. c.loop-entry.invariant.written j l ∙ ap (λ v. number_at v j) whole;
      };
      room = c.loop-entry.invariant.room;
    }
