use Rattle.std.proofs.Common.{◌∙◌, ◌+◌, ◌*◌, ◌%◌, ap, get_or, arith, refl, rules}
use Rattle.std.proofs.lemmas.Nat.{mod_below}
use Rattle.bmp_linear.proofs.EntrySums.{entry_sum_none, entry_sum_step, entry_sum_all}
use Rattle.bmp_sections.specs.TupleLists.{value_matrix}
use Rattle.bmp_stalk.proofs.joined.add_combination.Goals as goal

pub add_coordinate_to-requires-clause-sums : goal.add_coordinate_to-requires-clause-sums
add_coordinate_to-requires-clause-sums g c =
    let two = g.met.F.Field.laws.at_least_two c.args.f.now in
    record {
      room = omega (arith, c.requires.room, c.loop-entry.invariant.room);
      below = λ j l. rw (c.loop-entry.invariant.sums j l)
          (mod_below _ (g.F.Field.size c.args.f.now) (omega (arith, two)));
    }

pub loop-entry-init : goal.loop-entry-init
loop-entry-init g c = record {
  room = refl;
  sums = λ j l. c.requires.clear j (search rules) ∙ entry_sum_none _ c.entries-entry-items.result.now _;
}

pub loop-entry-preserved : goal.loop-entry-preserved
loop-entry-preserved g c =
    let a = value_matrix (g.T.Sections.list c.args.tuples.now) c.args.y in
    let p = g.F.Field.size c.args.f.now in
    let factor = g.F.Field.num c.args.f.now c.from_num-factor.result in
    record {
      room = c.add_coordinate_to.auto.sums ∙ c.loop-entry.invariant.room;
      sums = λ j l.
          entry_sum_step (g.F.Field.size c.args.f.now) c.entries-entry-items.result.now c.loop-entry.entry-index _
          (λ i. a.entry i j) _ _ _ _
          c.loop-entry-test.true (c.loop-entry.invariant.sums j l) (c.from_num-factor.ensures.number ∙ c.from.ensures)
          refl
          (c.add_coordinate_to.ensures.added j l
          ∙ ap (λ k. (get_or c.loop-entry.sums j 0 + factor * a.entry k j) % p) c.from-in-loop-entry.ensures);
    }

pub returns : goal.returns
returns g c = λ j l.
    let a = value_matrix (g.T.Sections.list c.args.tuples.now) c.args.y in
    let items = c.entries-entry-items.ensures.items in
    rw (← items) (entry_sum_all (g.F.Field.size c.args.f.now) c.entries-entry-items.result.now c.loop-entry.entry-index
    a.rows (λ i. a.entry i j) _ c.loop-entry-test.false c.entries-entry-items.ensures.sparse.rising
    (rw items c.requires.fits) (c.loop-entry.invariant.sums j l))
