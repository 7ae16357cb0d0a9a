use Rattle.std.proofs.Common.{◌∙◌, arith, refl, rules}
use Rattle.std.proofs.lemmas.Nat.{mod_below}
use Rattle.bmp_linear.proofs.EntrySums.{entry_sum_none, entry_sum_step, entry_sum_all}
use Rattle.bmp_linear.proofs.combination.combine.Goals as goal

pub add_row_to-requires-clause-sums : goal.add_row_to-requires-clause-sums
add_row_to-requires-clause-sums g c =
    let two = g.met.F.Field.laws.at_least_two c.args.f.now in
    record {
      room = search rules;
      below = λ j l. rw (c.loop-entry.invariant j l) (mod_below _ (g.F.Field.size c.args.f.now) (omega (arith, two)));
    }

pub loop-entry-init : goal.loop-entry-init
loop-entry-init g c = λ j l. c.clear.ensures j (search rules) ∙ entry_sum_none _ c.entries-entry-items.result.now _

pub loop-entry-preserved : goal.loop-entry-preserved
loop-entry-preserved g c = λ j l.
    entry_sum_step (g.F.Field.size c.args.f.now) c.entries-entry-items.result.now c.loop-entry.entry-index _
    (λ i. (g.A.Rows.matrix c.args.a.now).entry i j) _ _ _ _
    c.loop-entry-test.true (c.loop-entry.invariant j l) (c.from_num-factor.ensures.number ∙ c.from.ensures) refl
    (c.add_row_to.ensures.added j l)

pub returns : goal.returns
returns g c = λ j l.
    let a = g.A.Rows.matrix c.args.a.now in
    let items = c.entries-entry-items.ensures.items in
    rw (← items) (entry_sum_all (g.F.Field.size c.args.f.now) c.entries-entry-items.result.now c.loop-entry.entry-index
    a.rows (λ i. a.entry i j) _ c.loop-entry-test.false c.entries-entry-items.ensures.sparse.rising
    (rw items c.requires.fits) (c.loop-entry.invariant j l))
