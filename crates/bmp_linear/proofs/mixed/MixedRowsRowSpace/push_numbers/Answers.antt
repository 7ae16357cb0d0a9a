use Rattle.std.proofs.Common.{◌<◌, ◌∙◌, List, ℕ, length, get_or, slice_index, ap, sym, subst, rules}
use Rattle.bmp_linear.specs.KeptRows.{spread_numbers}
use Rattle.bmp_linear.specs.NumberRows.{HaveLength}
use Rattle.bmp_linear.proofs.RowChangeLemmas.{numbers_below-row_pushed}
use Rattle.bmp_linear.proofs.KeptRowLemmas.{spread-length, spread-at}
use Rattle.bmp_linear.proofs.NumberRowLemmas.{table_pushed, pushed_lengths}
use Rattle.bmp_linear.proofs.mixed.MixedRowsRowSpace.push_numbers.Goals as goal

pub returns-clause-ok : goal.returns-clause-ok
returns-clause-ok g c =
    let cols = c.self.inside.cols in
    table_pushed c.args.self.now cols c.self.inside.rows.items c.self.view_is c.push.new.self.items c.in_ok-more.more
    (slice_index c.args.numbers.now) c.in_ok-push.ensures.items
    (λ j l. ap (λ (xs : List ℕ). get_or xs j 0) (c.in_ok-more.ensures ∙ ap (spread_numbers cols) c.as_slice.ensures)
    ∙ spread-at cols c.in_ok-entries.entries.items j l
    ∙ c.in_ok-entries.ensures.numbers j
    (subst (λ n. j < n) (sym (c.requires.sized ∙ sym (ap (λ t. t.cols) c.self.view_is))) l))

pub returns-clause-numbers : goal.returns-clause-numbers
returns-clause-numbers g c = λ numbers.
    numbers_below-row_pushed (g.F.Field.size c.args.f.now) _ _ (slice_index c.args.numbers.now) numbers
    (λ j l. c.requires.values j (subst (λ n. j < n) (sym c.requires.sized) l)) (returns-clause-ok g c)

pub invariant_of-self-2 : goal.invariant_of-self-2
invariant_of-self-2 g c =
    let few : length c.push.new.self.items < 4294967296 = search rules in (
      few,
      c.self.invariant.1,
      subst (HaveLength c.self.inside.cols) (sym c.in_ok-push.ensures.items)
          (pushed_lengths c.self.inside.cols c.self.inside.rows.items c.in_ok-more.more c.self.invariant.2
          (ap length c.in_ok-more.ensures ∙ spread-length c.self.inside.cols c.as_slice.result.now)),
    )
