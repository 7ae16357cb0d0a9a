use Rattle.std.proofs.Common.{◌<◌, ◌∙◌, List, ℕ, length, get_or, ap, sym, subst, rules, arith}
use Rattle.bmp_linear.specs.KeptRows.{spread_numbers}
use Rattle.bmp_linear.specs.NumberRows.{HaveLength}
use Rattle.bmp_linear.specs.SparseVectors.{number_at}
use Rattle.bmp_linear.proofs.RowChangeLemmas.{numbers_below-pushed}
use Rattle.bmp_linear.proofs.KeptRowLemmas.{spread-length, spread-at}
use Rattle.bmp_linear.proofs.NumberRowLemmas.{table_pushed, pushed_lengths}
use Rattle.bmp_linear.proofs.mixed.MixedRowsRowSpace.push_row.Goals as goal

pub returns-clause-ok : goal.returns-clause-ok
returns-clause-ok g c =
    let cols = c.self.inside.cols in
    table_pushed c.args.self.now cols c.self.inside.rows.items c.self.view_is c.push.new.self.items c.in_ok-more.more
    (number_at c.args.row.now) c.in_ok-push.ensures.items
    (λ j l. ap (λ (xs : List ℕ). get_or xs j 0)
    (c.in_ok-more.ensures ∙ ap (spread_numbers cols) c.entries.ensures.items)
    ∙ spread-at cols c.args.row.now j l)

pub returns-clause-numbers : goal.returns-clause-numbers
returns-clause-numbers g c = λ numbers.
    let two = g.met.F.Field.laws.at_least_two c.args.f.now in
    let some : 0 < g.F.Field.size c.args.f.now = omega (arith, two) in
    numbers_below-pushed (g.F.Field.size c.args.f.now) _ _ c.args.row.now some numbers c.requires.values
    (returns-clause-ok g c)

pub invariant_of-self-2 : goal.invariant_of-self-2
invariant_of-self-2 g c =
    let few : length c.push.new.self.items < 4294967296 = search rules in (
      few,
      c.self.invariant.1,
      subst (HaveLength c.self.inside.cols) (sym c.in_ok-push.ensures.items)
          (pushed_lengths c.self.inside.cols c.self.inside.rows.items c.in_ok-more.more c.self.invariant.2
          (ap length c.in_ok-more.ensures ∙ spread-length c.self.inside.cols c.entries.result.now)),
    )
