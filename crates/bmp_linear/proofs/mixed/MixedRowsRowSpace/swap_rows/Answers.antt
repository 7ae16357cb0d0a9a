use Rattle.std.proofs.Common.{◌<◌, ◌∙◌, length, ap, sym, subst}
use Rattle.std.proofs.lemmas.List.Edits.{length-swap}
use Rattle.bmp_linear.proofs.RowChangeLemmas.{numbers_below-exchanged}
use Rattle.bmp_linear.proofs.NumberRowLemmas.{within, table_swapped, swapped_lengths}
use Rattle.bmp_linear.proofs.mixed.MixedRowsRowSpace.swap_rows.Goals as goal

pub invariant_of-self : goal.invariant_of-self
invariant_of-self g c =
    let cols = c.self.inside.cols in
    let rows = c.self.inside.rows.items in
    let count = ap length c.swap.ensures.items ∙ length-swap rows c.args.i c.args.j in (
      subst (λ n. n < 4294967296) (sym count) c.self.invariant.0,
      c.self.invariant.1,
      swapped_lengths cols rows c.swap.new.self.items c.args.i c.args.j
          (within c.args.self.now cols rows c.self.view_is c.args.i c.requires.first)
          (within c.args.self.now cols rows c.self.view_is c.args.j c.requires.second) count c.swap.ensures.by_index
          c.self.invariant.2,
    )

pub returns-clause-exchanged : goal.returns-clause-exchanged
returns-clause-exchanged g c =
    table_swapped c.args.self.now c.self.inside.cols c.self.inside.rows.items c.self.view_is c.swap.new.self.items
    c.args.i c.args.j (ap length c.swap.ensures.items ∙ length-swap c.self.inside.rows.items c.args.i c.args.j)
    c.swap.ensures.by_index

pub returns-clause-numbers : goal.returns-clause-numbers
returns-clause-numbers g c = λ p numbers.
    numbers_below-exchanged p _ _ c.args.i c.args.j c.requires.first c.requires.second numbers
    (returns-clause-exchanged g c)
