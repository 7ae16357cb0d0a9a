use Rattle.std.proofs.Common.{length, ap, ◌∙◌}
use Rattle.std.proofs.lemmas.List.Edits.{length-swap}
use Rattle.bmp_linear.proofs.SparseRowChangeLemmas.{rows_swapped, swapped_sparse}
use Rattle.bmp_linear.proofs.RowChangeLemmas.{numbers_below-exchanged}
use Rattle.bmp_linear.proofs.sparse.SparseRowsRowSpace.swap_rows.Goals as goal

pub invariant_of-self : goal.invariant_of-self
invariant_of-self g c =
    swapped_sparse c.args.self.now c.self.inside.cols c.self.inside.rows.items c.self.view_is c.args.i c.args.j
    c.swap.new.self.items c.requires.first c.requires.second
    (ap length c.swap.ensures.items ∙ length-swap c.self.inside.rows.items c.args.i c.args.j) c.swap.ensures.by_index
    c.self.invariant

pub returns-clause-exchanged : goal.returns-clause-exchanged
returns-clause-exchanged g c =
    rows_swapped c.args.self.now c.self.inside.cols c.self.inside.rows.items c.self.view_is c.args.i c.args.j
    c.swap.new.self.items c.requires.first c.requires.second
    (ap length c.swap.ensures.items ∙ length-swap c.self.inside.rows.items c.args.i c.args.j) c.swap.ensures.by_index

pub returns-clause-numbers : goal.returns-clause-numbers
returns-clause-numbers g c = λ p numbers.
    numbers_below-exchanged p _ _ c.args.i c.args.j c.requires.first c.requires.second numbers
    (returns-clause-exchanged g c)
