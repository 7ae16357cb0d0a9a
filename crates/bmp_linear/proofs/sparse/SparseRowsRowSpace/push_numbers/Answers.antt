use Rattle.std.proofs.Common.{◌<◌, get_or, refl, subst, sym}
use Rattle.bmp_linear.specs.SparseVectors.{number_at}
use Rattle.bmp_linear.proofs.RowChangeLemmas.{numbers_below-row_pushed}
use Rattle.bmp_linear.proofs.RowTableLemmas.{table_pushed, row_pushed_as}
use Rattle.bmp_linear.proofs.sparse.SparseRowsRowSpace.push_numbers.Goals as goal

pub returns-clause-ok : goal.returns-clause-ok
returns-clause-ok g c =
    row_pushed_as _ _ (number_at c.in_ok-entries.entries.items) (λ j. get_or c.args.numbers.now j 0)
    (λ j l. c.in_ok-entries.ensures.numbers j (subst (λ n. j < n) (sym c.requires.sized) l))
    (table_pushed c.args.self.now c.self.inside.cols c.self.inside.rows.items c.push.new.self.items
    c.in_ok-entries.entries c.in_ok-entries.entries.items c.self.view_is c.in_ok-push.ensures.items refl)

pub returns-clause-numbers : goal.returns-clause-numbers
returns-clause-numbers g c = λ numbers.
    numbers_below-row_pushed (g.F.Field.size c.args.f.now) _ _ (λ j. get_or c.args.numbers.now j 0) numbers
    (λ j l. c.requires.values j (subst (λ n. j < n) (sym c.requires.sized) l)) (returns-clause-ok g c)
