use Rattle.std.proofs.Common.{◌<◌, get_or, subst, sym, rules}
use Rattle.bmp_linear.proofs.RowChangeLemmas.{numbers_below-row_pushed}
use Rattle.bmp_linear.proofs.RowTableLemmas.{numbers_pushed}
use Rattle.bmp_linear.proofs.dense.DenseRowsRowSpace.push_numbers.Goals as goal

pub returns-clause-ok : goal.returns-clause-ok
returns-clause-ok g c =
    numbers_pushed c.args.self.now _ _ _ c.args.numbers.now (search rules) (search rules) (search rules) (search rules)
    (search rules)

pub returns-clause-numbers : goal.returns-clause-numbers
returns-clause-numbers g c = λ numbers.
    numbers_below-row_pushed (g.F.Field.size c.args.f.now) _ _ (λ j. get_or c.args.numbers.now j 0) numbers
    (λ j l. c.requires.values j (subst (λ n. j < n) (sym c.requires.sized) l)) (returns-clause-ok g c)
