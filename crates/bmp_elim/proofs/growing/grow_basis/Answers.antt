use Rattle.bmp_linear.specs.SparseVectors.{number_at}
use Rattle.bmp_elim.proofs.GrownLemmas.{pushed_rows, pushed_made}
use Rattle.bmp_elim.proofs.growing.grow_basis.Goals as goal

-- the rows of which that is a basis, and the row
pub returns-clause-some : goal.returns-clause-some
returns-clause-some g c =
    let some = c.requires.some in
    record {
      old = pushed_rows some.old (number_at c.args.row.now);
      grown = c.in_ok-more.ensures.grown some.old (pushed_rows some.old (number_at c.args.row.now)) some.grown
          (pushed_made some.old (number_at c.args.row.now));
    }
