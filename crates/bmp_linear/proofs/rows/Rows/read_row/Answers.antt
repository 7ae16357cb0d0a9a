use Rattle.std.proofs.Common.{◌≡◌, ◌<◌, ◌∙◌, length, rules, sym, subst}
use Rattle.bmp_linear.specs.SparseVectors.{FitsBelow}
use Rattle.bmp_linear.proofs.FaultLemmas.{on_ok}
use Rattle.bmp_linear.proofs.RowVectorLemmas.{IsRead, row_vector_read}
use Rattle.bmp_linear.proofs.rows.Rows.read_row.Goals as goal

pub returns : goal.returns
returns g c =
    let p = g.F.Field.size c.args.f.now in
    let a = g.Self.Rows.matrix c.args.self.now in
    let one = g.F.Field.num c.args.f.now c.one.result in
    let v = c.set_numbers.new.self in
    let sized : length c.clear.new.row ≡ (g.Self.Rows.matrix c.args.self.now).cols = search rules in
    let summed : length c.add_row_to.new.sums ≡ (g.Self.Rows.matrix c.args.self.now).cols =
    c.add_row_to.auto.sums ∙ sized in
    on_ok c.set_numbers.result _ _
    (λ same.
    let read : IsRead p a c.args.i one c.clear.new.row c.add_row_to.new.sums v = record {
      below = c.requires.numbers;
      row = c.requires.row;
      is_one = c.one.ensures.number;
      are_zero = λ j l. c.clear.ensures j (subst (λ n. j < n) (sym sized) l);
      added = c.add_row_to.ensures;
      sparse = c.set_numbers.ensures.sparse;
      fits = subst (λ n. FitsBelow c.set_numbers.new.self n) summed c.set_numbers.ensures.fits;
      same = λ j l. same j (subst (λ n. j < n) (sym summed) l);
    } in
    row_vector_read read)
    c.set_numbers.ensures.numbers
