use Rattle.std.proofs.Common.{◌≡◌, ◌+◌, ◌∙◌, length}
use Rattle.bmp_elim.proofs.JoinedLemmas.{joined_column_made}
use Rattle.bmp_elim.proofs.extensions.joined_column.Goals as goal

pub returns : goal.returns
returns g c =
    let all : length c.write_column-2.new.into ≡ (g.A.Rows.matrix c.args.span.now).rows
    + (g.A.Rows.matrix c.args.vectors.now).rows = c.write_column-2.auto.into ∙ c.write_column.auto.into
    ∙ c.requires.room in
    joined_column_made (g.F.Field.size c.args.f.now) (g.A.Rows.matrix c.args.span.now)
    (g.A.Rows.matrix c.args.vectors.now) c.args.column c.rows.result c.write_column.new.into
    c.write_column-2.new.into c.in_ok-of_numbers.field-0 c.requires.span_numbers c.requires.numbers
    c.requires.span_column c.requires.column c.rows.ensures
    c.write_column.ensures.written c.write_column-2.ensures.before c.write_column-2.ensures.written all
    c.in_ok-of_numbers.ensures.sparse c.in_ok-of_numbers.ensures.fits c.in_ok-of_numbers.ensures.numbers
