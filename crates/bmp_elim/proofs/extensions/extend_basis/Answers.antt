use Rattle.bmp_elim.proofs.ExtensionLemmas.{IsReadFrom, chosen_made, duals_read, combinations_read, spans_read}
use Rattle.bmp_elim.proofs.extensions.extend_basis.Goals as goal

pub returns : goal.returns
returns g c =
    let e = c.in_ok-extension.extension in
    let h : IsReadFrom (g.F.Field.size c.args.f.now) (g.A.Rows.matrix c.args.span.now)
    (g.A.Rows.matrix c.args.vectors.now) (g.A.Rows.matrix c.in_ok-columns.columns) e.chosen e.duals e.sums =
    record {
      wide = c.requires.width;
      joined = c.in_ok-columns.ensures.joined;
      choice = rw (← c.rows.ensures) c.in_ok-extension.ensures.chosen;
      forms = rw (← c.rows.ensures) c.in_ok-extension.ensures.duals;
      written = rw (← c.rows.ensures) c.in_ok-extension.ensures.sums;
    } in
    record { chosen = chosen_made h; duals = duals_read h; spans = spans_read h; combinations = combinations_read h }
