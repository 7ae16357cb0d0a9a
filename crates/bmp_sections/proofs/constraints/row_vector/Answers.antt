use Rattle.std.proofs.Common.{◌≡◌, ◌∙◌, length, refl, subst}
use Rattle.bmp_linear.specs.SparseVectors.{FitsBelow}
use Rattle.bmp_sections.proofs.StoredRowLemmas.{row_vector_made}
use Rattle.bmp_sections.proofs.constraints.row_vector.Goals as goal

pub returns : goal.returns
returns g c =
    let all : length c.args.numbers.now ≡ (g.A.Rows.matrix c.args.a.now).cols = c.requires.room in
    let sums : length c.add_row_to.new.sums ≡ (g.A.Rows.matrix c.args.a.now).cols =
    c.add_row_to.auto.sums ∙ c.fill.auto.self ∙ all in
    let made =
    row_vector_made (g.F.Field.size c.args.f.now) (g.A.Rows.matrix c.args.a.now) c.args.i
    (g.F.Field.num c.args.f.now c.one.result) c.fill.new.self c.add_row_to.new.sums c.in_ok-of_numbers.field-0
    c.requires.below c.requires.row c.one.ensures.number
    (λ j l. c.fill.ensures.clones j 0 (rw all l) refl) c.add_row_to.ensures c.in_ok-of_numbers.ensures.sparse
    (subst (λ n. FitsBelow c.in_ok-of_numbers.field-0 n) sums c.in_ok-of_numbers.ensures.fits)
    (λ j l. c.in_ok-of_numbers.ensures.numbers j (rw sums l)) in
    record { fits = made.fits; values = made.values; numbers = made.numbers }
