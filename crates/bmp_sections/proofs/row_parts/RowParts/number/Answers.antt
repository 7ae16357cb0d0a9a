use Rattle.std.proofs.Common.{◌∙◌, ◌*◌, ◌-◌, ◌%◌, ap, sym, arith}
use Rattle.bmp_linear.specs.SparseVectors.{number_at}
use Rattle.bmp_sections.proofs.NegatedLemmas.{number_small, minus_is}
use Rattle.bmp_sections.proofs.RowPartLemmas.{part_last}
use Rattle.bmp_sections.proofs.row_parts.RowParts.number.Goals as goal

pub overflow_sub-result : goal.overflow_sub-result
overflow_sub-result c =
    let small = number_small c.args.self.now.upper.now c.args.self.now.prime (c.args.column - c.args.self.now.high)
    c.number_of-number.result c.requires.below
    (c.number_of-number.ensures ∙ ap (number_at c.args.self.now.upper.now) c.from.ensures) c.if-number-eq0.false in
    omega (arith, small)

pub returns-else-number-eq0 : goal.returns-else-number-eq0
returns-else-number-eq0 c =
    let p = c.args.self.now.prime in
    let row = c.args.self.now in
    let small = number_small row.upper.now p (c.args.column - row.high) c.number_of-number.result c.requires.below
    (c.number_of-number.ensures ∙ ap (number_at c.args.self.now.upper.now) c.from.ensures) c.if-number-eq0.false in
    minus_is p c.number_of-number.result small c.if-number-eq0.false
    ∙ ap (λ z. ((p - 1) * z) % p) (c.number_of-number.ensures ∙ ap (number_at row.upper.now) c.from.ensures)
    ∙ sym (part_last p row.lower.now row.upper.now row.low row.high c.args.column c.if-column-self.true)
