use Rattle.std.proofs.Common.{ℕ, ◌+◌, ◌*◌, ◌∙◌, ap, ap₂}
use Rattle.std.proofs.lemmas.Result.{err_from_is_err_and}
use Rattle.bmp_cert.proofs.PartLemmas.{part_read, part_stop}
use Rattle.bmp_cert.proofs.part.part_of.Goals as goal

pub returns-clause-gives : goal.returns-clause-gives
returns-clause-gives c =
    part_read c.args.version c.args.most c.args.degree c.args.number c.args.lines.now c.vertex_of.new.lines
    c.count_line.new.lines c.vectors_of.new.lines c.in_ok-degrees.degrees c.in_ok-edges.edges
    (c.from.result * c.from-2.result) (c.from-3.result + 1) c.in_ok-lifts.lifts
    c.in_ok-degrees.ensures.gives c.in_ok-edges.ensures.reads
    (ap₂ (λ (m : ℕ) (n : ℕ). m * n) c.from.ensures (c.from-2.ensures ∙ c.len.ensures))
    (ap (λ (d : ℕ). d + 1) c.from-3.ensures) c.in_ok-lifts.ensures.gives c.in_ok-blocks.blocks c.blocks_of.new.lines
    c.in_ok-blocks.ensures.gives

pub returns-in_err-blocks-clause-gives : goal.returns-in_err-blocks-clause-gives
returns-in_err-blocks-clause-gives c =
    let p = err_from_is_err_and c.from_residual-in_err-blocks.result c.from_residual-in_err-blocks.ensures.1 in
    rw (p.1, p.2)
    (part_stop c.args.version c.args.most c.args.degree c.args.number c.args.lines.now c.vertex_of.new.lines
    c.count_line.new.lines c.vectors_of.new.lines c.in_ok-degrees.degrees c.in_ok-edges.edges
    (c.from.result * c.from-2.result) (c.from-3.result + 1) c.in_ok-lifts.lifts
    c.in_ok-degrees.ensures.gives c.in_ok-edges.ensures.reads
    (ap₂ (λ (m : ℕ) (n : ℕ). m * n) c.from.ensures (c.from-2.ensures ∙ c.len.ensures))
    (ap (λ (d : ℕ). d + 1) c.from-3.ensures) c.in_ok-lifts.ensures.gives c.in_err-blocks.field-0.0
    c.in_err-blocks.ensures.gives)
