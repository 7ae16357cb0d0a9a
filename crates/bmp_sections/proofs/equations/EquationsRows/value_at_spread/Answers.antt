use Rattle.std.proofs.Common.{arith}
use Rattle.bmp_sheaf.specs.States.{sheaf_of}
use Rattle.bmp_sections.specs.Numbers.{equation_matrix}
use Rattle.bmp_sections.proofs.RowPartLemmas.{lower_values, taken_values, first_below, last_below, value_of_parts}
use Rattle.bmp_sections.proofs.equations.EquationsRows.value_at_spread.Goals as goal

pub value_of-low-requires-clause-values : goal.value_of-low-requires-clause-values
value_of-low-requires-clause-values g c =
    let s = c.args.self.now.sheaf.now in
    let row = c.parts-row.result in
    lower_values row.prime (equation_matrix s.graph (sheaf_of s) c.args.self.now.vertex c.args.self.now.degree) c.args.i
    row.lower.now row.upper.now row.low row.high c.parts-row.ensures
    (g.F.Field.size c.args.f.now) c.requires.numbers c.requires.row

pub value_of-low-requires-clause-numbers : goal.value_of-low-requires-clause-numbers
value_of-low-requires-clause-numbers g c =
    let s = c.args.self.now.sheaf.now in
    let row = c.parts-row.result in
    let two = g.met.F.Field.laws.at_least_two c.args.f.now in
    first_below row.prime (equation_matrix s.graph (sheaf_of s) c.args.self.now.vertex c.args.self.now.degree) c.args.i
    row.lower.now row.upper.now row.low row.high c.parts-row.ensures
    c.args.vector.now c.args.spread.now c.requires.spread (g.F.Field.size c.args.f.now) (omega (arith, two))
    c.requires.values

pub negated_value-high-requires-clause-negated : goal.negated_value-high-requires-clause-negated
negated_value-high-requires-clause-negated g c =
    let s = c.args.self.now.sheaf.now in
    let row = c.parts-row.result in
    taken_values row.prime (equation_matrix s.graph (sheaf_of s) c.args.self.now.vertex c.args.self.now.degree) c.args.i
    row.lower.now row.upper.now row.low row.high c.parts-row.ensures
    (g.F.Field.size c.args.f.now) c.requires.numbers c.requires.row

pub negated_value-high-requires-clause-numbers : goal.negated_value-high-requires-clause-numbers
negated_value-high-requires-clause-numbers g c =
    let s = c.args.self.now.sheaf.now in
    let row = c.parts-row.result in
    let two = g.met.F.Field.laws.at_least_two c.args.f.now in
    last_below row.prime (equation_matrix s.graph (sheaf_of s) c.args.self.now.vertex c.args.self.now.degree) c.args.i
    row.lower.now row.upper.now row.low row.high c.parts-row.ensures
    c.args.vector.now c.args.spread.now c.requires.spread (g.F.Field.size c.args.f.now) (omega (arith, two))
    c.requires.values

pub returns-clause-number : goal.returns-clause-number
returns-clause-number g c =
    let s = c.args.self.now.sheaf.now in
    let row = c.parts-row.result in
    value_of_parts row.prime (equation_matrix s.graph (sheaf_of s) c.args.self.now.vertex c.args.self.now.degree)
    c.args.i row.lower.now row.upper.now row.low row.high c.parts-row.ensures
    c.args.vector.now c.args.spread.now c.requires.spread (g.F.Field.size c.args.f.now) _ _ _
    c.value_of-low.ensures.number c.negated_value-high.ensures.number c.add.ensures.number
