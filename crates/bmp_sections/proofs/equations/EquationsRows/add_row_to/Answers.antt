use Rattle.std.proofs.Common.{rules}
use Rattle.bmp_sheaf.specs.States.{sheaf_of}
use Rattle.bmp_sections.specs.Numbers.{equation_matrix}
use Rattle.bmp_sections.proofs.RowPartLemmas.{lower_values, taken_values, upper_sums, row_added}
use Rattle.bmp_sections.proofs.equations.EquationsRows.add_row_to.Goals as goal

pub add_entries-requires-clause-values : goal.add_entries-requires-clause-values
add_entries-requires-clause-values g c =
    let s = c.args.self.now.sheaf.now in
    let row = c.parts-row.result in
    lower_values row.prime (equation_matrix s.graph (sheaf_of s) c.args.self.now.vertex c.args.self.now.degree) c.args.i
    row.lower.now row.upper.now row.low row.high c.parts-row.ensures
    (g.F.Field.size c.args.f.now) c.requires.numbers c.requires.row

pub add_negated-requires-clause-negated : goal.add_negated-requires-clause-negated
add_negated-requires-clause-negated g c =
    let s = c.args.self.now.sheaf.now in
    let row = c.parts-row.result in
    taken_values row.prime (equation_matrix s.graph (sheaf_of s) c.args.self.now.vertex c.args.self.now.degree) c.args.i
    row.lower.now row.upper.now row.low row.high c.parts-row.ensures
    (g.F.Field.size c.args.f.now) c.requires.numbers c.requires.row

pub add_negated-requires-clause-sums : goal.add_negated-requires-clause-sums
add_negated-requires-clause-sums g c =
    let s = c.args.self.now.sheaf.now in
    let row = c.parts-row.result in
    upper_sums row.prime (equation_matrix s.graph (sheaf_of s) c.args.self.now.vertex c.args.self.now.degree) c.args.i
    row.lower.now row.upper.now row.low row.high c.parts-row.ensures
    (g.F.Field.size c.args.f.now) (g.F.Field.num c.args.f.now c.args.c) c.args.sums.now c.requires.sums
    c.add_entries.new.sums (search rules)

pub returns : goal.returns
returns g c =
    let s = c.args.self.now.sheaf.now in
    let row = c.parts-row.result in
    row_added row.prime (equation_matrix s.graph (sheaf_of s) c.args.self.now.vertex c.args.self.now.degree) c.args.i
    row.lower.now row.upper.now row.low row.high c.parts-row.ensures
    (g.F.Field.size c.args.f.now) (g.F.Field.num c.args.f.now c.args.c) c.args.sums.now c.requires.sums
    c.add_entries.new.sums (search rules)
    c.add_negated.new.sums (search rules) c.add_entries.ensures c.add_negated.ensures
