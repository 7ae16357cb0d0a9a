use Rattle.std.proofs.Common.{◌<◌, ◌∙◌, sym, ap, subst, arith, below_more}
use Rattle.bmp_linear.specs.SparseVectors.{ValuesBelow}
use Rattle.bmp_graph.specs.Graph.{Graph, lower as lower_end, upper as upper_end}
use Rattle.bmp_sheaf.specs.Numbers.{lower_matrix, upper_matrix}
use Rattle.bmp_sheaf.specs.States.{sheaf_of}
use Rattle.bmp_sections.proofs.EquationParts.{table_row}
use Rattle.bmp_levels.specs.Lists.{first_members}
use Rattle.bmp_levels.specs.Runs.{run_at, list_of}
use Rattle.bmp_levels.proofs.AgreementLemmas.{AgreesInRow, row_agrees}
use Rattle.bmp_levels.proofs.members.Members.agree_on.Goals as goal

pub rows_agree-requires-clause-lower : goal.rows_agree-requires-clause-lower
rows_agree-requires-clause-lower g c =
    let s = c.args.sheaf.now in
    let lower = c.lower_rows-lower.ensures in
    let inside = subst (λ n. c.loop-i.i < n) (c.rows-i-end.ensures ∙ lower.matrix.rows) c.loop-i-test.true in
    let prime = c.prime-p.ensures ∙ ap (λ (H : Graph). H.prime) c.graph-graph.ensures.graph in
    subst (λ p. ValuesBelow c.row.result.now p) (sym prime)
    (table_row s.graph.prime _ (lower_matrix s.graph (sheaf_of s) c.args.d c.args.e) c.loop-i.i c.row.result.now
    lower.matrix lower.numbers inside c.row.ensures.entries c.row.ensures.sparse c.row.ensures.fits).below

pub rows_agree-requires-clause-upper : goal.rows_agree-requires-clause-upper
rows_agree-requires-clause-upper g c =
    let s = c.args.sheaf.now in
    let upper = c.upper_rows-upper.ensures in
    let row = c.row-in-loop-i in
    let inside = subst (λ n. c.loop-i.i < n) (c.rows-i-end.ensures ∙ c.lower_rows-lower.ensures.matrix.rows)
    c.loop-i-test.true in
    let prime = c.prime-p.ensures ∙ ap (λ (H : Graph). H.prime) c.graph-graph.ensures.graph in
    subst (λ p. ValuesBelow c.row-in-loop-i.result.now p) (sym prime)
    (table_row s.graph.prime _ (upper_matrix s.graph (sheaf_of s) c.args.d c.args.e) c.loop-i.i row.result.now
    upper.matrix upper.numbers inside row.ensures.entries row.ensures.sparse row.ensures.fits).below

pub loop-i-preserved : goal.loop-i-preserved
loop-i-preserved g c =
    let s = c.args.sheaf.now in
    let lower = c.lower_rows-lower.ensures in
    let upper = c.upper_rows-upper.ensures in
    let row = c.row-in-loop-i in
    let inside = subst (λ n. c.loop-i.i < n) (c.rows-i-end.ensures ∙ lower.matrix.rows) c.loop-i-test.true in
    let same = c.graph-graph.ensures.graph in
    let f = c.args.self.now.family.now in
    let n = c.args.self.now.count in
    let low = c.run-low.ensures
    ∙ ap (run_at f) (c.edge-edge.ensures.lower ∙ ap (λ (H : Graph). lower_end H c.args.e) same) in
    let high = c.run-high.ensures
    ∙ ap (run_at f) (c.edge-edge.ensures.upper ∙ ap (λ (H : Graph). upper_end H c.args.e) same) in
    let prime = c.prime-p.ensures ∙ ap (λ (H : Graph). H.prime) same in
    record {
      agree = below_more (AgreesInRow s.graph (sheaf_of s) c.args.d c.args.e (first_members n (list_of f))) c.loop-i.i
          c.loop-i.invariant.agree
          (row_agrees s.graph c.graph-graph.ensures.state.over (sheaf_of s) c.args.d c.args.e c.loop-i.i
          c.requires.edge f n low high prime c.row.result.now row.result.now inside
          (table_row s.graph.prime _ (lower_matrix s.graph (sheaf_of s) c.args.d c.args.e) c.loop-i.i c.row.result.now
          lower.matrix lower.numbers inside c.row.ensures.entries c.row.ensures.sparse c.row.ensures.fits)
          (table_row s.graph.prime _ (upper_matrix s.graph (sheaf_of s) c.args.d c.args.e) c.loop-i.i row.result.now
          upper.matrix upper.numbers inside row.ensures.entries row.ensures.sparse row.ensures.fits)
          (λ j member. c.rows_agree.ensures.agree c.if-not-rows_agree.false j
          (omega (arith, member, c.requires.sums, c.loop-i.invariant.sums))));
      sums = omega (arith, c.rows_agree.ensures.sums, c.loop-i.invariant.sums);
    }

pub returns-clause-agree : goal.returns-clause-agree
returns-clause-agree g c = λ is i j inside.
    c.loop-i.invariant.agree i
    (omega (arith, inside, c.loop-i-test.false, c.rows-i-end.ensures, c.lower_rows-lower.ensures.matrix.rows)) j
