use Rattle.std.proofs.Common.{◌≡◌, ◌<◌, ◌≤◌, ◌∙◌, length, subst, arith, rules}
use Rattle.bmp_poly.specs.Labels.{leading_of}
use Rattle.bmp_graph.specs.Graph.{edge_count}
use Rattle.bmp_sheaf.specs.Coordinates.{leading}
use Rattle.bmp_sheaf.specs.LabelTables.{HasTables}
use Rattle.bmp_sheaf.proofs.LabelTableLemmas.{leading_is, tabled_none, tabled_found, tabled_made}
use Rattle.bmp_sheaf.proofs.label_tables.LabelTables.new.Goals as goal
use Rattle.bmp_sheaf.proofs.label_tables.LabelTables.new.Goals.{then-number-len+in_ok-new+in_ok-push, else-number-len}

pub loop-e-init : goal.loop-e-init
loop-e-init g c =
    rw (c.new-tables.ensures.items, c.in_ok-numbers.ensures.items) (tabled_none c.args.graph.now c.args.degree)

pub loop-e-preserved : goal.loop-e-preserved
loop-e-preserved g c =
    let inside : c.loop-e.e < edge_count c.args.graph.now =
    omega (arith, c.loop-e-test.true, c.edges-e-end.ensures.count) in
    let lead : leading_of c.edge.result.now.label ≡ leading c.args.graph.now c.loop-e.e =
    leading_is c.args.graph.now c.loop-e.e c.edge.result.now inside c.edge.ensures.edge in
    let sized : c.len.result ≡ length c.loop-e.tables.items = search rules in
    let first = rw c.deref.ensures.value at c.find-number.ensures.first in
    rw c.in_ok-push-2.ensures.items
    (elim c.if-number-len.branch [
      | then-number-len+in_ok-new+in_ok-push w ↦
          rw (w.tables-is, w.in_ok-push.ensures.items)
          (tabled_made c.args.graph.now c.args.degree c.loop-e.e c.edge.result.now.label c.edge.ensures.prime
          c.edge.ensures.rank lead c.edge.ensures.label c.loop-e.tables.items c.loop-e.numbers.items
          c.find-number.result c.loop-e.invariant
          w.in_ok-new.field-0 (w.if-number-len.true ∙ sized) w.in_ok-new.ensures.label w.in_ok-new.ensures.degrees
          first)
      | else-number-len w ↦
          let within : c.find-number.result ≤ length c.loop-e.tables.items =
          subst (λ xs. c.find-number.result ≤ length xs) c.deref.ensures.value c.find-number.ensures.within in
          let below : c.find-number.result < length c.loop-e.tables.items =
          omega (arith, within, sized, w.if-number-len.false) in
          let found = rw c.deref.ensures.value at c.find-number.ensures.found in
          rw w.tables-is
          (tabled_found c.args.graph.now c.args.degree c.loop-e.e c.edge.result.now.label c.edge.ensures.prime
          c.edge.ensures.rank lead c.edge.ensures.label c.loop-e.tables.items c.loop-e.numbers.items
          c.find-number.result c.loop-e.invariant below found)
    ])

pub returns-clause-different : goal.returns-clause-different
returns-clause-different g c = c.loop-e.invariant.different

pub returns-clause-tables : goal.returns-clause-tables
returns-clause-tables g c =
    let last : c.loop-e.e ≡ edge_count c.args.graph.now =
    omega (arith, c.loop-e.auto.e-end, c.loop-e-test.false, c.edges-e-end.ensures.count) in
    subst (λ n. HasTables c.args.graph.now c.args.degree n c.loop-e.tables.items c.loop-e.numbers.items) last
    c.loop-e.invariant.each
