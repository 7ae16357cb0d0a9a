use Rattle.std.proofs.Common.{◌<◌, ◌∙◌, ℕ, List, set, length, slice_index, length-set, ap, sym, subst, rules, arith}
use Rattle.std.specs.Vec.{with_item}
use Rattle.std.proofs.lemmas.List.{with_items_is, places}
use Rattle.bmp_linear.specs.NumberRows.{HoldsRows, HaveLength, AreRowsSummedBelow}
use Rattle.bmp_linear.proofs.FaultLemmas.{on_ok}
use Rattle.bmp_linear.proofs.MultipleLemmas.{multiples-below}
use Rattle.bmp_linear.proofs.NumberRowLemmas.{row_is, within, seen_below, holds_rows, zero_out, table_summed, table_back}
use Rattle.bmp_linear.proofs.mixed.MixedRowsRowSpace.add_to_rows.Goals as goal

pub add_to_each-added-requires-clause-rows : goal.add_to_each-added-requires-clause-rows
add_to_each-added-requires-clause-rows g c =
    let p = g.F.Field.size c.args.f.now in
    let two = g.met.F.Field.laws.at_least_two c.args.f.now in
    let some : 0 < g.F.Field.size c.args.f.now = omega (arith, two) in
    let cols = c.self.inside.cols in
    let rows = c.self.inside.rows.items in
    let below = within c.args.self.now cols rows c.self.view_is c.args.from c.requires.from in
    let pivot = c.replace-chosen.ensures.value
    ∙ row_is rows c.args.from c.index_mut.result.now below c.index_mut.ensures.value in
    subst (λ n. HoldsRows p n c.as_mut_slice-rows.result.now)
    (sym (ap length pivot ∙ c.self.invariant.2 c.args.from below))
    (subst (HoldsRows p cols) (sym c.as_mut_slice-rows.ensures.value)
    (zero_out p cols rows c.args.from c.replace-chosen.new.dest some below
    (c.replace-chosen.ensures.after ∙ c.zero-zero.ensures)
    (holds_rows p cols rows c.self.invariant.2
    (seen_below c.args.self.now cols rows c.self.view_is p c.requires.numbers))))

pub returns-clause-ok : goal.returns-clause-ok
returns-clause-ok g c =
    let cols = c.self.inside.cols in
    let rows = c.self.inside.rows.items in
    let below = within c.args.self.now cols rows c.self.view_is c.args.from c.requires.from in
    let pivot = c.replace-chosen.ensures.value
    ∙ row_is rows c.args.from c.index_mut.result.now below c.index_mut.ensures.value in
    let p = g.F.Field.size c.args.f.now in
    let factor = slice_index c.args.factors.now in
    let mid = c.add_to_each-added.new.rows in
    let value = c.as_mut_slice-rows.ensures.value in
    on_ok c.add_to_each-added.result _ _
    (λ summed. table_summed c.args.self.now cols rows c.self.view_is c.args.from c.replace-chosen.new.dest
    c.replace-chosen.result below pivot c.self.invariant.2 mid _
    (with_items_is (with_item c.self.inside.rows c.args.from c.replace-chosen.new.dest) mid (search (rules, places)))
    (c.add_to_each-added.ensures.count ∙ ap length value) p factor
    (subst (λ xs. AreRowsSummedBelow (length xs) p c.args.from factor (slice_index c.replace-chosen.result) xs mid)
    value
    summed))
    c.add_to_each-added.ensures.ok

pub returns-clause-numbers : goal.returns-clause-numbers
returns-clause-numbers g c =
    let two = g.met.F.Field.laws.at_least_two c.args.f.now in
    on_ok c.add_to_each-added.result _ _
    (λ added. multiples-below _ (g.F.Field.size c.args.f.now) _ _ c.args.from (slice_index c.args.factors.now) added
    (omega (arith, two)) c.requires.numbers)
    (returns-clause-ok g c)

pub invariant_of-self : goal.invariant_of-self
invariant_of-self g c =
    let cols = c.self.inside.cols in
    let rows = c.self.inside.rows.items in
    let below = within c.args.self.now cols rows c.self.view_is c.args.from c.requires.from in
    let pivot = c.replace-chosen.ensures.value
    ∙ row_is rows c.args.from c.index_mut.result.now below c.index_mut.ensures.value in
    let mid = c.add_to_each-added.new.rows in
    let same = with_items_is (with_item c.self.inside.rows c.args.from c.replace-chosen.new.dest) mid
    (search (rules, places)) in
    subst (λ (xs : List (List ℕ)). (length (set xs c.args.from c.replace-chosen.result) < 4294967296) ×
    (cols < 4294967296)
    × HaveLength cols (set xs c.args.from c.replace-chosen.result)) (sym same)
    (table_back c.args.self.now cols rows c.self.view_is c.args.from c.replace-chosen.new.dest c.replace-chosen.result
    below
    pivot c.self.invariant.2 mid
    (c.add_to_each-added.ensures.count ∙ ap length c.as_mut_slice-rows.ensures.value
    ∙ length-set rows c.args.from c.replace-chosen.new.dest)
    (λ i l. c.add_to_each-added.ensures.sized i l ∙ ap length pivot ∙ c.self.invariant.2 c.args.from below)
    c.self.invariant.0 c.self.invariant.1)
