use Rattle.std.proofs.Common.{◌<◌, ◌∙◌, [], set, length, length-set, ap, sym, subst, arith}
use Rattle.bmp_linear.proofs.FaultLemmas.{on_ok, on_err}
use Rattle.bmp_linear.proofs.KeptRowLemmas.{spread-length}
use Rattle.bmp_linear.proofs.RowChangeLemmas.{numbers_below-added}
use Rattle.bmp_linear.proofs.NumberRowLemmas.{row_is, within, table_sum, table_kept, table_back, out_lengths}
use Rattle.bmp_linear.proofs.mixed.MixedRowsRowSpace.add_row.Goals as goal

pub returns-clause-ok : goal.returns-clause-ok
returns-clause-ok g c =
    let cols = c.self.inside.cols in
    let rows = c.self.inside.rows.items in
    let below = within c.args.self.now cols rows c.self.view_is c.args.from c.requires.from in
    let second = within c.args.self.now cols rows c.self.view_is c.args.into c.requires.into in
    let pivot = c.replace-row.ensures.value
    ∙ row_is rows c.args.from c.index_mut.result.now below c.index_mut.ensures.value in
    on_ok c.add_to_row-added.result _ _
    (table_sum c.args.self.now cols rows c.self.view_is c.args.from c.replace-row.new.dest c.replace-row.result below
    pivot c.self.invariant.2 c.args.into c.index_mut-2.result.now c.add_to_row-added.new.row second c.requires.apart
    (row_is _ c.args.into c.index_mut-2.result.now
    (subst (λ n. c.args.into < n) (sym (length-set rows c.args.from c.replace-row.new.dest)) second)
    c.index_mut-2.ensures.value)
    (g.F.Field.size c.args.f.now) (g.F.Field.num c.args.f.now c.args.c))
    c.add_to_row-added.ensures.ok

pub returns-clause-err : goal.returns-clause-err
returns-clause-err g c =
    let cols = c.self.inside.cols in
    let rows = c.self.inside.rows.items in
    let below = within c.args.self.now cols rows c.self.view_is c.args.from c.requires.from in
    let second = within c.args.self.now cols rows c.self.view_is c.args.into c.requires.into in
    let pivot = c.replace-row.ensures.value
    ∙ row_is rows c.args.from c.index_mut.result.now below c.index_mut.ensures.value in
    on_err c.add_to_row-added.result _ _
    (table_kept c.args.self.now cols rows c.self.view_is c.args.from c.replace-row.new.dest c.replace-row.result below
    pivot c.self.invariant.2 c.args.into c.index_mut-2.result.now c.add_to_row-added.new.row second
    (row_is _ c.args.into c.index_mut-2.result.now
    (subst (λ n. c.args.into < n) (sym (length-set rows c.args.from c.replace-row.new.dest)) second)
    c.index_mut-2.ensures.value))
    c.add_to_row-added.ensures.err

pub returns-clause-numbers : goal.returns-clause-numbers
returns-clause-numbers g c =
    let two = g.met.F.Field.laws.at_least_two c.args.f.now in
    let some : 0 < g.F.Field.size c.args.f.now = omega (arith, two) in
    on_ok c.add_to_row-added.result _ _
    (numbers_below-added (g.F.Field.size c.args.f.now) _ _ c.args.into c.args.from _ some c.requires.numbers)
    (returns-clause-ok g c)

pub invariant_of-self : goal.invariant_of-self
invariant_of-self g c =
    let cols = c.self.inside.cols in
    let rows = c.self.inside.rows.items in
    let z = c.replace-row.new.dest in
    let below = within c.args.self.now cols rows c.self.view_is c.args.from c.requires.from in
    let second = within c.args.self.now cols rows c.self.view_is c.args.into c.requires.into in
    let pivot = c.replace-row.ensures.value
    ∙ row_is rows c.args.from c.index_mut.result.now below c.index_mut.ensures.value in
    let inside = subst (λ n. c.args.into < n) (sym (length-set rows c.args.from z)) second in
    table_back c.args.self.now cols rows c.self.view_is c.args.from z c.replace-row.result below pivot
    c.self.invariant.2 (set (set rows c.args.from z) c.args.into c.add_to_row-added.new.row)
    (length-set (set rows c.args.from z) c.args.into c.add_to_row-added.new.row ∙ length-set rows c.args.from z)
    (out_lengths c.args.self.now cols rows c.self.view_is c.args.from z c.replace-row.result below pivot
    c.self.invariant.2 c.args.into c.index_mut-2.result.now c.add_to_row-added.new.row second
    (ap length (c.replace-row.ensures.after ∙ c.zero-zero.ensures) ∙ spread-length cols [])
    (row_is _ c.args.into c.index_mut-2.result.now inside c.index_mut-2.ensures.value)
    c.add_to_row-added.ensures.sized)
    c.self.invariant.0 c.self.invariant.1
