use Rattle.std.proofs.Common.{◌≡◌, ◌<◌, ◌≤◌, ◌+◌, ◌-◌, ◌*◌, ℕ, arith, ◌∙◌, ap, sym, subst, length}
use Rattle.std.proofs.lemmas.Int.{ints, to_z-of_z}
use mir.Syntax.{w128}
use mir.Val.{SFits, to_z, of_z}
use Rattle.bmp_roots.specs.RootSystems.{matrix_of, positive_roots_of}
use Rattle.bmp_interval.specs.IntervalViews.{system_of, vertices_of}
use Rattle.bmp_kl.specs.IntervalBars.{counts_below}
use Rattle.bmp_kl.specs.BarRows.{row_value}
use Rattle.bmp_kl.specs.PartLists.{IsTermAdded}
use Rattle.bmp_kl.proofs.RowLemmas.{read}
use Rattle.bmp_kl.proofs.PartLemmas.{term_none, term_dead, term_next}
use Rattle.bmp_kl.proofs.BarStepLemmas.{len, count_is, level_is, length_at, len_few, lengths_rise, bar_small, count_at, count_off}
use Rattle.bmp_kl.proofs.parts.add_term.Goals as goal

pub loop-x-init : goal.loop-x-init
loop-x-init c =
    term_none c.args.a _
    (counts_below (matrix_of (system_of c.args.interval.now)) (positive_roots_of (system_of c.args.interval.now))
    (vertices_of c.args.interval.now) c.args.y) c.args.parts.now.items

pub overflow_sub-gap : goal.overflow_sub-gap
overflow_sub-gap c =
    let inside : c.loop-x.x < length (vertices_of c.args.interval.now) = omega (arith, c.requires.vertex) in
    omega (
      arith,
      lengths_rise c.requires.steps c.loop-x.x c.args.y (omega arith)
          (omega (arith, c.requires.vertex, count_is c.requires.steps)),
      read c.args.steps.now.lengths.items c.args.y _ 0 c.index.ensures
          (omega (arith, c.requires.vertex, count_is c.requires.steps)),
      read c.args.steps.now.lengths.items c.loop-x.x _ 0 c.index-in-loop-x.ensures
          (omega (arith, inside, count_is c.requires.steps)),
    )

pub add_row-requires-clause-gap : goal.add_row-requires-clause-gap
add_row-requires-clause-gap c =
    omega (
      arith,
      level_is c.requires.steps c.args.y _ c.requires.vertex c.index.ensures,
      len_few c.requires.steps c.args.y c.requires.vertex,
    )

pub add_row-requires-clause-small : goal.add_row-requires-clause-small
add_row-requires-clause-small c j k =
    at_most _ _ _ (c.requires.bar c.loop-x.x j (omega (arith, c.requires.vertex)) k)
    (bar_small c.requires.steps c.loop-x.x c.args.y j c.requires.vertex)
  where
    at_most : (a b m : ℕ) → a ≡ b → b ≤ m → a ≤ m
    at_most a b m e l = omega arith

pub loop-x-preserved : goal.loop-x-preserved
loop-x-preserved c =
    let inside : c.loop-x.x < length (vertices_of c.args.interval.now) = omega (arith, c.requires.vertex) in
    let upper : c.index.result.now ≡ len c.requires.steps c.args.y =
    level_is c.requires.steps c.args.y _ c.requires.vertex c.index.ensures in
    let lower : c.index-in-loop-x.result.now ≡ len c.requires.steps c.loop-x.x =
    level_is c.requires.steps c.loop-x.x _ inside c.index-in-loop-x.ensures in
    let few : c.index.result.now ≤ 36 = omega (arith, upper, len_few c.requires.steps c.args.y c.requires.vertex) in
    let rises : c.index-in-loop-x.result.now ≤ c.index.result.now =
    omega (
      arith,
      lengths_rise c.requires.steps c.loop-x.x c.args.y (omega arith)
          (omega (arith, c.requires.vertex, count_is c.requires.steps)),
      read c.args.steps.now.lengths.items c.args.y _ 0 c.index.ensures
          (omega (arith, c.requires.vertex, count_is c.requires.steps)),
      read c.args.steps.now.lengths.items c.loop-x.x _ 0 c.index-in-loop-x.ensures
          (omega (arith, inside, count_is c.requires.steps)),
    ) in
    term_next c.args.a c.loop-x.x (c.index.result.now - c.index-in-loop-x.result.now) _
    (counts_below (matrix_of (system_of c.args.interval.now)) (positive_roots_of (system_of c.args.interval.now))
    (vertices_of c.args.interval.now) c.args.y)
    (row_value c.args.rows.now.values.items c.loop-x.x) c.args.parts.now.items c.loop-x.parts.items
    c.add_row.new.parts.items c.loop-x.invariant
    c.add_row.ensures c.requires.exponent (omega (arith, few))
    (λ d j e.
    count_at c.requires.steps c.loop-x.x c.args.y d j inside c.requires.vertex (omega (arith, e, upper, lower, rises))
    ∙ sym (c.requires.bar c.loop-x.x j inside (omega (arith, e, few))))
    (λ d none.
    count_off c.requires.steps c.loop-x.x c.args.y d inside c.requires.vertex
    (λ j e. none j (omega (arith, e, upper, lower, rises))))

pub returns-else-top-ne0 : goal.returns-else-top-ne0
returns-else-top-ne0 c =
    let fits : SFits w128 c.args.top = omega (arith, ints, c.requires.top) in
    term_dead c.args.a c.args.y c.args.top _ c.args.parts.now.items
    (sym (to_z-of_z w128 c.args.top fits) ∙ ap (to_z w128) c.if-top-ne0.false)

pub returns-after-loop-x : goal.returns-after-loop-x
returns-after-loop-x c =
    let fits : SFits w128 c.args.top = omega (arith, ints, c.requires.top) in
    subst (λ t. IsTermAdded c.args.a c.args.y t
    (counts_below (matrix_of (system_of c.args.interval.now)) (positive_roots_of (system_of c.args.interval.now))
    (vertices_of c.args.interval.now) c.args.y) c.args.parts.now.items c.loop-x.parts.items)
    (to_z-of_z w128 c.args.top fits)
    (subst (λ n. IsTermAdded c.args.a n (to_z w128 (of_z w128 c.args.top))
    (counts_below (matrix_of (system_of c.args.interval.now)) (positive_roots_of (system_of c.args.interval.now))
    (vertices_of c.args.interval.now) c.args.y) c.args.parts.now.items c.loop-x.parts.items) (omega arith)
    c.loop-x.invariant)
