use Rattle.std.proofs.Common.{◌≡◌, ◌<◌, ◌≤◌, ◌∙◌, ℕ, arith, length, sym}
use Rattle.bmp_roots.specs.RootSystems.{matrix_of}
use Rattle.bmp_interval.specs.IntervalViews.{system_of, vertices_of}
use Rattle.bmp_kl.proofs.BarStepLemmas.{len, count_is, length_at, level_is, len_few, letter_below, matched, lengths_rise, bar_narrow, bar_small, step_is, start_is}
use Rattle.bmp_kl.proofs.rows.Rows.+bar.Goals as goal

at_most : (a b m : ℕ) → a ≡ b → b ≤ m → a ≤ m
at_most a b m e l = omega arith

pub step-requires-clause-level : goal.step-requires-clause-level
step-requires-clause-level t c =
    at_most _ _ _ (level_is c.requires.steps c.args.y _ c.requires.vertex c.index.ensures)
    (len_few c.requires.steps c.args.y c.requires.vertex)

pub step-requires-clause-matched : goal.step-requires-clause-matched
step-requires-clause-matched t c =
    matched c.requires.steps c.in-Some.descent.letter
    (letter_below c.requires.steps c.args.y c.requires.vertex c.in-Some.descent c.in-Some.ensures.some)

pub step-requires-clause-rising : goal.step-requires-clause-rising
step-requires-clause-rising t c = lengths_rise c.requires.steps

pub step-requires-clause-narrow : goal.step-requires-clause-narrow
step-requires-clause-narrow t c v j inside k far =
    let within : v < length (vertices_of c.args.interval.now) = omega (arith, inside, count_is c.requires.steps) in
    c.bar.ensures.bar v j within k
    ∙ bar_narrow c.requires.steps c.args.y c.requires.vertex c.in-Some.descent c.in-Some.ensures.some v j within
    (omega (
      arith,
      far,
      level_is c.requires.steps c.args.y _ c.requires.vertex c.index.ensures,
      length_at c.requires.steps v within,
    ))

pub step-requires-clause-small : goal.step-requires-clause-small
step-requires-clause-small t c v j inside k =
    let within : v < length (vertices_of c.args.interval.now) = omega (arith, inside, count_is c.requires.steps) in
    at_most _ _ _ (c.bar.ensures.bar v j within k) (bar_small c.requires.steps v c.in-Some.descent.below j
    (omega (arith, c.in-Some.ensures.some.lower, c.requires.vertex)))

pub returns-in-None-clause-bar : goal.returns-in-None-clause-bar
returns-in-None-clause-bar t c x j inside k =
    c.start.ensures.one x j (omega (arith, inside, c.requires.rows.as_many)) k
    ∙ start_is c.requires.steps c.args.y c.requires.vertex c.in-None.ensures.none x j inside

pub returns-in-Some-clause-bar : goal.returns-in-Some-clause-bar
returns-in-Some-clause-bar t c x j inside k =
    c.step.ensures.stepped x j (omega (arith, inside, count_is c.requires.steps)) k
    ∙ step_is c.requires.steps c.args.y c.requires.vertex c.in-Some.descent c.in-Some.ensures.some _ c.bar.ensures.bar x
    j inside k
