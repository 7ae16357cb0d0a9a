use Rattle.std.proofs.Common.{◌≡◌, ◌<◌, ◌≤◌, ◌∙◌, ℕ, arith, length}
use Rattle.bmp_kl.specs.VertexProducts.{partner}
use Rattle.bmp_kl.proofs.RowLemmas.{fresh, step_next, all_stepped}
use Rattle.bmp_kl.proofs.rows.Rows.step.Goals as goal

at_most : (a b m : ℕ) → a ≡ b → b ≤ m → a ≤ m
at_most a b m e l = omega arith

pub step_at-requires-clause-inside : goal.step_at-requires-clause-inside
step_at-requires-clause-inside c z e =
    (c.requires.matched c.loop-x.x z (omega (arith, c.shorter_than-x-end.ensures.within)) e).inside

pub step_at-requires-clause-here : goal.step_at-requires-clause-here
step_at-requires-clause-here c z j e order far k =
    let inside : c.loop-x.x < length c.args.steps.now.lengths.items =
    omega (arith, c.shorter_than-x-end.ensures.within) in
    (fresh (partner c.args.steps.now.products.items c.args.k) c.args.steps.now.lengths.items
    (length c.args.steps.now.lengths.items) c.loop-x.x
    c.args.self.now.values.items c.loop-x.self.values.items c.requires.matched inside c.loop-x.invariant.0 z e order j
    k).0
    ∙ c.requires.narrow c.loop-x.x j inside k far

pub step_at-requires-clause-there : goal.step_at-requires-clause-there
step_at-requires-clause-there c z j e order far k =
    let inside : c.loop-x.x < length c.args.steps.now.lengths.items =
    omega (arith, c.shorter_than-x-end.ensures.within) in
    (fresh (partner c.args.steps.now.products.items c.args.k) c.args.steps.now.lengths.items
    (length c.args.steps.now.lengths.items) c.loop-x.x
    c.args.self.now.values.items c.loop-x.self.values.items c.requires.matched inside c.loop-x.invariant.0 z e order j
    k).1
    ∙ c.requires.narrow z j (c.requires.matched c.loop-x.x z inside e).inside k
    (omega (arith, far, (c.requires.matched c.loop-x.x z inside e).longer order))

pub step_at-requires-clause-small_here : goal.step_at-requires-clause-small_here
step_at-requires-clause-small_here c z j e order k =
    let inside : c.loop-x.x < length c.args.steps.now.lengths.items =
    omega (arith, c.shorter_than-x-end.ensures.within) in
    at_most _ _ _ (fresh (partner c.args.steps.now.products.items c.args.k) c.args.steps.now.lengths.items
    (length c.args.steps.now.lengths.items) c.loop-x.x
    c.args.self.now.values.items c.loop-x.self.values.items c.requires.matched inside c.loop-x.invariant.0 z e order j
    k).0
    (c.requires.small c.loop-x.x j inside k)

pub step_at-requires-clause-small_there : goal.step_at-requires-clause-small_there
step_at-requires-clause-small_there c z j e order k =
    let inside : c.loop-x.x < length c.args.steps.now.lengths.items =
    omega (arith, c.shorter_than-x-end.ensures.within) in
    at_most _ _ _ (fresh (partner c.args.steps.now.products.items c.args.k) c.args.steps.now.lengths.items
    (length c.args.steps.now.lengths.items) c.loop-x.x
    c.args.self.now.values.items c.loop-x.self.values.items c.requires.matched inside c.loop-x.invariant.0 z e order j
    k).1
    (c.requires.small z j (c.requires.matched c.loop-x.x z inside e).inside k)

pub loop-x-preserved : goal.loop-x-preserved
loop-x-preserved c = (
  step_next (partner c.args.steps.now.products.items c.args.k) c.args.steps.now.lengths.items
      (length c.args.steps.now.lengths.items) c.loop-x.x
      c.args.self.now.values.items c.loop-x.self.values.items c.step_at.new.self.values.items c.requires.matched
      (omega (arith, c.shorter_than-x-end.ensures.within)) c.loop-x.invariant.0 c.step_at.ensures.stepped
      c.step_at.ensures.kept,
  c.step_at.ensures.rows,
)

pub returns-clause-stepped : goal.returns-clause-stepped
returns-clause-stepped c =
    all_stepped (partner c.args.steps.now.products.items c.args.k) (length c.args.steps.now.lengths.items) c.loop-x.x
    c.args.self.now.values.items c.loop-x.self.values.items c.loop-x.invariant.0
    (λ v j l k far.
    c.requires.narrow v j l k
    (omega (
      arith,
      c.requires.rising c.shorter_than-x-end.result v (omega arith) l,
      c.shorter_than-x-end.ensures.behind,
    )))
    (λ v z l e. (c.requires.matched v z l e).inside)
