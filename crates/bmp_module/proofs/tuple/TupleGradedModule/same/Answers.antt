use Rattle.std.proofs.Common.{rules, arith, ◌∙◌, sym, ◌<◌, ◌≤◌, length, refl, true≢false}
use Rattle.bmp_module.proofs.TupledPlaces.{tuples_part, tuples_same}
use Rattle.bmp_module.proofs.tuple.TupleGradedModule.same.Goals as goal

pub returns-then-not-same : goal.returns-then-not-same
returns-then-not-same g c = (
  (λ t. absurd (true≢false (sym t))),
  (λ agree.
      let inside : c.loop-k.k < length c.args.self.now.parts.items = search rules in
      absurd (true≢false
      (sym (c.same.ensures.1
      (tuples_part g.M.GradedModule.graded (λ m a. g.M.GradedModule.coordinate m c.args.f.now a) c.args.a.now.degree
      c.args.b.now.degree c.args.self.now.parts.items c.args.a.now.parts.items c.args.b.now.parts.items c.loop-k.k
      c.index.result.now c.index-in-loop-k.result.now c.index-in-loop-k-2.result.now c.requires.degree
      c.requires.first c.requires.second c.index.ensures c.index-in-loop-k.ensures c.index-in-loop-k-2.ensures
      inside agree)) ∙ c.if-not-same.true))),
)

pub returns : goal.returns
returns g c =
    let all : length c.args.self.now.parts.items ≤ c.loop-k.k =
    omega (arith, c.len-k-end.ensures, c.loop-k-test.false) in (
      (λ t. tuples_same g.M.GradedModule.graded (λ m a. g.M.GradedModule.coordinate m c.args.f.now a)
          c.args.a.now.degree c.args.b.now.degree c.args.self.now.parts.items c.args.a.now.parts.items
          c.args.b.now.parts.items c.requires.degree c.requires.first.sized c.requires.second.sized
          (λ k j m x y l. c.loop-k.invariant k j m x y (omega (arith, all, l)))),
      (λ agree. refl),
    )
