use Rattle.std.proofs.Common.{◌-◌, arith, refl}
use Rattle.std.proofs.lemmas.Int.{ints}
use Rattle.bmp_roots.specs.RootSystems.{matrix_of, positive_roots_of}
use Rattle.bmp_weyl.proofs.ExchangeLemmas.{descent_negative, negative_descent}
use Rattle.bmp_weyl.proofs.ElementLemmas.{descent_found, no_descent_found}
use Rattle.bmp_weyl.proofs.CallLemmas.{root_system}
use Rattle.bmp_weyl.proofs.elem.Elem.is_right_descent.Goals as goal

pub returns-then-self-i-lt0 : goal.returns-then-self-i-lt0
returns-then-self-i-lt0 c u h = (
  (λ t. negative_descent (matrix_of c.args.roots.now) (positive_roots_of c.args.roots.now)
      (root_system c.args.roots.now) u h.letters (c.args.k - 1) (omega (arith, c.requires.letter))
      (descent_found (matrix_of c.args.roots.now) u c.args.self.now (c.args.k - 1) c.loop-i.i
      (root_system c.args.roots.now).form h
      (omega (arith, c.requires.letter, c.rank-i-end.ensures.value, c.rank-i-end.ensures.at_most_six))
      (omega (arith, h.rank, c.rank-i-end.ensures.value)) (omega (arith, ints)))),
  (λ t. refl),
)

pub returns : goal.returns
returns c u h = (
  (λ t. cc),
  (λ d. absurd (no_descent_found (matrix_of c.args.roots.now) u c.args.self.now (c.args.k - 1)
      (root_system c.args.roots.now).form h
      (omega (arith, c.requires.letter, c.rank-i-end.ensures.value, c.rank-i-end.ensures.at_most_six))
      (λ i l. c.loop-i.invariant i (omega (arith, h.rank, c.rank-i-end.ensures.value)))
      (descent_negative (matrix_of c.args.roots.now) (positive_roots_of c.args.roots.now) (root_system c.args.roots.now)
      u h.letters (c.args.k - 1) (omega (arith, c.requires.letter)) d))),
)
