use Rattle.std.proofs.Common.{◌≡◌, ◌<◌, ◌-◌, ◌+◌, arith, subst, inl, inr}
use Rattle.std.proofs.lemmas.Bool.{cases_eq}
use Rattle.std.proofs.lemmas.List.Elements.{All-nil}
use Rattle.bmp_roots.specs.RootSystems.{matrix_of, positive_roots_of}
use Rattle.bmp_weyl.specs.Words.{IsRightDescent}
use Rattle.bmp_weyl.proofs.DescentLemmas.{no_descent}
use Rattle.bmp_weyl.proofs.ElementLemmas.{product_alike}
use Rattle.bmp_weyl.proofs.CallLemmas.{root_system, not_both}
use Rattle.bmp_weyl.proofs.elem.Elem.least_right_descent.Goals as goal

pub returns-then-is_right_descent-clause-least : goal.returns-then-is_right_descent-clause-least
returns-then-is_right_descent-clause-least c u h = record {
  descent = (c.is_right_descent.ensures u h).0 c.if-is_right_descent.true;
  least = λ j l d. c.loop-k.invariant u h j (omega arith) d;
}

pub loop-k-preserved : goal.loop-k-preserved
loop-k-preserved c u h j l d =
    elim (cases_eq (j + 1) c.loop-k.k) [
      | inl same ↦
          let here : j ≡ c.loop-k.k - 1 = omega arith in
          absurd (not_both c.is_right_descent.result c.if-is_right_descent.false
          ((c.is_right_descent.ensures u h).1
          (subst (λ i. IsRightDescent (matrix_of c.args.roots.now) (positive_roots_of c.args.roots.now) u i) here
          d)))
      | inr apart ↦ c.loop-k.invariant u h j (omega arith) d
    ]

pub returns-clause-none : goal.returns-clause-none
returns-clause-none c =
    product_alike (matrix_of c.args.roots.now) c.requires.0 _ c.args.self.now c.requires.1
    (All-nil (λ k. k < (matrix_of c.args.roots.now).rank))
    (no_descent (matrix_of c.args.roots.now) (positive_roots_of c.args.roots.now) (root_system c.args.roots.now)
    c.requires.0 c.requires.1.letters
    (λ k l d. c.loop-k.invariant c.requires.0 c.requires.1 k (omega (arith, c.rank-k-end.ensures.value)) d))
