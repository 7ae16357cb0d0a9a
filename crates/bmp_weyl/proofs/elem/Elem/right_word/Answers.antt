use Rattle.std.proofs.Common.{List, ℕ, sym, subst}
use Rattle.std.specs.List.{All}
use Rattle.bmp_roots.specs.RootSystems.{matrix_of, positive_roots_of}
use Rattle.bmp_weyl.specs.Words.{IsReduced, IsDescentWord}
use Rattle.bmp_weyl.specs.Elements.{IsProduct, word_of, IsLetter}
use Rattle.bmp_weyl.proofs.CallLemmas.{root_system, HasLeft, all_left, rest_is_element, less_left, next_shorter, none_left, letters-reverse}
use Rattle.bmp_weyl.proofs.elem.Elem.right_word.Goals as goal

pub loop-k-init : goal.loop-k-init
loop-k-init c = subst (λ (w : List ℕ). HasLeft c.args.roots.now c.args.self.now w c.args.self.now)
    (sym c.new-word.ensures) (all_left c.args.roots.now c.args.self.now)

pub least_right_descent-requires : goal.least_right_descent-requires
least_right_descent-requires c =
    rest_is_element c.args.roots.now c.args.self.now c.loop-k.word c.loop-k.rest c.requires c.loop-k.invariant

pub mul-rest-requires : goal.mul-rest-requires
mul-rest-requires c = record {
  matrix = matrix_of c.args.roots.now;
  form = (root_system c.args.roots.now).form;
  finite = (root_system c.args.roots.now).finite;
  first = rest_is_element c.args.roots.now c.args.self.now c.loop-k.word c.loop-k.rest c.requires c.loop-k.invariant;
  second = (_, c.simple.ensures);
}

pub loop-k-smaller : goal.loop-k-smaller
loop-k-smaller c =
    next_shorter c.args.roots.now c.loop-k.rest c.in-Some.k c.mul-rest.result
    (rest_is_element c.args.roots.now c.args.self.now c.loop-k.word c.loop-k.rest c.requires c.loop-k.invariant)
    c.in-Some.ensures.least
    (λ u h. c.mul-rest.ensures.product (matrix_of c.args.roots.now) u _ (root_system c.args.roots.now).form h
    c.simple.ensures)

pub loop-k-preserved : goal.loop-k-preserved
loop-k-preserved c =
    subst (λ (w : List ℕ). HasLeft c.args.roots.now c.args.self.now w c.mul-rest.result) (sym c.in_ok-push.ensures.ok)
    (less_left c.args.roots.now c.args.self.now c.loop-k.word c.loop-k.rest c.in-Some.k c.mul-rest.result
    c.loop-k.invariant c.in-Some.ensures.letter c.in-Some.ensures.least
    (λ u h. c.mul-rest.ensures.product (matrix_of c.args.roots.now) u _ (root_system c.args.roots.now).form h
    c.simple.ensures))

pub returns-clause-letters : goal.returns-clause-letters
returns-clause-letters c =
    subst (All (IsLetter (matrix_of c.args.roots.now).rank)) (sym c.reverse.ensures)
    (letters-reverse c.args.roots.now c.args.self.now c.loop-k.word c.loop-k.rest c.loop-k.invariant)

pub returns-clause-product : goal.returns-clause-product
returns-clause-product c =
    subst (λ (w : List ℕ). IsProduct (matrix_of c.args.roots.now) (word_of w) c.args.self.now) (sym c.reverse.ensures)
    (none_left c.args.roots.now c.args.self.now c.loop-k.word c.loop-k.rest c.requires c.loop-k.invariant
    c.in_default.ensures.none).0

pub returns-clause-reduced : goal.returns-clause-reduced
returns-clause-reduced c =
    subst (λ (w : List ℕ). IsReduced (matrix_of c.args.roots.now) (positive_roots_of c.args.roots.now) (word_of w))
    (sym c.reverse.ensures)
    (none_left c.args.roots.now c.args.self.now c.loop-k.word c.loop-k.rest c.requires c.loop-k.invariant
    c.in_default.ensures.none).1

pub returns-clause-least : goal.returns-clause-least
returns-clause-least c =
    subst (λ (w : List ℕ). IsDescentWord (matrix_of c.args.roots.now) (positive_roots_of c.args.roots.now) (word_of w))
    (sym c.reverse.ensures)
    (none_left c.args.roots.now c.args.self.now c.loop-k.word c.loop-k.rest c.requires c.loop-k.invariant
    c.in_default.ensures.none).2
