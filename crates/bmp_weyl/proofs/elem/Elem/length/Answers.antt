use Rattle.std.proofs.Common.{◌≡◌, ◌∙◌, ℕ, ◌+◌, ◌<◌, arith, ap, sym, Bool, cond}
use Rattle.std.proofs.lemmas.List.Elements.{All-nil}
use Rattle.bmp_roots.specs.Pairs.{root_pair}
use Rattle.bmp_roots.specs.PositiveRoots.{has_negative}
use Rattle.bmp_roots.specs.RootSystems.{matrix_of, positive_roots_of}
use Rattle.bmp_weyl.specs.Matrices.{image}
use Rattle.bmp_weyl.specs.Elements.{element_length}
use Rattle.bmp_weyl.proofs.LengthLemmas.{length_identity}
use Rattle.bmp_weyl.proofs.ExchangeLemmas.{length_zero}
use Rattle.bmp_weyl.proofs.ElementLemmas.{small_cells, product_alike, element_length-product}
use Rattle.bmp_weyl.proofs.CallLemmas.{root_system, at_most_one, root_counted, count_all}
use Rattle.bmp_weyl.proofs.elem.Elem.length.Goals as goal
use Rattle.bmp_weyl.proofs.elem.Elem.length.Goals.{then-makes_negative, else-makes_negative}

pub makes_negative-requires-clause-cells : goal.makes_negative-requires-clause-cells
makes_negative-requires-clause-cells c =
    small_cells (matrix_of c.args.roots.now) (root_system c.args.roots.now).finite c.args.self.now c.requires

pub makes_negative-requires-clause-small : goal.makes_negative-requires-clause-small
makes_negative-requires-clause-small c j =
    ((root_system c.args.roots.now).finite.small (root_pair c.pair.result.0 c.pair.result.1) c.pair.ensures.is_pair j).0

pub loop-i-preserved : goal.loop-i-preserved
loop-i-preserved c =
    let more : c.if-makes_negative.count ≡ c.loop-i.count + cond {A = ℕ} c.makes_negative.result 1 0 =
    elim c.if-makes_negative.branch [
      | then-makes_negative w ↦ omega
          (arith, w.count-is, ap (λ (b : Bool). cond {A = ℕ} b 1 0) w.if-makes_negative.true)
      | else-makes_negative w ↦ omega
          (arith, w.count-is, ap (λ (b : Bool). cond {A = ℕ} b 1 0) w.if-makes_negative.false)
    ] in (
      root_counted c.args.roots.now c.args.self.now c.loop-i.i c.loop-i.count c.if-makes_negative.count
          c.rank-rank.result c.pair.result.0 c.makes_negative.result
          (omega (arith, c.positive-i-end.ensures.value)) c.pair.ensures.root c.loop-i.invariant.2
          c.makes_negative.ensures c.loop-i.invariant.0 more,
      omega (arith, more, at_most_one c.makes_negative.result),
      c.loop-i.invariant.2,
    )

pub returns-clause-of_word : goal.returns-clause-of_word
returns-clause-of_word c u h =
    count_all (λ b. has_negative c.args.self.now.rank (image c.args.self.now.entries b)) c.args.roots.now c.loop-i.i
    c.loop-i.count (omega (arith, c.positive-i-end.ensures.value)) c.loop-i.invariant.0
    ∙ element_length-product (matrix_of c.args.roots.now) (positive_roots_of c.args.roots.now)
    (root_system c.args.roots.now) u c.args.self.now h

pub returns-clause-identity : goal.returns-clause-identity
returns-clause-identity c =
    let counted : c.loop-i.count ≡ element_length (positive_roots_of c.args.roots.now) c.args.self.now =
    count_all (λ b. has_negative c.args.self.now.rank (image c.args.self.now.entries b)) c.args.roots.now c.loop-i.i
    c.loop-i.count (omega (arith, c.positive-i-end.ensures.value)) c.loop-i.invariant.0 in (
      (λ none. product_alike (matrix_of c.args.roots.now) c.requires.0 _ c.args.self.now c.requires.1
          (All-nil (λ k. k < (matrix_of c.args.roots.now).rank))
          (length_zero (matrix_of c.args.roots.now) (positive_roots_of c.args.roots.now) (root_system c.args.roots.now)
          c.requires.0 c.requires.1.letters
          (sym (counted ∙ element_length-product (matrix_of c.args.roots.now) (positive_roots_of c.args.roots.now)
          (root_system c.args.roots.now) c.requires.0 c.args.self.now c.requires.1) ∙ none))),
      (λ h. counted ∙ element_length-product (matrix_of c.args.roots.now) (positive_roots_of c.args.roots.now)
          (root_system c.args.roots.now) _ c.args.self.now h
          ∙ length_identity (matrix_of c.args.roots.now) (positive_roots_of c.args.roots.now)
          (root_system c.args.roots.now)),
    )
