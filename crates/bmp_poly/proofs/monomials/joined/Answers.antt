use Rattle.std.proofs.Common.{rules, arith, ap, ◌≡◌, ◌∙◌, ◌+◌, length, get_or, inl, inr, get_or-set_same, get_or-set_other, length-set}
use Rattle.std.proofs.lemmas.Bool.{cases_eq}
use Rattle.bmp_poly.proofs.Multiplying.{joined_written}
use Rattle.bmp_poly.proofs.monomials.joined.Goals as goal

pub loop-k-preserved : goal.loop-k-preserved
loop-k-preserved c =
    let long : length c.loop-k.product ≡ 6 = c.loop-k.invariant.long in
    let sum = get_or c.loop-k.product c.loop-k.k 0 + get_or c.args.n.now c.loop-k.k 0 in
    record {
      long = length-set c.loop-k.product c.loop-k.k sum ∙ long;
      done = λ j below. elim (cases_eq c.loop-k.k j) [
        | inl here ↦ rw (← here) (get_or-set_same c.loop-k.product c.loop-k.k sum 0 (omega arith)
            ∙ ap (λ z. z + get_or c.args.n.now c.loop-k.k 0) (c.loop-k.invariant.left c.loop-k.k (omega arith)))
        | inr other ↦ get_or-set_other c.loop-k.product c.loop-k.k j sum 0 (omega arith)
            ∙ c.loop-k.invariant.done j (omega arith)
      ];
      left = λ j past. get_or-set_other c.loop-k.product c.loop-k.k j sum 0 (omega arith)
          ∙ c.loop-k.invariant.left j (omega arith);
    }

pub returns : goal.returns
returns c =
    let first : length c.args.m.now ≡ 6 = search rules in
    let second : length c.args.n.now ≡ 6 = search rules in
    joined_written c.args.m.now c.args.n.now c.loop-k.product first second c.loop-k.invariant.long
    (λ k l. c.loop-k.invariant.done k (omega arith))
