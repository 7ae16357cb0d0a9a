use Rattle.std.proofs.Common.{◌≡◌, ℕ, ◌+◌, cond, sym, ap, ◌∙◌, arith}
use Rattle.std.proofs.lemmas.Bool.{cond-true, cond-false}
use Rattle.bmp_math.proofs.SumLemmas.{sum_below-zero}
use Rattle.bmp_sections.specs.Numbers.{is_above}
use Rattle.bmp_check.specs.SizeLists.{size_in}
use Rattle.bmp_check.proofs.SizeLemmas.{above_test, sum_in_more}
use Rattle.bmp_check.proofs.size_rows.SizeRows.sum_above.Goals as goal
use Rattle.bmp_check.proofs.size_rows.SizeRows.sum_above.Goals.{then-is_above, else-is_above}

pub vertices-init : goal.vertices-init
vertices-init c =
    record {
      so_far = sym
          (sum_below-zero (λ y. cond (is_above c.args.graph.now c.args.x y) (size_in c.args.self.now y c.args.d) 0));
      small =
          omega arith;
    }

pub vertices-preserved : goal.vertices-preserved
vertices-preserved c =
    let G = c.args.graph.now in
    let tested = above_test G c.vertices-y-end.ensures.graph c.args.x c.vertices.y c.is_above.result
    c.is_above.ensures in
    let numbers : ℕ → ℕ = λ y. size_in c.args.self.now y c.args.d in
    let more = sum_in_more (is_above G c.args.x) numbers c.vertices.y c.vertices.sum c.vertices.invariant.so_far in
    elim c.if-is_above.branch [
      | then-is_above w ↦
          let number : w.at-sum.result ≡ numbers c.vertices.y = w.at-sum.ensures.number in
          let value : cond (is_above G c.args.x c.vertices.y) (numbers c.vertices.y) 0 ≡ numbers c.vertices.y =
          cond-true {A = ℕ} (is_above G c.args.x c.vertices.y) (numbers c.vertices.y) 0
          (sym tested ∙ w.if-is_above.true) in
          record {
            so_far = w.sum-is ∙ ap (λ z. c.vertices.sum + z) (number ∙ sym value) ∙ more;
            small = omega (arith, w.sum-is, w.at-sum.ensures.small, c.vertices.invariant.small);
          }
      | else-is_above w ↦
          let value : cond (is_above G c.args.x c.vertices.y) (numbers c.vertices.y) 0 ≡ 0 =
          cond-false {A = ℕ} (is_above G c.args.x c.vertices.y) (numbers c.vertices.y) 0
          (sym tested ∙ w.if-is_above.false) in
          record {
            so_far = omega (arith, w.sum-is, value, more);
            small = omega (arith, w.sum-is, c.vertices.invariant.small);
          }
    ]
