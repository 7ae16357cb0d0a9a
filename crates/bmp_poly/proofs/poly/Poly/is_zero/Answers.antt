use Rattle.std.proofs.Common.{arith, refl, sym, ap, ◌∙◌, ◌<◌, ◌≤◌, length, inl, inr}
use Rattle.std.proofs.lemmas.Bool.{cases_eq}
use Rattle.bmp_poly.proofs.CoefficientLemmas.{zero_read}
use Rattle.bmp_poly.proofs.poly.Poly.is_zero.Goals as goal

pub loop-i-preserved : goal.loop-i-preserved
loop-i-preserved g c = λ k x l.
    let seen = ap (λ a. a.coefficients) c.self.view_is in
    let here : c.loop-i.i < length c.args.self.now.coefficients =
    omega (arith, ap (λ a. length a.coefficients) c.self.view_is, c.len-i-end.ensures, c.loop-i-test.true) in
    let read = rw seen at c.index.ensures in
    elim (cases_eq k c.loop-i.i) [
      | inl same ↦ rw same
          (zero_read (g.F.Field.num c.args.f.now) c.args.self.now.coefficients c.loop-i.i c.index.result.now x here read
          (sym c.num.ensures ∙ c.if-num-ne0.false))
      | inr other ↦ c.loop-i.invariant k x (omega arith)
    ]

pub returns : goal.returns
returns g c =
    let all : length c.args.self.now.coefficients ≤ c.loop-i.i =
    omega (arith, ap (λ a. length a.coefficients) c.self.view_is, c.len-i-end.ensures, c.loop-i-test.false) in
    ((λ t k x l. c.loop-i.invariant k x (omega arith)), (λ h. refl))
