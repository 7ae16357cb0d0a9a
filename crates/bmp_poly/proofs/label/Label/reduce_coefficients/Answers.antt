use Rattle.std.proofs.Common.{arith, sym, ◌≡◌, ◌∙◌, ℕ, ◌*◌, ◌%◌, ◌<◌, ◌≤◌, length, get_or, List}
use Rattle.bmp_poly.specs.Exponents.{count}
use Rattle.bmp_poly.specs.Forms.{IsLabel}
use Rattle.bmp_poly.specs.Coefficients.{form}
use Rattle.bmp_poly.specs.Coordinates.{IsLeading}
use Rattle.bmp_poly.specs.Labels.{coordinate_of}
use Rattle.bmp_poly.proofs.Turns.{label_is, turn_more, turn_past, turn_zero, pass_start, pass_end}
use Rattle.bmp_poly.proofs.label.Label.reduce_coefficients.Goals as goal

-- the label as the invariant has it
the_label : (p r s l inverse first number : ℕ) (coords : List ℕ) → 2 ≤ p → p ≡ s → IsLeading s r l coords →
    first ≡ get_or coords l 0 → number ≡ first → (number * inverse) % p ≡ 1 → IsLabel p r (λ k. get_or coords k 0) l
the_label p r s l inverse first number coords two same leads first_is number_is one =
    let known : IsLeading p r l coords = rw same leads in
    label_is p r l inverse coords two known (rw (number_is, first_is) at one)

pub loop-i-init : goal.loop-i-init
loop-i-init g c =
    record {
      values = c.requires.values;
      reduced = pass_start (g.F.Field.size c.args.f.now) c.args.self.now.rank c.args.degree c.args.self.now.leading
          (coordinate_of c.args.self.now)
          (form (g.F.Field.num c.args.f.now) c.args.self.now.rank c.args.coefficients.now)
          (g.met.F.Field.laws.at_least_two c.args.f.now)
          (the_label (g.F.Field.size c.args.f.now) c.args.self.now.rank c.args.self.now.prime c.args.self.now.leading
          (g.F.Field.num c.args.f.now c.inv-inverse.result) c.from.result (g.F.Field.num c.args.f.now c.from_num.result)
          c.args.self.now.coords (g.met.F.Field.laws.at_least_two c.args.f.now) c.requires.prime c.args.self.now.leads
          c.from.ensures c.from_num.ensures.number c.inv-inverse.ensures.number) c.args.self.now.leads.rank;
    }

pub loop-i-preserved-then-num-eq0 : goal.loop-i-preserved-then-num-eq0
loop-i-preserved-then-num-eq0 g c =
    let inside : c.loop-i.i < length c.loop-i.coefficients =
    omega (arith, c.loop-i.auto.coefficients, c.requires.sized, c.count-i-end.ensures.number, c.loop-i-test.true) in
    record {
      values = c.loop-i.invariant.values;
      reduced = turn_zero (g.F.Field.num c.args.f.now) (g.F.Field.size c.args.f.now) c.args.self.now.rank c.args.degree
          c.args.self.now.leading c.loop-i.i (coordinate_of c.args.self.now)
          (form (g.F.Field.num c.args.f.now) c.args.self.now.rank c.args.coefficients.now) c.loop-i.coefficients
          c.index-coefficients-i.result inside c.index-coefficients-i.is (sym c.num.ensures ∙ c.if-num-eq0.true)
          c.loop-i.invariant.reduced;
    }

pub loop-i-preserved-then-e-leading-eq0 : goal.loop-i-preserved-then-e-leading-eq0
loop-i-preserved-then-e-leading-eq0 g c = record {
  values = c.loop-i.invariant.values;
  reduced = turn_past (g.F.Field.size c.args.f.now) c.args.self.now.rank c.args.degree c.args.self.now.leading
      c.loop-i.i (coordinate_of c.args.self.now)
      (form (g.F.Field.num c.args.f.now) c.args.self.now.rank c.args.coefficients.now)
      (form (g.F.Field.num c.args.f.now) c.args.self.now.rank c.loop-i.coefficients) c.monomial_at-e.result
      (g.met.F.Field.laws.at_least_two c.args.f.now)
      (the_label (g.F.Field.size c.args.f.now) c.args.self.now.rank c.args.self.now.prime c.args.self.now.leading
      (g.F.Field.num c.args.f.now c.inv-inverse.result) c.from.result (g.F.Field.num c.args.f.now c.from_num.result)
      c.args.self.now.coords (g.met.F.Field.laws.at_least_two c.args.f.now) c.requires.prime c.args.self.now.leads
      c.from.ensures c.from_num.ensures.number c.inv-inverse.ensures.number) c.args.self.now.leads.rank
      c.monomial_at-e.ensures.monomial c.monomial_at-e.ensures.place c.if-e-leading-eq0.true c.loop-i.invariant.reduced;
}

pub loop-i-preserved : goal.loop-i-preserved
loop-i-preserved g c = record {
  values = c.replace_term.ensures.values;
  reduced = turn_more (g.F.Field.size c.args.f.now) c.args.self.now.rank c.args.degree c.args.self.now.leading
      c.loop-i.i (coordinate_of c.args.self.now)
      (form (g.F.Field.num c.args.f.now) c.args.self.now.rank c.args.coefficients.now)
      (form (g.F.Field.num c.args.f.now) c.args.self.now.rank c.loop-i.coefficients) _ c.monomial_at-e.result
      (g.met.F.Field.laws.at_least_two c.args.f.now)
      (the_label (g.F.Field.size c.args.f.now) c.args.self.now.rank c.args.self.now.prime c.args.self.now.leading
      (g.F.Field.num c.args.f.now c.inv-inverse.result) c.from.result (g.F.Field.num c.args.f.now c.from_num.result)
      c.args.self.now.coords (g.met.F.Field.laws.at_least_two c.args.f.now) c.requires.prime c.args.self.now.leads
      c.from.ensures c.from_num.ensures.number c.inv-inverse.ensures.number) c.args.self.now.leads.rank
      c.monomial_at-e.ensures.monomial c.monomial_at-e.ensures.place (omega (arith, c.if-e-leading-eq0.false))
      c.replace_term.ensures.replaced c.loop-i.invariant.reduced;
}

pub returns-clause-normal : goal.returns-clause-normal
returns-clause-normal g c =
    let all : c.loop-i.i ≡ count c.args.self.now.rank c.args.degree =
    omega (arith, c.count-i-end.ensures.number, c.loop-i.auto.i-end, c.loop-i-test.false) in
    let normal = pass_end (g.F.Field.size c.args.f.now) c.args.self.now.rank c.args.degree c.args.self.now.leading
    c.loop-i.i (coordinate_of c.args.self.now)
    (form (g.F.Field.num c.args.f.now) c.args.self.now.rank c.args.coefficients.now)
    (form (g.F.Field.num c.args.f.now) c.args.self.now.rank c.loop-i.coefficients)
    (g.met.F.Field.laws.at_least_two c.args.f.now)
    (the_label (g.F.Field.size c.args.f.now) c.args.self.now.rank c.args.self.now.prime c.args.self.now.leading
    (g.F.Field.num c.args.f.now c.inv-inverse.result) c.from.result (g.F.Field.num c.args.f.now c.from_num.result)
    c.args.self.now.coords (g.met.F.Field.laws.at_least_two c.args.f.now) c.requires.prime c.args.self.now.leads
    c.from.ensures c.from_num.ensures.number c.inv-inverse.ensures.number) c.args.self.now.leads.rank all
    c.loop-i.invariant.reduced in
    rw c.requires.prime at normal
