use Rattle.std.proofs.Common.{arith, ◌≡◌, ◌-◌, ◌≤◌, ◌<◌, ◌∙◌, sym, ap, refl, length}
use Rattle.std.proofs.lemmas.List.Elements.{All-get_or}
use Rattle.bmp_poly.specs.Exponents.{count, exponents}
use Rattle.bmp_poly.specs.Coefficients.{coefficient}
use Rattle.bmp_poly.proofs.CoefficientLemmas.{coefficient_read}
use Rattle.bmp_graded.proofs.GradedLemmas.{wider_monomial}
use Rattle.bmp_module.proofs.Extending.{none_added, start_sum, block_count, multiples_none, multiple_more, multiples_end}
use Rattle.bmp_module.proofs.linear.add_multiples.Goals as goal

pub returns-then-generator-degree-clause-added : goal.returns-then-generator-degree-clause-added
returns-then-generator-degree-clause-added g c = λ j l.
    let before : g.N.GradedModule.degree c.args.into.now c.args.total.now < c.args.generator =
    omega (arith, c.degree-degree.ensures, c.if-generator-degree.true) in
    none_added (g.F.Field.size c.args.f.now)
    (g.N.GradedModule.coordinate c.args.into.now c.args.f.now c.args.total.now j) _
    (multiples_none c.args.rank (g.N.GradedModule.graded c.args.into.now) c.args.generator
    (g.N.GradedModule.coordinate c.args.into.now c.args.f.now c.args.image.now)
    (g.N.GradedModule.degree c.args.into.now c.args.total.now)
    (coefficient (g.F.Field.num c.args.f.now) c.args.block.now) j before)
    (g.met.N.GradedModule.numbers c.args.into.now c.args.f.now c.args.total.now c.requires.total j l)

pub loop-i-init : goal.loop-i-init
loop-i-init g c = record {
  element = c.requires.total;
  degree = refl;
  added = λ j l. start_sum (g.F.Field.size c.args.f.now)
      (g.N.GradedModule.coordinate c.args.into.now c.args.f.now c.args.total.now j) _
      (g.met.N.GradedModule.numbers c.args.into.now c.args.f.now c.args.total.now c.requires.total j l);
}

pub offset_bounds-block-i : goal.offset_bounds-block-i
offset_bounds-block-i g c =
    let from : c.args.generator ≤ g.N.GradedModule.degree c.args.into.now c.args.total.now =
    omega (arith, c.degree-degree.ensures, c.if-generator-degree.false) in
    let all : c.count-i-end.result
    ≡ count c.args.rank (g.N.GradedModule.degree c.args.into.now c.args.total.now - c.args.generator) =
    c.count-i-end.ensures.number ∙ ap (λ z. count c.args.rank (z - c.args.generator)) c.degree-degree.ensures in
    let size = block_count c.args.rank c.args.generator (g.N.GradedModule.degree c.args.into.now c.args.total.now)
    (length c.args.block.now) from c.requires.sized in
    omega (arith, c.loop-i-test.true, all, size)

pub bounds-block-i : goal.bounds-block-i
bounds-block-i g c =
    let from : c.args.generator ≤ g.N.GradedModule.degree c.args.into.now c.args.total.now =
    omega (arith, c.degree-degree.ensures, c.if-generator-degree.false) in
    let all : c.count-i-end.result
    ≡ count c.args.rank (g.N.GradedModule.degree c.args.into.now c.args.total.now - c.args.generator) =
    c.count-i-end.ensures.number ∙ ap (λ z. count c.args.rank (z - c.args.generator)) c.degree-degree.ensures in
    let size = block_count c.args.rank c.args.generator (g.N.GradedModule.degree c.args.into.now c.args.total.now)
    (length c.args.block.now) from c.requires.sized in
    omega (arith, c.loop-i-test.true, all, size)

pub add_multiple-requires-clause-value : goal.add_multiple-requires-clause-value
add_multiple-requires-clause-value g c =
    let from : c.args.generator ≤ g.N.GradedModule.degree c.args.into.now c.args.total.now =
    omega (arith, c.degree-degree.ensures, c.if-generator-degree.false) in
    let all : c.count-i-end.result
    ≡ count c.args.rank (g.N.GradedModule.degree c.args.into.now c.args.total.now - c.args.generator) =
    c.count-i-end.ensures.number ∙ ap (λ z. count c.args.rank (z - c.args.generator)) c.degree-degree.ensures in
    let size = block_count c.args.rank c.args.generator (g.N.GradedModule.degree c.args.into.now c.args.total.now)
    (length c.args.block.now) from c.requires.sized in
    let inside : c.loop-i.i < length c.args.block.now = omega (arith, c.loop-i-test.true, all, size) in
    let read = All-get_or (g.F.Field.is_value c.args.f.now) c.args.block.now c.loop-i.i c.index-block-i.result inside
    c.requires.values in
    rw (← c.index-block-i.is) at read

pub add_multiple-requires-clause-monomial : goal.add_multiple-requires-clause-monomial
add_multiple-requires-clause-monomial g c =
    wider_monomial c.args.rank (g.N.GradedModule.rank c.args.into.now) _ c.monomial_at-m.result c.requires.rank
    (rw c.monomial_at-m.ensures.monomial.size c.monomial_at-m.ensures.monomial)

pub loop-i-preserved : goal.loop-i-preserved
loop-i-preserved g c =
    let from : c.args.generator ≤ g.N.GradedModule.degree c.args.into.now c.args.total.now =
    omega (arith, c.degree-degree.ensures, c.if-generator-degree.false) in
    let all : c.count-i-end.result
    ≡ count c.args.rank (g.N.GradedModule.degree c.args.into.now c.args.total.now - c.args.generator) =
    c.count-i-end.ensures.number ∙ ap (λ z. count c.args.rank (z - c.args.generator)) c.degree-degree.ensures in
    let size = block_count c.args.rank c.args.generator (g.N.GradedModule.degree c.args.into.now c.args.total.now)
    (length c.args.block.now) from c.requires.sized in
    let inside : c.loop-i.i < length c.args.block.now = omega (arith, c.loop-i-test.true, all, size) in
    record {
      element = c.in_ok-add_multiple.ensures.element;
      degree = c.in_ok-add_multiple.ensures.degree ∙ c.loop-i.invariant.degree;
      added = multiple_more (g.F.Field.size c.args.f.now) c.args.rank (g.N.GradedModule.graded c.args.into.now)
          (g.N.GradedModule.degree c.args.into.now c.args.total.now) c.args.generator c.loop-i.i
          (g.N.GradedModule.degree c.args.into.now c.loop-i.total)
          (g.N.GradedModule.degree c.args.into.now c.args.image.now) (g.F.Field.num c.args.f.now c.index-block-i.result)
          c.monomial_at-m.result
          (g.N.GradedModule.coordinate c.args.into.now c.args.f.now c.args.image.now)
          (coefficient (g.F.Field.num c.args.f.now) c.args.block.now)
          (g.N.GradedModule.coordinate c.args.into.now c.args.f.now c.args.total.now)
          (g.N.GradedModule.coordinate c.args.into.now c.args.f.now c.loop-i.total)
          (g.N.GradedModule.coordinate c.args.into.now c.args.f.now c.add_multiple.new.total)
          c.loop-i.invariant.degree c.requires.generator
          (c.monomial_at-m.ensures.exponents
          ∙ ap (λ z. exponents 6 c.args.rank (z - c.args.generator) c.loop-i.i) c.degree-degree.ensures)
          (sym (coefficient_read (g.F.Field.num c.args.f.now) c.args.block.now c.loop-i.i c.index-block-i.result inside
          c.index-block-i.is))
          c.in_ok-add_multiple.ensures.added c.loop-i.invariant.added;
    }

pub returns-clause-added : goal.returns-clause-added
returns-clause-added g c = λ j l.
    let from : c.args.generator ≤ g.N.GradedModule.degree c.args.into.now c.args.total.now =
    omega (arith, c.degree-degree.ensures, c.if-generator-degree.false) in
    let all : c.count-i-end.result
    ≡ count c.args.rank (g.N.GradedModule.degree c.args.into.now c.args.total.now - c.args.generator) =
    c.count-i-end.ensures.number ∙ ap (λ z. count c.args.rank (z - c.args.generator)) c.degree-degree.ensures in
    let last : c.loop-i.i ≡ c.count-i-end.result = omega (arith, c.loop-i.auto.i-end, c.loop-i-test.false) in
    multiples_end (g.F.Field.size c.args.f.now) c.args.rank (g.N.GradedModule.graded c.args.into.now)
    (g.N.GradedModule.degree c.args.into.now c.args.total.now) c.args.generator c.loop-i.i
    (g.N.GradedModule.coordinate c.args.into.now c.args.f.now c.args.image.now)
    (coefficient (g.F.Field.num c.args.f.now) c.args.block.now) j
    (g.N.GradedModule.coordinate c.args.into.now c.args.f.now c.args.total.now j)
    (g.N.GradedModule.coordinate c.args.into.now c.args.f.now c.loop-i.total j)
    from (last ∙ all) (c.loop-i.invariant.added j l)
