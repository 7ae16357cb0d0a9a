use Rattle.std.proofs.Common.{◌≡◌, ◌<◌, ◌∙◌, sym, ap, ap₂, length, get_or, take, List, ℕ, arith}
use Rattle.std.proofs.lemmas.Grind.{get_or_default_zero}
use Rattle.bmp_math.specs.Vectors.{unit}
use Rattle.bmp_math.proofs.UnitLemmas.{unit_same, unit_other}
use Rattle.bmp_poly.specs.Coefficients.{coefficient}
use Rattle.bmp_graded.specs.Modules.{free, polynomials}
use Rattle.bmp_graded.proofs.CopiesLemmas.{copies_dim}
use Rattle.bmp_graded.proofs.ComponentLemmas.{start_of, start_inside, own_block, generator_is}
use Rattle.bmp_module.proofs.free.Free.generator.Goals as goal

-- where the generator's coordinate stands, and how many there are, by its degree d
start_is : (r g d start : ℕ) (xs gs : List ℕ) → g < length gs → xs ≡ gs → d ≡ get_or gs g d →
    start ≡ (free r (take g xs)).dim d → start ≡ start_of r gs (get_or gs g 0) g
start_is r g d start xs gs inside same d_is is =
    is ∙ copies_dim (polynomials r) d (take g xs) ∙ ap (λ (ys : List ℕ). start_of r ys d g) same
    ∙ ap (λ z. start_of r gs z g) (d_is ∙ get_or_default_zero gs g d inside)

size_is : (r g d size : ℕ) (xs gs : List ℕ) → g < length gs → xs ≡ gs → d ≡ get_or gs g d → size ≡ (free r xs).dim d →
    size ≡ (free r gs).dim (get_or gs g 0)
size_is r g d size xs gs inside same d_is is =
    is ∙ ap₂ (λ (ys : List ℕ) (z : ℕ). (free r ys).dim z) same (d_is ∙ get_or_default_zero gs g d inside)

pub unit-requires : goal.unit-requires
unit-requires g c =
    let r = c.args.self.now.rank in
    let gs = c.args.self.now.degrees.items in
    let start = start_is r c.args.g _ c.dimension-start.result _ gs c.requires.generator c.deref-2.ensures.value
    c.index-degree.ensures c.dimension-start.ensures in
    let size = size_is r c.args.g _ c.dimension-dim.result _ gs c.requires.generator c.deref.ensures.value
    c.index-degree.ensures c.dimension-dim.ensures in
    omega (
      arith,
      start,
      size,
      start_inside r (get_or gs c.args.g 0) c.args.g gs c.requires.generator,
      own_block r (get_or gs c.args.g 0),
    )

pub returns-clause-generator : goal.returns-clause-generator
returns-clause-generator g c =
    let r = c.args.self.now.rank in
    let gs = c.args.self.now.degrees.items in
    let at = start_is r c.args.g _ c.dimension-start.result _ gs c.requires.generator c.deref-2.ensures.value
    c.index-degree.ensures c.dimension-start.ensures in
    generator_is r c.args.g gs (coefficient (g.F.Field.num c.args.f.now) c.in_ok-numbers.numbers.items)
    c.args.self.now.wide c.requires.generator
    (c.in_ok-numbers.ensures.unit (start_of r gs (get_or gs c.args.g 0) c.args.g)
    ∙ ap (λ z. unit z (start_of r gs (get_or gs c.args.g 0) c.args.g)) at
    ∙ unit_same (start_of r gs (get_or gs c.args.g 0) c.args.g))
    (λ i other. c.in_ok-numbers.ensures.unit i ∙ unit_other c.dimension-start.result i (λ e. other (sym e ∙ at)))
