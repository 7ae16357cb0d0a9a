use Rattle.std.proofs.Common.{arith, ◌≡◌, ◌+◌, ◌-◌, ◌≤◌, ◌<◌, length, sum, ℕ}
use Rattle.std.proofs.lemmas.List.Elements.{All-get_or}
use Rattle.bmp_poly.specs.Exponents.{count}
use Rattle.bmp_module.proofs.Multiplying.{rest_is, multiple_read}
use Rattle.bmp_module.proofs.blocks.multiple_at.Goals as goal

pub degree_of-requires : goal.degree_of-requires
degree_of-requires g c = let rest =
    rest_is c.args.rank c.args.degree c.args.i c.monomial_at-e.result c.args.m.now c.in-Some.rest c.requires.rank
    c.requires.place c.monomial_at-e.ensures.exponents c.requires.monomial c.in-Some.ensures in
    omega (arith, rest.fits, c.requires.degree)

pub overflow_sub-degree : goal.overflow_sub-degree
overflow_sub-degree g c = let rest =
    rest_is c.args.rank c.args.degree c.args.i c.monomial_at-e.result c.args.m.now c.in-Some.rest c.requires.rank
    c.requires.place c.monomial_at-e.ensures.exponents c.requires.monomial c.in-Some.ensures in
    omega (arith, rest.fits, c.degree_of.ensures)

pub place_of-requires-clause-monomial : goal.place_of-requires-clause-monomial
place_of-requires-clause-monomial g c = let rest =
    rest_is c.args.rank c.args.degree c.args.i c.monomial_at-e.result c.args.m.now c.in-Some.rest c.requires.rank
    c.requires.place c.monomial_at-e.ensures.exponents c.requires.monomial c.in-Some.ensures in
    rw c.degree_of.ensures rest.monomial

inside : (r degree s place size : ℕ) → s ≤ degree → place < count r (degree - s) →
    ((d : ℕ) → d + s ≡ degree → size ≡ count r d) → place < size
inside r degree s place size fits below sized = let e : size ≡ count r (degree - s) =
    sized (degree - s) (omega arith) in omega arith

pub offset_bounds-block-place_of : goal.offset_bounds-block-place_of
offset_bounds-block-place_of g c =
    let rest = rest_is c.args.rank c.args.degree c.args.i c.monomial_at-e.result c.args.m.now c.in-Some.rest
    c.requires.rank c.requires.place c.monomial_at-e.ensures.exponents c.requires.monomial c.in-Some.ensures in
    omega (
      arith,
      inside c.args.rank c.args.degree (sum c.args.m.now) _ (length c.args.block.now) rest.fits rest.below
          c.requires.sized,
      c.place_of.ensures.place,
    )

pub bounds-block-place_of : goal.bounds-block-place_of
bounds-block-place_of g c =
    let rest = rest_is c.args.rank c.args.degree c.args.i c.monomial_at-e.result c.args.m.now c.in-Some.rest
    c.requires.rank c.requires.place c.monomial_at-e.ensures.exponents c.requires.monomial c.in-Some.ensures in
    rw c.place_of.ensures.place
    (inside c.args.rank c.args.degree (sum c.args.m.now) _ (length c.args.block.now) rest.fits rest.below
    c.requires.sized)

pub returns-in-Some-clause-value : goal.returns-in-Some-clause-value
returns-in-Some-clause-value g c =
    let rest = rest_is c.args.rank c.args.degree c.args.i c.monomial_at-e.result c.args.m.now c.in-Some.rest
    c.requires.rank c.requires.place c.monomial_at-e.ensures.exponents c.requires.monomial c.in-Some.ensures in
    let below : c.place_of.result < length c.args.block.now =
    rw c.place_of.ensures.place
    (inside c.args.rank c.args.degree (sum c.args.m.now) _ (length c.args.block.now) rest.fits rest.below
    c.requires.sized) in
    let read = All-get_or (g.F.Field.is_value c.args.f.now) c.args.block.now c.place_of.result
    c.index-block-place_of.result below c.requires.values in
    rw (← c.index-block-place_of.is) at read

pub returns-in-Some-clause-number : goal.returns-in-Some-clause-number
returns-in-Some-clause-number g c =
    let rest = rest_is c.args.rank c.args.degree c.args.i c.monomial_at-e.result c.args.m.now c.in-Some.rest
    c.requires.rank c.requires.place c.monomial_at-e.ensures.exponents c.requires.monomial c.in-Some.ensures in
    let below : c.place_of.result < length c.args.block.now =
    rw c.place_of.ensures.place
    (inside c.args.rank c.args.degree (sum c.args.m.now) _ (length c.args.block.now) rest.fits rest.below
    c.requires.sized) in
    multiple_read (g.F.Field.num c.args.f.now) c.args.rank c.args.degree c.args.i c.place_of.result
    c.monomial_at-e.result c.args.m.now c.in-Some.rest c.args.block.now c.index-block-place_of.result
    c.monomial_at-e.ensures.exponents c.in-Some.ensures c.place_of.ensures.place below c.index-block-place_of.is
