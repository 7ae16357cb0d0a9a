use Rattle.std.proofs.Common.{rules, arith, refl, ◌≡◌, ◌∙◌, ◌+◌, ◌<◌, length, get_or}
use Rattle.std.proofs.lemmas.List.Elements.{All-get_or}
use Rattle.bmp_poly.specs.Labels.{coordinate_of}
use Rattle.bmp_poly.proofs.PlaceLemmas.{place_below}
use Rattle.bmp_poly.proofs.Scanning.{count_small}
use Rattle.bmp_poly.proofs.Multiples.{adding_start, adding_later, term_replaced}
use Rattle.bmp_poly.proofs.Replacing.{Moved, moved, rest_le, step_start}
use Rattle.bmp_poly.proofs.Turns.{cleared_by, cleared_at}
use Rattle.bmp_poly.proofs.label.Label.replace_term.Goals as goal

pub bounds-coefficients-i : goal.bounds-coefficients-i
bounds-coefficients-i g c =
    omega (
      arith,
      place_below 6 c.args.self.now.rank c.args.degree c.args.e.now c.args.self.now.leads.rank
          c.requires.monomial,
      c.requires.place,
      c.requires.sized,
    )

pub offset_bounds-coefficients-i : goal.offset_bounds-coefficients-i
offset_bounds-coefficients-i g c =
    let inside : c.args.i < length c.args.coefficients.now =
    omega (
      arith,
      place_below 6 c.args.self.now.rank c.args.degree c.args.e.now c.args.self.now.leads.rank
          c.requires.monomial,
      c.requires.place,
      c.requires.sized,
    ) in
    search rules

pub mul-requires-clause-first : goal.mul-requires-clause-first
mul-requires-clause-first g c =
    let inside : c.args.i < length c.args.coefficients.now =
    omega (
      arith,
      place_below 6 c.args.self.now.rank c.args.degree c.args.e.now c.args.self.now.leads.rank
          c.requires.monomial,
      c.requires.place,
      c.requires.sized,
    ) in
    let read = All-get_or (g.F.Field.is_value c.args.f.now) c.args.coefficients.now c.args.i
    c.index-coefficients-i.result inside c.requires.values in
    rw (← c.index-coefficients-i.is) at read

pub bounds-coefficients-i-2 : goal.bounds-coefficients-i-2
bounds-coefficients-i-2 g c =
    omega (
      arith,
      place_below 6 c.args.self.now.rank c.args.degree c.args.e.now c.args.self.now.leads.rank
          c.requires.monomial,
      c.requires.place,
      c.requires.sized,
    )

pub offset_bounds-coefficients-i-2 : goal.offset_bounds-coefficients-i-2
offset_bounds-coefficients-i-2 g c =
    let inside : c.args.i < length c.args.coefficients.now =
    omega (
      arith,
      place_below 6 c.args.self.now.rank c.args.degree c.args.e.now c.args.self.now.leads.rank
          c.requires.monomial,
      c.requires.place,
      c.requires.sized,
    ) in
    search rules

pub loop-k-init : goal.loop-k-init
loop-k-init g c =
    let two = g.met.F.Field.laws.at_least_two c.args.f.now in
    let here : c.args.self.now.leading < c.args.self.now.rank = c.args.self.now.leads.here in
    record {
      after = omega arith;
      within = omega arith;
      step = step_start 6 c.args.self.now.rank c.args.degree c.args.self.now.leading c.args.i c.size_from-rest.result
          c.args.e.now c.args.self.now.leads.rank here c.requires.monomial c.requires.leading c.requires.place
          c.size_from-rest.ensures;
      adding =
          adding_start (g.F.Field.is_value c.args.f.now) (g.F.Field.num c.args.f.now) (g.F.Field.size c.args.f.now)
          c.args.self.now.rank c.args.degree c.args.self.now.leading c.args.i (coordinate_of c.args.self.now)
          (g.F.Field.num c.args.f.now c.neg-factor.result) c.args.e.now c.args.coefficients.now
          c.index-coefficients-i.result c.zero.result c.args.self.now.leads.rank here c.requires.monomial
          c.requires.leading c.requires.place c.requires.sized c.requires.values c.args.self.now.leads.first.before
          c.index-coefficients-i.is c.zero.ensures.value c.zero.ensures.number
          (cleared_by (g.F.Field.size c.args.f.now) (g.F.Field.num c.args.f.now c.index-coefficients-i.result)
          (g.F.Field.num c.args.f.now c.args.inverse) (g.F.Field.num c.args.f.now c.neg-factor.result)
          (coordinate_of c.args.self.now c.args.self.now.leading) (g.F.Field.num c.args.f.now c.mul.result) two
          c.mul.ensures.number c.neg-factor.ensures.number c.requires.inverted);
    }

pub count-later-requires-clause-degree : goal.count-later-requires-clause-degree
count-later-requires-clause-degree g c =
    omega (
      arith,
      rest_le c.args.self.now.rank c.args.degree c.args.self.now.leading c.loop-k.k c.loop-k.later
          c.loop-k.rest c.args.e.now c.args.self.now.leads.rank c.args.self.now.leads.here c.requires.monomial
          c.loop-k.invariant.step,
      c.requires.degree,
    )

pub overflow_add-later : goal.overflow_add-later
overflow_add-later g c =
    let step : Moved c.args.self.now.rank c.args.degree c.args.self.now.leading c.loop-k.k
    (c.loop-k.later + c.count-later.result) c.loop-k.rest (get_or c.args.e.now c.loop-k.k 0) c.args.e.now =
    moved c.args.self.now.rank c.args.degree c.args.self.now.leading c.loop-k.k c.loop-k.later c.count-later.result
    c.loop-k.rest (get_or c.args.e.now c.loop-k.k 0) c.args.e.now c.args.self.now.leads.rank
    c.loop-k.invariant.after c.loop-k-test.true c.requires.monomial c.requires.leading c.loop-k.invariant.step
    c.count-later.ensures.number refl in
    omega (
      arith,
      step.below,
      count_small c.args.self.now.rank c.args.degree c.args.self.now.leads.rank c.requires.degree,
    )

pub overflow_sub-rest : goal.overflow_sub-rest
overflow_sub-rest g c =
    let step : Moved c.args.self.now.rank c.args.degree c.args.self.now.leading c.loop-k.k
    (c.loop-k.later + c.count-later.result) c.loop-k.rest (get_or c.args.e.now c.loop-k.k 0) c.args.e.now =
    moved c.args.self.now.rank c.args.degree c.args.self.now.leading c.loop-k.k c.loop-k.later c.count-later.result
    c.loop-k.rest (get_or c.args.e.now c.loop-k.k 0) c.args.e.now c.args.self.now.leads.rank
    c.loop-k.invariant.after c.loop-k-test.true c.requires.monomial c.requires.leading c.loop-k.invariant.step
    c.count-later.ensures.number refl in
    omega (arith, step.le, c.from-rest.ensures)

pub bounds-coefficients-later : goal.bounds-coefficients-later
bounds-coefficients-later g c =
    let step : Moved c.args.self.now.rank c.args.degree c.args.self.now.leading c.loop-k.k
    (c.loop-k.later + c.count-later.result) c.loop-k.rest (get_or c.args.e.now c.loop-k.k 0) c.args.e.now =
    moved c.args.self.now.rank c.args.degree c.args.self.now.leading c.loop-k.k c.loop-k.later c.count-later.result
    c.loop-k.rest (get_or c.args.e.now c.loop-k.k 0) c.args.e.now c.args.self.now.leads.rank
    c.loop-k.invariant.after c.loop-k-test.true c.requires.monomial c.requires.leading c.loop-k.invariant.step
    c.count-later.ensures.number refl in
    let sized : length c.loop-k.coefficients ≡ length c.args.coefficients.now = c.loop-k.invariant.adding.sized in
    omega (arith, step.below, c.requires.sized)

pub offset_bounds-coefficients-later : goal.offset_bounds-coefficients-later
offset_bounds-coefficients-later g c =
    let step : Moved c.args.self.now.rank c.args.degree c.args.self.now.leading c.loop-k.k
    (c.loop-k.later + c.count-later.result) c.loop-k.rest (get_or c.args.e.now c.loop-k.k 0) c.args.e.now =
    moved c.args.self.now.rank c.args.degree c.args.self.now.leading c.loop-k.k c.loop-k.later c.count-later.result
    c.loop-k.rest (get_or c.args.e.now c.loop-k.k 0) c.args.e.now c.args.self.now.leads.rank
    c.loop-k.invariant.after c.loop-k-test.true c.requires.monomial c.requires.leading c.loop-k.invariant.step
    c.count-later.ensures.number refl in
    let sized : length c.loop-k.coefficients ≡ length c.args.coefficients.now = c.loop-k.invariant.adding.sized in
    let inside : c.loop-k.later + c.count-later.result < length c.loop-k.coefficients =
    omega (arith, step.below, c.requires.sized) in
    search rules

pub add-requires-clause-first : goal.add-requires-clause-first
add-requires-clause-first g c =
    let step : Moved c.args.self.now.rank c.args.degree c.args.self.now.leading c.loop-k.k
    (c.loop-k.later + c.count-later.result) c.loop-k.rest (get_or c.args.e.now c.loop-k.k 0) c.args.e.now =
    moved c.args.self.now.rank c.args.degree c.args.self.now.leading c.loop-k.k c.loop-k.later c.count-later.result
    c.loop-k.rest (get_or c.args.e.now c.loop-k.k 0) c.args.e.now c.args.self.now.leads.rank
    c.loop-k.invariant.after c.loop-k-test.true c.requires.monomial c.requires.leading c.loop-k.invariant.step
    c.count-later.ensures.number refl in
    let sized : length c.loop-k.coefficients ≡ length c.args.coefficients.now = c.loop-k.invariant.adding.sized in
    let inside : c.loop-k.later + c.count-later.result < length c.loop-k.coefficients =
    omega (arith, step.below, c.requires.sized) in
    let read = All-get_or (g.F.Field.is_value c.args.f.now) c.loop-k.coefficients
    (c.loop-k.later + c.count-later.result) c.index-coefficients-later.result inside
    c.loop-k.invariant.adding.values in
    rw (← c.index-coefficients-later.is) at read

pub bounds-coefficients-later-in-loop-k : goal.bounds-coefficients-later-in-loop-k
bounds-coefficients-later-in-loop-k g c =
    let step : Moved c.args.self.now.rank c.args.degree c.args.self.now.leading c.loop-k.k
    (c.loop-k.later + c.count-later.result) c.loop-k.rest (get_or c.args.e.now c.loop-k.k 0) c.args.e.now =
    moved c.args.self.now.rank c.args.degree c.args.self.now.leading c.loop-k.k c.loop-k.later c.count-later.result
    c.loop-k.rest (get_or c.args.e.now c.loop-k.k 0) c.args.e.now c.args.self.now.leads.rank
    c.loop-k.invariant.after c.loop-k-test.true c.requires.monomial c.requires.leading c.loop-k.invariant.step
    c.count-later.ensures.number refl in
    let sized : length c.loop-k.coefficients ≡ length c.args.coefficients.now = c.loop-k.invariant.adding.sized in
    omega (arith, step.below, c.requires.sized)

pub offset_bounds-coefficients-later-in-loop-k : goal.offset_bounds-coefficients-later-in-loop-k
offset_bounds-coefficients-later-in-loop-k g c =
    let step : Moved c.args.self.now.rank c.args.degree c.args.self.now.leading c.loop-k.k
    (c.loop-k.later + c.count-later.result) c.loop-k.rest (get_or c.args.e.now c.loop-k.k 0) c.args.e.now =
    moved c.args.self.now.rank c.args.degree c.args.self.now.leading c.loop-k.k c.loop-k.later c.count-later.result
    c.loop-k.rest (get_or c.args.e.now c.loop-k.k 0) c.args.e.now c.args.self.now.leads.rank
    c.loop-k.invariant.after c.loop-k-test.true c.requires.monomial c.requires.leading c.loop-k.invariant.step
    c.count-later.ensures.number refl in
    let sized : length c.loop-k.coefficients ≡ length c.args.coefficients.now = c.loop-k.invariant.adding.sized in
    let inside : c.loop-k.later + c.count-later.result < length c.loop-k.coefficients =
    omega (arith, step.below, c.requires.sized) in
    search rules

pub loop-k-preserved : goal.loop-k-preserved
loop-k-preserved g c =
    let step : Moved c.args.self.now.rank c.args.degree c.args.self.now.leading c.loop-k.k
    (c.loop-k.later + c.count-later.result) c.loop-k.rest c.from-rest.result c.args.e.now =
    moved c.args.self.now.rank c.args.degree c.args.self.now.leading c.loop-k.k c.loop-k.later c.count-later.result
    c.loop-k.rest c.from-rest.result c.args.e.now c.args.self.now.leads.rank c.loop-k.invariant.after
    c.loop-k-test.true c.requires.monomial c.requires.leading c.loop-k.invariant.step c.count-later.ensures.number
    c.from-rest.ensures in
    record {
      after = omega (arith, c.loop-k.invariant.after);
      within = omega arith;
      step = step.next;
      adding = adding_later (g.F.Field.is_value c.args.f.now) (g.F.Field.num c.args.f.now) (g.F.Field.size c.args.f.now)
          c.args.self.now.rank c.args.degree c.args.self.now.leading c.loop-k.k (c.loop-k.later + c.count-later.result)
          (g.F.Field.num c.args.f.now c.from_num.result) (coordinate_of c.args.self.now)
          (g.F.Field.num c.args.f.now c.neg-factor.result) c.args.e.now c.args.coefficients.now c.loop-k.coefficients
          c.index-coefficients-later.result c.mul-product.result c.add.result c.args.self.now.leads.rank
          c.loop-k.invariant.after c.loop-k-test.true c.requires.monomial c.requires.leading step.here c.requires.sized
          c.loop-k.invariant.adding c.index-coefficients-later.is (c.from_num.ensures.number ∙ c.from.ensures)
          c.mul-product.ensures.number c.add.ensures.value c.add.ensures.number;
    }

pub returns-clause-replaced : goal.returns-clause-replaced
returns-clause-replaced g c =
    let two = g.met.F.Field.laws.at_least_two c.args.f.now in
    let inside : c.args.i < length c.args.coefficients.now =
    omega (
      arith,
      place_below 6 c.args.self.now.rank c.args.degree c.args.e.now c.args.self.now.leads.rank
          c.requires.monomial,
      c.requires.place,
      c.requires.sized,
    ) in
    let all : c.loop-k.k ≡ c.args.self.now.rank = omega (arith, c.loop-k.invariant.within, c.loop-k-test.false) in
    term_replaced (g.F.Field.is_value c.args.f.now) (g.F.Field.num c.args.f.now) (g.F.Field.size c.args.f.now)
    c.args.self.now.rank c.args.degree c.args.self.now.leading c.loop-k.k (coordinate_of c.args.self.now)
    (g.F.Field.num c.args.f.now c.neg-factor.result) c.args.e.now c.args.coefficients.now c.loop-k.coefficients all
    (cleared_at (g.F.Field.num c.args.f.now) (g.F.Field.size c.args.f.now) c.args.self.now.rank c.args.i
    (g.F.Field.num c.args.f.now c.args.inverse) (g.F.Field.num c.args.f.now c.neg-factor.result)
    (coordinate_of c.args.self.now c.args.self.now.leading) (g.F.Field.num c.args.f.now c.mul.result)
    c.args.coefficients.now c.args.e.now c.index-coefficients-i.result two inside c.requires.place
    c.index-coefficients-i.is c.mul.ensures.number c.neg-factor.ensures.number c.requires.inverted)
    c.loop-k.invariant.adding
