use Rattle.std.proofs.Common.{arith, rules, ◌≡◌, ◌-◌, ◌≤◌, ◌<◌, ◌∙◌, sym, ap, refl, length, get_or, List, ℕ, ◌%◌}
use Rattle.std.proofs.lemmas.List.Elements.{All-get_or}
use Rattle.bmp_poly.specs.Exponents.{IsMonomial, count, exponents, place}
use Rattle.bmp_poly.proofs.CoefficientLemmas.{coefficient_read}
use Rattle.bmp_poly.specs.Coefficients.{coefficient, form}
use Rattle.bmp_graded.specs.NormalForms.{normal_by}
use Rattle.bmp_graded.specs.Quotients.{insert}
use Rattle.bmp_graded.proofs.PureLemmas.{without_monomial}
use Rattle.bmp_graded.proofs.PassLaws.{normal_value}
use Rattle.bmp_module.proofs.Appending.{appended_none, appended_more, appended_as}
use Rattle.bmp_module.proofs.normal.push_normal.Goals as goal

-- the monomial by the names of the code
pure_is : (r r' l l' d i : ℕ) (e : List ℕ) → r' ≡ r → l' ≡ l → l < r → r ≤ 6 → i < count (r' - 1) d →
    e ≡ insert l' (exponents 5 (r' - 1) d i) → (IsMonomial 6 r d e) × (e ≡ insert l (exponents 5 (r - 1) d i))
pure_is r r' l l' d i e ranks leadings here wide inside e_is =
    let below : i < count (r - 1) d = rw ranks at inside in
    let at : e ≡ insert l (exponents 5 (r - 1) d i) = rw (ranks, leadings) at e_is in
    (rw at (without_monomial r l d i here wide below), at)

pub loop-i-init : goal.loop-i-init
loop-i-init g c =
    appended_none (g.F.Field.is_value c.args.f.now) (g.F.Field.num c.args.f.now) c.args.numbers.now.items _
    c.requires.numbers

pub place_of-requires-clause-monomial : goal.place_of-requires-clause-monomial
place_of-requires-clause-monomial g c =
    let at : c.leading-leading.result - 1 ≡ c.args.label.now.leading =
    omega (arith, c.leading-leading.ensures.leading) in
    let inside : c.loop-i.i < count (c.rank-rank.result - 1) c.args.degree =
    omega (arith, c.loop-i-test.true, c.count-i-end.ensures.number) in
    rw c.rank-rank.ensures
    ((pure_is c.args.label.now.rank c.rank-rank.result c.args.label.now.leading _ c.args.degree c.loop-i.i
    c.monomial_without-e.result c.rank-rank.ensures at c.args.label.now.leads.here c.args.label.now.leads.rank
    inside c.monomial_without-e.ensures).0)

pub loop-i-preserved : goal.loop-i-preserved
loop-i-preserved g c =
    let num = g.F.Field.num c.args.f.now in
    let at : c.leading-leading.result - 1 ≡ c.args.label.now.leading =
    omega (arith, c.leading-leading.ensures.leading) in
    let inside : c.loop-i.i < count (c.rank-rank.result - 1) c.args.degree =
    omega (arith, c.loop-i-test.true, c.count-i-end.ensures.number) in
    let pure = pure_is c.args.label.now.rank c.rank-rank.result c.args.label.now.leading _ c.args.degree c.loop-i.i
    c.monomial_without-e.result c.rank-rank.ensures at c.args.label.now.leads.here c.args.label.now.leads.rank
    inside c.monomial_without-e.ensures in
    let below : c.place_of.result < length c.reduce_coefficients.new.coefficients = search rules in
    let read = All-get_or (g.F.Field.is_value c.args.f.now) c.reduce_coefficients.new.coefficients c.place_of.result
    c.index-coefficients-place_of.result below c.reduce_coefficients.ensures.values in
    let value : g.F.Field.is_value c.args.f.now c.index-coefficients-place_of.result =
    rw (← c.index-coefficients-place_of.is) at read in
    let place_is : c.place_of.result ≡ place c.args.label.now.rank c.monomial_without-e.result =
    c.place_of.ensures.place ∙ ap (λ z. place z c.monomial_without-e.result) c.rank-rank.ensures in
    rw c.in_ok-push.ensures.items
    (appended_more (g.F.Field.is_value c.args.f.now) (g.F.Field.num c.args.f.now) c.args.numbers.now.items
    c.loop-i.numbers.items c.loop-i.i _ c.index-coefficients-place_of.result c.loop-i.invariant value
    (normal_value (g.F.Field.size c.args.f.now) c.args.label.now.prime c.args.label.now.rank c.args.label.now.leading
    c.args.label.now.coords c.args.degree _ _ c.monomial_without-e.result
    (g.F.Field.num c.args.f.now c.index-coefficients-place_of.result) c.requires.prime
    (g.met.F.Field.laws.at_least_two c.args.f.now) (g.met.F.Field.laws.inverse c.args.f.now) c.args.label.now.leads
    c.reduce_coefficients.ensures.normal pure.0
    (sym (coefficient_read (g.F.Field.num c.args.f.now) c.reduce_coefficients.new.coefficients c.place_of.result
    c.index-coefficients-place_of.result below c.index-coefficients-place_of.is)
    ∙ ap (coefficient (g.F.Field.num c.args.f.now) c.reduce_coefficients.new.coefficients) place_is)
    (g.met.F.Field.laws.below_size c.args.f.now c.index-coefficients-place_of.result value)
    ∙ ap (λ e. normal_by c.args.label.now.prime c.args.label.now.rank c.args.label.now.leading
    (λ k. get_or c.args.label.now.coords k 0) c.args.degree
    (form (g.F.Field.num c.args.f.now) c.args.label.now.rank c.args.coefficients.now) e
    % g.F.Field.size c.args.f.now) pure.1))

pub returns : goal.returns
returns g c =
    let last : c.loop-i.i ≡ c.count-i-end.result = omega (arith, c.loop-i.auto.i-end, c.loop-i-test.false) in
    let all : c.loop-i.i ≡ count (c.args.label.now.rank - 1) c.args.degree = last ∙ c.count-i-end.ensures.number
    ∙ ap (λ r. count (r - 1) c.args.degree) c.rank-rank.ensures in
    appended_as (g.F.Field.is_value c.args.f.now) (g.F.Field.num c.args.f.now) c.args.numbers.now.items
    c.loop-i.numbers.items c.loop-i.i (count (c.args.label.now.rank - 1) c.args.degree) _ _ all (λ j l. refl)
    c.loop-i.invariant
