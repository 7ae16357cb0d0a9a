use Rattle.std.proofs.Common.{arith, ◌≡◌, ◌≤◌, ◌<◌, ◌-◌, ◌+◌, get_or, drop, ℕ, List}
use Rattle.bmp_poly.specs.Exponents.{place, IsMonomial}
use Rattle.bmp_poly.proofs.Scanning.{passed, Passed, count_small, place_end}
use Rattle.bmp_poly.proofs.PlaceLemmas.{place_below}
use Rattle.bmp_poly.proofs.monomials.place_of.Goals as goal

-- with the loop's own spelling of the variables that are left, and the exponent as it is read
step : (r k rest acc total degree x : ℕ) (m : List ℕ) → r ≤ 6 → k < r → IsMonomial 6 r degree m → x ≡ get_or m k 0 →
    IsMonomial (6 - k) (r - k) rest (drop k m) → total ≡ acc + place (r - k) (drop k m) →
    Passed (6 - (k + 1)) ((r - 1) - k) rest acc total x (drop (k + 1) m)
step r k rest acc total degree x m small below is read left e = let spelled : (r - 1) - k ≡ r - (k + 1) = omega arith in
    rw (read, spelled) (passed 6 r k rest acc total m below (omega arith) is.long left e)

pub before-before_it-requires-clause-degree : goal.before-before_it-requires-clause-degree
before-before_it-requires-clause-degree c = omega (arith, c.loop-k.invariant.small)

pub overflow_sub-rest : goal.overflow_sub-rest
overflow_sub-rest c =
    (step _ _ _ _ _ _ _ _ c.requires.rank c.loop-k-test.true c.requires.monomial c.from-rest.ensures
    c.loop-k.invariant.left c.loop-k.invariant.total).le

pub overflow_add-before_it : goal.overflow_add-before_it
overflow_add-before_it c =
    let p = step _ _ _ _ _ _ _ _ c.requires.rank c.loop-k-test.true c.requires.monomial c.from-rest.ensures
    c.loop-k.invariant.left c.loop-k.invariant.total in
    omega (
      arith,
      p.total_is,
      c.before-before_it.ensures,
      place_below 6 c.args.rank c.args.degree c.args.m.now c.requires.rank c.requires.monomial,
      count_small c.args.rank c.args.degree c.requires.rank c.requires.degree,
    )

pub loop-k-preserved : goal.loop-k-preserved
loop-k-preserved c =
    let p = step _ _ _ _ _ _ _ _ c.requires.rank c.loop-k-test.true c.requires.monomial c.from-rest.ensures
    c.loop-k.invariant.left c.loop-k.invariant.total in
    let spelled : (c.args.rank - 1) - c.loop-k.k ≡ c.args.rank - (c.loop-k.k + 1) = omega arith in
    record {
      left = rw (← spelled) p.monomial;
      total = rw (c.before-before_it.ensures, ← spelled) p.total_is;
      small = omega (arith, c.loop-k.invariant.small);
    }

pub returns : goal.returns
returns c =
    let none : c.args.rank - c.loop-k.k ≡ 0 = omega arith in
    let place_is = place_end c.args.rank c.loop-k.k _ _ _ none c.loop-k.invariant.total in
    record {
      place = place_is;
      below = omega (
        arith,
        place_is,
        place_below 6 c.args.rank c.args.degree c.args.m.now c.requires.rank c.requires.monomial,
      );
    }
