use Rattle.std.proofs.Common.{arith, ◌≡◌, refl, ◌≤◌, ◌<◌, ◌-◌, ◌+◌, ℕ, List}
use Rattle.bmp_poly.specs.Exponents.{count, level, zeros, exponents}
use Rattle.bmp_poly.proofs.PlaceLemmas.{StandsAt, exponents_stand}
use Rattle.bmp_poly.proofs.Scanning.{Unfolded, Unfolding, unfolded, unfolded_start, unfolded_end}
use Rattle.bmp_poly.proofs.monomials.monomial_at.Goals as goal

-- with the loop's own spelling of the variables that are left
step : (r d i k rest later j : ℕ) (m : List ℕ) → r ≤ 6 → k < r → Unfolded 6 r d i m k rest later →
    j ≡ level (count ((r - 1) - k)) later rest → Unfolding 6 r d i m k rest later j
step r d i k rest later j m small below u e = let spelled : (r - 1) - k ≡ r - (k + 1) = omega arith in
    unfolded 6 r d i k rest later j m below (omega arith) u (rw spelled at e)

pub loop-k-init : goal.loop-k-init
unfolding zeros
loop-k-init c = unfolded_start 6 c.args.rank c.args.degree c.args.i _ refl c.requires.place

pub overflow_sub-m : goal.overflow_sub-m
overflow_sub-m c = (step _ _ _ _ _ _ _ _ c.requires.rank c.loop-k-test.true c.loop-k.invariant c.level-next.ensures).le

pub before-later-requires-clause-degree : goal.before-later-requires-clause-degree
before-later-requires-clause-degree c =
    omega (
      arith,
      (step _ _ _ _ _ _ _ _ c.requires.rank c.loop-k-test.true c.loop-k.invariant c.level-next.ensures).le,
      c.loop-k.invariant.small,
    )

pub overflow_sub-later : goal.overflow_sub-later
overflow_sub-later c =
    let spelled : (c.args.rank - 1) - c.loop-k.k ≡ c.args.rank - (c.loop-k.k + 1) = omega arith in
    rw (c.before-later.ensures, spelled)
    (step _ _ _ _ _ _ _ _ c.requires.rank c.loop-k-test.true c.loop-k.invariant c.level-next.ensures).from

pub loop-k-preserved : goal.loop-k-preserved
loop-k-preserved c =
    let spelled : (c.args.rank - 1) - c.loop-k.k ≡ c.args.rank - (c.loop-k.k + 1) = omega arith in
    rw (c.before-later.ensures, spelled)
    (step _ _ _ _ _ _ _ _ c.requires.rank c.loop-k-test.true c.loop-k.invariant c.level-next.ensures).next

pub returns : goal.returns
returns c =
    let is = unfolded_end 6 c.args.rank c.args.degree c.args.i _ _ _ c.loop-k.k c.loop-k-test.false
    c.loop-k.invariant in
    let stands : StandsAt 6 c.args.rank c.args.degree c.args.i (exponents 6 c.args.rank c.args.degree c.args.i) =
    exponents_stand 6 c.args.rank c.args.degree c.args.i c.requires.rank c.requires.place in
    record { exponents = is; monomial = rw is stands.monomial; place = rw is stands.place_is }
