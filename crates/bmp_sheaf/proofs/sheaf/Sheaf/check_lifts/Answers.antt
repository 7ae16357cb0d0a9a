use Rattle.std.proofs.Common.{◌≡◌, true, false, inr}
use Rattle.bmp_sheaf.specs.StalkFaults.{lift_room}
use Rattle.bmp_sheaf.proofs.RuleLemmas.{read_fits}
use Rattle.bmp_sheaf.proofs.sheaf.Sheaf.check_lifts.Goals as goal

pub returns-then-not-fits-clause-fault : goal.returns-then-not-fits-clause-fault
returns-then-not-fits-clause-fault g c = (
  c.requires.rising,
  c.requires.bound,
  inr (
    c.requires.counted,
    record {
      below = c.loop-i-test.true;
      broken = λ fits.
          let none : false ≡ true =
          c.if-not-fits.ensures.1
          (read_fits c.args.lifts.now c.loop-i.i c.lift_room-room.result
          (lift_room c.args.self.now c.args.x c.args.degrees.now c.loop-i.i) c.index-lifts-i.result
          c.loop-i-test.true c.index-lifts-i.is c.lift_room-room.ensures fits) in
          cc;
      earlier = c.loop-i.invariant;
    },
  ),
)
