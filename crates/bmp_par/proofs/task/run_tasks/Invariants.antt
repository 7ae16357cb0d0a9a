use Rattle.std.proofs.Common.{◌≡◌, length}
use Rattle.bmp_par.specs.Outcomes.{AllGiven}
use Rattle.bmp_par.proofs.task.run_tasks.Given as goal

abbrev pub invariant-places : goal.invariant-places
invariant-places g l = length l.places.items ≡ l.counter

abbrev pub invariant-outs : goal.invariant-outs
invariant-outs g l =
    (length l.outs.items ≡ length l.yielded) × AllGiven (g.T.Task.gives l.task) l.outs.items
