use Rattle.std.proofs.Common.{arith}
use Rattle.bmp_check.proofs.AheadLemmas.{count, same_ends, longer, adopted, fewer_bring}
use Rattle.bmp_check.proofs.stalk_tasks.add_length.Goals as goal

pub adopt-requires-clause-above : goal.adopt-requires-clause-above
adopt-requires-clause-above g c =
    let h = c.made.invariant in
    same_ends h.so_far h.bring c.pop.new.self.items c.in-Some.one c.in-Some.ensures.items c.requires.count
    c.requires.checkable.on.graph

pub made-preserved : goal.made-preserved
made-preserved g c =
    let h = c.made.invariant in
    let rest = c.pop.new.self.items in
    let popped = c.in-Some.ensures.items in
    let taken = c.in_ok-adopt.ensures.ok in
    record {
      so_far = adopted h.so_far h.bring rest c.in-Some.one popped taken c.requires.count;
      bring = fewer_bring h.so_far h.bring rest c.in-Some.one popped taken;
      more = let more = h.more in omega (
        arith,
        more,
        longer h.so_far h.bring rest c.in-Some.one popped taken,
        count h.so_far h.bring rest c.in-Some.one popped,
      );
    }
