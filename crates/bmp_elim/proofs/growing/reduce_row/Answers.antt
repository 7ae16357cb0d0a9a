use Rattle.std.proofs.Common.{◌≡◌, ◌+◌, ◌%◌, ◌<◌, ◌≤◌, length, get_or, ap, sym, ◌∙◌, rules, arith}
use Rattle.bmp_elim.proofs.GrowthLemmas.{remainder_start, remainder_same, remainder_more}
use Rattle.bmp_elim.proofs.growing.reduce_row.Goals as goal
use Rattle.bmp_elim.proofs.growing.reduce_row.Goals.{then-num-ne0, else-num-ne0}

pub loop-k-init : goal.loop-k-init
loop-k-init g c =
    let two : 2 ≤ g.F.Field.size c.args.f.now = g.met.F.Field.laws.at_least_two c.args.f.now in
    remainder_start c.requires.row (omega arith) c.requires.factors c.requires.factors_room

-- the row is 0 at the pivot, or becomes it
pub loop-k-preserved : goal.loop-k-preserved
loop-k-preserved g c =
    let p = g.F.Field.size c.args.f.now in
    let two : 2 ≤ p = g.met.F.Field.laws.at_least_two c.args.f.now in
    let within : c.loop-k.k < length c.args.pivots.now = omega (arith, c.len-k-end.ensures, c.loop-k-test.true) in
    let at : g.F.Field.num c.args.f.now c.from_num-number.result ≡ get_or c.loop-k.numbers (get_or c.args.pivots.now
    c.loop-k.k 0) 0 = search rules in
    elim c.if-num-ne0.branch [
      | then-num-ne0 w ↦
          rw (w.numbers-is, w.factors-is)
          (remainder_more c.requires.leading c.loop-k.invariant within (g.F.Field.num c.args.f.now w.neg-c.result) _ _
          (omega arith) (ap (λ x. (x + g.F.Field.num c.args.f.now w.neg-c.result) % p) (sym at)
          ∙ w.neg-c.ensures.number)
          w.add_row_to.ensures w.add_row_to-then-num-ne0.ensures)
      | else-num-ne0 w ↦
          rw (w.numbers-is, w.factors-is)
          (remainder_same c.requires.leading c.loop-k.invariant within (sym at ∙ sym c.num.ensures
          ∙ w.if-num-ne0.false))
    ]
