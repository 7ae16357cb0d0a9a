use Rattle.std.proofs.Common.{◌≡◌, ◌*◌, ◌%◌, ◌≤◌, arith, get_or, refl, ap, sym, ◌∙◌, rules}
use Rattle.std.proofs.Math.Nat.{mod-eq_of_lt}
use Rattle.bmp_elim.specs.Triangles.{square_of}
use Rattle.bmp_elim.proofs.GrowthLemmas.{ArePushed, pivot_pushed, multiplied_below}
use Rattle.bmp_elim.proofs.growing.push_pivot.Goals as goal

pub returns-clause-pushed : goal.returns-clause-pushed
returns-clause-pushed g c =
    let p = g.F.Field.size c.args.f.now in
    let factor = g.F.Field.num c.args.f.now c.inv-c.result in
    let two : 2 ≤ p = g.met.F.Field.laws.at_least_two c.args.f.now in
    let at : g.F.Field.num c.args.f.now c.from_num.result ≡ get_or c.args.numbers.now c.args.pivot 0 = search rules in
    let pushed : ArePushed p c.args.pivot factor c.size.result c.args.numbers.now c.args.factors.now
    c.multiply.new.numbers c.multiply-2.new.numbers (g.A.Rows.matrix c.args.basis.rows)
    (square_of c.args.basis.trace) (g.A.Rows.matrix c.push_numbers.new.self)
    (square_of c.push.new.self) = record {
      height = c.size.ensures;
      square = refl;
      width = c.requires.width;
      trace_width = c.requires.trace_width;
      inverse = ap (λ x. (x * factor) % p) (sym at) ∙ c.inv-c.ensures.number ∙ sym (mod-eq_of_lt two);
      multiplied = c.multiply.ensures;
      trace_multiplied = c.multiply-2.ensures;
      row = c.in_ok-push_numbers.ensures.ok;
      trace_row = c.in_ok-push.ensures.ok;
      numbers = c.in_ok-push_numbers.ensures.numbers c.requires.row_numbers;
      trace_numbers = c.in_ok-push.ensures.numbers p (multiplied_below (omega arith) c.multiply-2.ensures)
          c.requires.trace_numbers;
    } in
    pivot_pushed pushed
