use Rattle.std.proofs.Common.{arith, ◌≡◌, ◌+◌, ap, length, ◌∙◌}
use Rattle.bmp_module.proofs.Appending.{appended_zero}
use Rattle.bmp_module.proofs.coordinates.Coordinates.zero.Goals as goal

pub push_zeros-requires : goal.push_zeros-requires
push_zeros-requires g c = rw c.new-numbers.ensures.items (λ k d h. absurd (omega arith))

pub returns-clause-sized : goal.returns-clause-sized
returns-clause-sized g c =
    c.in_ok-push_zeros.ensures.sized ∙ ap (λ xs. length xs + c.args.len) c.new-numbers.ensures.items ∙ omega arith

pub returns-clause-zero : goal.returns-clause-zero
returns-clause-zero g c =
    appended_zero (g.F.Field.is_value c.args.f.now) (g.F.Field.num c.args.f.now) c.push_zeros.new.numbers.items
    c.args.len (rw c.new-numbers.ensures.items at c.in_ok-push_zeros.ensures)
