use Rattle.std.proofs.Common.{◌<◌, ◌/◌, ◌*◌, ◌+◌, length, arith}
use Rattle.std.proofs.lemmas.Nat.{mul-add-lt}
use Rattle.std.proofs.lemmas.List.{get_or_read}
use Rattle.bmp_graph.proofs.BitLemmas.{bit_set}
use Rattle.bmp_graph.proofs.bits.BitRows.insert.Goals as goal

pub returns-clause-bits : goal.returns-clause-bits
returns-clause-bits c =
    λ x y hx hy.
    let b = c.args.self.now in
    let of_row : c.args.column / 64 < b.words = omega arith in
    let within : c.args.row * b.words + c.args.column / 64 < length b.bits.items =
    omega (arith, mul-add-lt c.args.row b.words (c.args.column / 64) b.size (omega arith) of_row) in
    bit_set b.bits.items b.words c.args.row c.args.column x y of_row (omega arith) c.index_mut.result.now within
    (get_or_read b.bits.items _ _ within c.index_mut.ensures.value 0)
