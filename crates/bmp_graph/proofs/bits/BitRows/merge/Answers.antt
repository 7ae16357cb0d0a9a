use Rattle.std.proofs.Common.{◌≡◌, ◌<◌, ◌*◌, ◌+◌, length, arith, bit_or, ap₂, subst}
use Rattle.std.proofs.lemmas.Nat.{mul-add-lt}
use Rattle.std.proofs.lemmas.List.{get_or_read}
use Rattle.bmp_graph.proofs.BitLemmas.{bit_merged, IsJoined_more, IsJoined}
use Rattle.bmp_graph.proofs.bits.BitRows.merge.Goals as goal

pub loop-word-preserved : goal.loop-word-preserved
loop-word-preserved c =
    let b = c.args.self.now in
    let joined = c.loop-word.invariant.2 in
    let below : c.loop-word.word < b.words = omega arith in
    let row_within : c.args.row * b.words + c.loop-word.word < length c.loop-word.self.bits.items =
    omega (arith, joined.as_long, mul-add-lt c.args.row b.words c.loop-word.word b.size (omega arith) below) in
    let from_within : c.args.from * b.words + c.loop-word.word < length c.loop-word.self.bits.items =
    omega (arith, joined.as_long, mul-add-lt c.args.from b.words c.loop-word.word b.size (omega arith) below) in (
      c.loop-word.invariant.0,
      c.loop-word.invariant.1,
      IsJoined_more b.bits.items _ b.words c.args.row c.args.from c.loop-word.word _ joined c.requires.apart below
          row_within
          (ap₂ bit_or (get_or_read c.loop-word.self.bits.items _ _ row_within c.index_mut.ensures.value 0)
          (get_or_read c.loop-word.self.bits.items _ _ from_within c.index.ensures 0)),
    )

pub returns-clause-bits : goal.returns-clause-bits
returns-clause-bits c =
    λ x y hx hy.
    let b = c.args.self.now in
    let joined : IsJoined b.bits.items c.loop-word.self.bits.items b.words c.args.row c.args.from b.words =
    let word_is : c.loop-word.word ≡ b.words = omega arith in
    subst (λ w. IsJoined b.bits.items c.loop-word.self.bits.items b.words c.args.row c.args.from w) word_is
    c.loop-word.invariant.2 in
    rw c.loop-word.invariant.1
    (bit_merged b.bits.items c.loop-word.self.bits.items b.words c.args.row c.args.from x y joined (omega arith))
