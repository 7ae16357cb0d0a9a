use Rattle.std.proofs.Common.{◌≡◌}
use Rattle.bmp_graph.proofs.BitLemmas.{IsJoined}
use Rattle.bmp_graph.proofs.bits.BitRows.merge.Given as goal

-- the words so far are joined
abbrev pub invariant-loop-word : goal.invariant-loop-word
invariant-loop-word l =
    (l.self.size ≡ l.fn.self.size) × (l.self.words ≡ l.fn.self.words)
    × IsJoined l.fn.self.bits.items l.self.bits.items l.fn.self.words l.row l.from l.word
