use Rattle.std.proofs.Common.{◌≡◌, ◌-◌, ◌<◌, ◌^◌, []}
use Rattle.bmp_text.specs.Readers.{onto, list_with, chain}
use Rattle.bmp_cert.specs.VectorGrammar.{entry, behind_place}
use Rattle.bmp_linear.specs.SparseVectors.{FitsBelow}
use Rattle.bmp_cert.proofs.vector.entries_of.Given as goal

abbrev pub invariant-entries : goal.invariant-entries
invariant-entries l = ((l.next < 2 ^ 33) × FitsBelow l.entries l.next) ×
    (onto list_with l.entries (chain (entry l.most) behind_place (l.count - l.counter) l.next l.line)
    ≡ onto list_with [] (chain (entry l.most) behind_place l.count 0 l.initial.line))
