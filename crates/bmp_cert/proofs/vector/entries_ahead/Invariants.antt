use Rattle.std.proofs.Common.{◌≡◌, ◌<◌, ◌^◌, length}
use Rattle.bmp_text.proofs.AheadLemmas.{HaveRead}
use Rattle.bmp_cert.specs.VectorGrammar.{entry_text, IsEntry, behind_place}
use Rattle.bmp_linear.specs.SparseVectors.{FitsBelow}
use Rattle.bmp_cert.proofs.vector.entries_ahead.Given as goal

abbrev pub invariant-entries : goal.invariant-entries
invariant-entries l = record {
  small : l.next < 2 ^ 33;
  behind : FitsBelow l.entries l.next;
  count : length l.entries ≡ l.counter;
  read : HaveRead entry_text (IsEntry l.most) behind_place 0 l.entries l.next l.initial.ahead l.ahead;
}
