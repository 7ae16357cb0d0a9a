use Rattle.std.proofs.Common.{◌≡◌, ◌+◌, length, take}
use Rattle.bmp_sections.proofs.RunLemmas.{IsRunAdded}
use Rattle.bmp_sections.proofs.runs.add_run.Given as goal

-- the entries so far are added
abbrev pub invariant-loop-entry : goal.invariant-loop-entry
invariant-loop-entry g l = record {
  added : IsRunAdded (g.F.Field.size l.f) (g.F.Field.num l.f l.factor) (take (l.first + l.entry-index) l.entries)
      l.start l.len l.fn.s.second l.s.second;
  first : l.s.first ≡ l.fn.s.first;
  room : length l.s.second ≡ length l.fn.s.second;
}
