use Rattle.std.proofs.Common.{◌≡◌, ℕ, ◌%◌, ◌<◌, length, take, get_or}
use Rattle.bmp_linear.proofs.EntrySums.{entry_sum}
use Rattle.bmp_cover.proofs.compare.combine_values.Given as goal

-- zeros are written
abbrev pub invariant-loop-c : goal.invariant-loop-c
invariant-loop-c g l = record {
  zeros : (k : ℕ) → k < l.c → get_or l.s.second k 0 ≡ 0;
  first : l.s.first ≡ l.fn.s.first;
  room : length l.s.second ≡ length l.fn.s.second;
}

-- the values of the tuples so far are combined
abbrev pub invariant-loop-factor : goal.invariant-loop-factor
invariant-loop-factor g l = record {
  combined :
      (c : ℕ) → c < (g.T.Sections.list l.tuples).size l.y →
      get_or l.s.second c 0 ≡ entry_sum (take l.factor-index l.factors)
      (λ j. (g.T.Sections.list l.tuples).value j l.y c) % g.F.Field.size l.f;
  first : l.s.first ≡ l.fn.s.first;
  room : length l.s.second ≡ length l.fn.s.second;
}
