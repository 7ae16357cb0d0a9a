use Rattle.std.proofs.Common.{◌≡◌, ℕ, ◌<◌, length}
use Rattle.std.specs.Prelude.{slice_index}
use Rattle.bmp_stalk.proofs.growth.value_of.Given as goal

-- the coordinates that were written
abbrev pub invariant-loop-c : goal.invariant-loop-c
invariant-loop-c g l = record {
  sized : length l.numbers ≡ length l.fn.numbers;
  values : (c : ℕ) → c < l.c → slice_index l.numbers c ≡ (g.T.Sections.list l.tuples).value l.j l.y c;
}
