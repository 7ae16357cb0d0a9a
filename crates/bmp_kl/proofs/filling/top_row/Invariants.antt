use Rattle.std.proofs.Common.{ℕ, ℤ, List, pos}
use Rattle.bmp_kl.specs.Filled.{top_value}
use Rattle.bmp_kl.proofs.CopyLemmas.{IsCopied}
use Rattle.bmp_kl.proofs.filling.top_row.Given as goal

abbrev pub tops_of : ℕ → List ℤ → ℕ → ℕ → ℤ
tops_of count sums x a = top_value count sums x (pos a)

abbrev pub invariant-loop-a : goal.invariant-loop-a
invariant-loop-a l = IsCopied 0 l.a (tops_of l.count l.sums l.x) l.fn.tops l.tops
