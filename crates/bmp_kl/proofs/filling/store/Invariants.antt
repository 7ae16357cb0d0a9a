use Rattle.std.proofs.Common.{◌+◌, ◌*◌, ℕ, ℤ, List, pos, get_or}
use Rattle.bmp_kl.proofs.CopyLemmas.{IsCopied}
use Rattle.bmp_kl.proofs.filling.store.Given as goal

abbrev pub shifted : List ℤ → ℕ → ℤ
shifted row i = get_or row (i + 36) (pos 0)

abbrev pub invariant-loop-i : goal.invariant-loop-i
invariant-loop-i l = IsCopied (l.x * 73) l.i (shifted l.row) l.fn.sums l.sums
