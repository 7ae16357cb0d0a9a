use Rattle.bmp_packed.proofs.WordLemmas.{IsMadeBelow, xored}
use Rattle.bmp_packed.proofs.runs.add_words.Given as goal

-- the words so far are sums
abbrev pub invariant-loop-k : goal.invariant-loop-k
invariant-loop-k l = IsMadeBelow (xored l.fn.into l.from) l.k l.fn.into l.into
