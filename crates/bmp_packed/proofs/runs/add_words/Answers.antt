use Rattle.std.proofs.Common.{rules}
use Rattle.bmp_packed.proofs.WordLemmas.{words_added}
use Rattle.bmp_packed.proofs.runs.add_words.Goals as goal

pub returns : goal.returns
returns c = words_added c.args.from.now c.args.into.now c.loop-k.into c.loop-k.k (search rules) c.loop-k.invariant
