use Rattle.std.proofs.Common.{rules}
use Rattle.bmp_packed.proofs.WordLemmas.{entry_written}
use Rattle.bmp_packed.proofs.row_words.write_entries.Goals as goal

pub loop-entry-preserved : goal.loop-entry-preserved
loop-entry-preserved c =
    let v = c.args.entries.now in
    let i = c.loop-entry.entry-index in
    let l = c.loop-entry-test.true in
    entry_written v i _ c.args.words.now c.loop-entry.words c.with_bit.result c.requires.sparse.rising l
    (c.requires.fits i _ l) (c.requires.values i _ l) (c.requires.sparse.not_zero i _ l) c.loop-entry.invariant
    (search rules)
