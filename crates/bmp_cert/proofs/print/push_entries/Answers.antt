use Rattle.std.proofs.Common.{pos}
use Rattle.std.specs.Fmt.{signed_decimal}
use Rattle.bmp_text.proofs.PrintingLoops.{words_on, words_end}
use Rattle.bmp_cert.proofs.print.push_entries.Goals as goal

pub entries-preserved : goal.entries-preserved
entries-preserved c =
    rw c.in_ok-push_entry.ensures
    (words_on signed_decimal (pos 0) c.entries.out.items _ c.args.row.now c.entries.entry-index c.entries-test.true
    c.entries.invariant)

pub returns : goal.returns
returns c = words_end signed_decimal c.entries.out.items _ c.args.row.now c.entries.entry-index c.entries-test.false
    c.entries.invariant
