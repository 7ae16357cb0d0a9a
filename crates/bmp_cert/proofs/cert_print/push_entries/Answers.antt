use Rattle.bmp_cert.proofs.CertPrinting.{entries_on, entries_end}
use Rattle.bmp_cert.proofs.cert_print.push_entries.Goals as goal

pub entries-preserved : goal.entries-preserved
entries-preserved c =
    rw (c.in_ok-push_number-2.ensures.ok, c.in_ok-push_number.ensures.ok, c.from.ensures, c.from-in-entries.ensures)
    (entries_on c.entries.out.items _ c.args.entries.now c.entries.entry-index (record { place = 0; value = 0 })
    c.entries-test.true c.entries.invariant)

pub returns : goal.returns
returns c = entries_end c.entries.out.items _ c.args.entries.now c.entries.entry-index c.entries-test.false
    c.entries.invariant
