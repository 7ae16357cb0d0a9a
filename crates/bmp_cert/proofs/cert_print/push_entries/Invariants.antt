use Rattle.std.proofs.Common.{◌≡◌, ◌++◌, drop}
use Rattle.bmp_cert.proofs.CertPrinting.{entries_text}
use Rattle.bmp_cert.proofs.cert_print.push_entries.Given as goal

abbrev pub invariant-entries : goal.invariant-entries
invariant-entries l =
    l.out.items ++ entries_text (drop l.entry-index l.entries) ≡ l.initial.out.items ++ entries_text l.entries
