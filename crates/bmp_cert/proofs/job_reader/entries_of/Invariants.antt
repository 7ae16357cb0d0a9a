use Rattle.std.proofs.Common.{◌≡◌, ◌-◌, []}
use Rattle.bmp_cert.specs.JobGrammar.{entries}
use Rattle.bmp_text.specs.Readers.{onto, list_with}
use Rattle.bmp_cert.proofs.job_reader.entries_of.Given as goal

abbrev pub invariant-entries : goal.invariant-entries
invariant-entries l =
    onto list_with l.row.items (entries (l.count - l.counter) l.line)
    ≡ onto list_with [] (entries l.count l.initial.line)
