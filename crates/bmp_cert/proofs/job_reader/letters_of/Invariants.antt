use Rattle.std.proofs.Common.{◌≡◌, ◌-◌, []}
use Rattle.bmp_cert.specs.JobGrammar.{letter_list}
use Rattle.bmp_text.specs.Readers.{onto, list_with}
use Rattle.bmp_cert.proofs.job_reader.letters_of.Given as goal

abbrev pub invariant-letters : goal.invariant-letters
invariant-letters l =
    onto list_with l.letters (letter_list (l.count - l.counter) l.line)
    ≡ onto list_with [] (letter_list l.count l.initial.line)
