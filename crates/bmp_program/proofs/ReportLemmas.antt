-- Reports as answers that a run decides on.
use Rattle.std.proofs.Common.{◌≡◌, ◌<◌, ◌≤◌, ◌+◌, ℕ, List, [], ◌++◌, Option, Some, None, Bool, true, false, refl, sym, subst, ap, ◌∙◌, arith, length, codes, length-append, append-nil}
use Rattle.clap.specs.Walk.{Text}
use Rattle.bmp_ports.specs.Ports.{Passes, PassesExactly, IsAtEnd}
use Rattle.bmp_text.specs.Printing.{Chosen}
use Rattle.bmp_program.specs.CommandLine.{asked, reads_input, seed_of}
use Rattle.bmp_program.specs.Reports.{input_limit, TextReport, InputReport, SampleReport, CommandReport, IsReport}
use Rattle.bmp_program.specs.Runs.{Relation, Report, Holds, Reports, DecidedBy, IsDecided}
use Rattle.bmp_program.specs.declared.words.CommandWord.{CommandWord}
use Rattle.bmp_program.specs.declared.words.CommandWord.TheVariants.{Check, Graph, Gkm, Kl, Build, Ranks, Compare, Sample}
use Rattle.bmp_program.specs.declared.status.Status.{Status}
use Rattle.bmp_program.specs.declared.status.Status.TheVariants.{Done, Refused, BadText, BadJob, GkmFailed, ReadFault, WriteFault, NoMemory, TooLong, TableLimit, Usage}

-- all that is left came
pub whole_held : (left after : Option (List ℕ)) (input : List ℕ) → Passes left after input → IsAtEnd after →
    Holds left input
whole_held None None input passes end = tt
whole_held None (Some after) input passes end = absurd passes
whole_held (Some left) None input passes end = absurd passes
whole_held (Some left) (Some after) input passes end = passes ∙ (ap (λ t. input ++ t) end ∙ append-nil input)

abbrev too_long : Report
too_long = record { status = TooLong; text = codes "input too long\n" }

long : (command : CommandWord) (input : List ℕ) → input_limit < length input →
    InputReport command input TooLong (codes "input too long\n")
unfolding InputReport
long command input more = (more, refl)

long_reported : (command : CommandWord) (left after : Option (List ℕ)) → PassesExactly left after (input_limit + 1) →
    Reports (InputReport command) left too_long
long_reported command None None (bytes, size, passes) = (bytes, tt, long command bytes (omega (arith, size)))
long_reported command None (Some after) (bytes, size, passes) = absurd passes
long_reported command (Some left) None (bytes, size, passes) = absurd passes
long_reported command (Some left) (Some after) (bytes, size, passes) =
    (left, refl, long command left (omega (arith, size, length-append bytes after, ap length passes)))

pub long_decided : (command : CommandWord) (left after : Option (List ℕ)) (rose : Type 0) (answer : Report) →
    answer ≡ too_long → PassesExactly left after (input_limit + 1) → IsDecided (InputReport command) left rose answer
long_decided command left after rose answer is passes =
    subst (λ (r : Report). IsDecided (InputReport command) left rose r) (sym is)
    (long_reported command left after passes)

-- no command answers an input within the limit with the status of a longer one, or of a fault that no input decides
NotOfText : Status → Type 0
NotOfText s = (command : CommandWord) (input text : List ℕ) → TextReport command input s text → ⊥

not_too_long : NotOfText TooLong
unfolding NotOfText
not_too_long Check input text is = is.2
not_too_long Graph input text is = is.2
not_too_long Gkm input text is = is.2
not_too_long Kl input text is = is.2.1.2
not_too_long Build input text is = is.2
not_too_long Ranks input text is = is.2
not_too_long Compare input text is = is.2.1.2
not_too_long Sample input text is = is

not_read_fault : NotOfText ReadFault
unfolding NotOfText
not_read_fault Check input text is = is.2
not_read_fault Graph input text is = is.2
not_read_fault Gkm input text is = is.2
not_read_fault Kl input text is = is.2.1.2
not_read_fault Build input text is = is.2
not_read_fault Ranks input text is = is.2
not_read_fault Compare input text is = is.2.1.2
not_read_fault Sample input text is = is

not_write_fault : NotOfText WriteFault
unfolding NotOfText
not_write_fault Check input text is = is.2
not_write_fault Graph input text is = is.2
not_write_fault Gkm input text is = is.2
not_write_fault Kl input text is = is.2.1.2
not_write_fault Build input text is = is.2
not_write_fault Ranks input text is = is.2
not_write_fault Compare input text is = is.2.1.2
not_write_fault Sample input text is = is

not_no_memory : NotOfText NoMemory
unfolding NotOfText
not_no_memory Check input text is = is.2
not_no_memory Graph input text is = is.2
not_no_memory Gkm input text is = is.2
not_no_memory Kl input text is = is.2.1.2
not_no_memory Build input text is = is.2
not_no_memory Ranks input text is = is.2
not_no_memory Compare input text is = is.2.1.2
not_no_memory Sample input text is = is

-- what is answered to an input within the limit is decided
text_decided : (s : Status) (command : CommandWord) (left : Option (List ℕ)) (rose : Type 0) (input text : List ℕ) →
    Holds left input → length input ≤ input_limit → TextReport command input s text →
    DecidedBy s (InputReport command) left rose (record { status = s; text = text })
unfolding InputReport NotOfText
text_decided Done command left rose input text held fits is = (input, held, (fits, is))
text_decided Refused command left rose input text held fits is = (input, held, (fits, is))
text_decided BadText command left rose input text held fits is = (input, held, (fits, is))
text_decided BadJob command left rose input text held fits is = (input, held, (fits, is))
text_decided GkmFailed command left rose input text held fits is = (input, held, (fits, is))
text_decided ReadFault command left rose input text held fits is = absurd (not_read_fault command input text is)
text_decided WriteFault command left rose input text held fits is = absurd (not_write_fault command input text is)
text_decided NoMemory command left rose input text held fits is = absurd (not_no_memory command input text is)
text_decided TooLong command left rose input text held fits is = absurd (not_too_long command input text is)
text_decided TableLimit command left rose input text held fits is = (input, held, (fits, is))
text_decided Usage command left rose input text held fits is = (input, held, (fits, is))

pub report_decided : (command : CommandWord) (left : Option (List ℕ)) (rose : Type 0) (answer : Report) (input : List ℕ)
    → Holds left input → length input ≤ input_limit → TextReport command input answer.status answer.text →
    IsDecided (InputReport command) left rose answer
report_decided command left rose answer input held fits is =
    text_decided answer.status command left rose input answer.text held fits is

-- words that are no command
abbrev usage : Report
usage = record { status = Usage; text = codes "usage\n" }

usage_report : (words : List Text) (input : List ℕ) → asked words ≡ None → IsReport words input Usage (codes "usage\n")
unfolding IsReport
usage_report words input none =
    subst (λ (c : Option CommandWord). CommandReport c (seed_of words) input Usage (codes "usage\n")) (sym none)
    (refl, refl)

usage_reported : (words : List Text) (left : Option (List ℕ)) → asked words ≡ None → Reports (IsReport words) left usage
usage_reported words None none = ([], tt, usage_report words [] none)
usage_reported words (Some left) none = (left, refl, usage_report words left none)

pub usage_decided : (words : List Text) (left : Option (List ℕ)) (rose : Type 0) (answer : Report) → answer ≡ usage →
    asked words ≡ None → IsDecided (IsReport words) left rose answer
usage_decided words left rose answer is none =
    subst (λ (r : Report). IsDecided (IsReport words) left rose r) (sym is) (usage_reported words left none)

-- ---- from a command's report to that of the words

-- what is decided by one relation is decided by a wider one
decided_as : (s : Status) (narrow wide : Relation) (left : Option (List ℕ)) (rose : Type 0) (text : List ℕ) →
    ((input : List ℕ) → narrow input s text → wide input s text) →
    DecidedBy s narrow left rose (record { status = s; text = text }) →
    DecidedBy s wide left rose (record { status = s; text = text })
decided_as ReadFault narrow wide left rose text to is = is
decided_as NoMemory narrow wide left rose text to is = is
decided_as WriteFault narrow wide left rose text to is = is
decided_as Done narrow wide left rose text to is = (is.0, is.1, to is.0 is.2)
decided_as Refused narrow wide left rose text to is = (is.0, is.1, to is.0 is.2)
decided_as BadText narrow wide left rose text to is = (is.0, is.1, to is.0 is.2)
decided_as BadJob narrow wide left rose text to is = (is.0, is.1, to is.0 is.2)
decided_as GkmFailed narrow wide left rose text to is = (is.0, is.1, to is.0 is.2)
decided_as TooLong narrow wide left rose text to is = (is.0, is.1, to is.0 is.2)
decided_as TableLimit narrow wide left rose text to is = (is.0, is.1, to is.0 is.2)
decided_as Usage narrow wide left rose text to is = (is.0, is.1, to is.0 is.2)

module _ (words : List Text) (command : CommandWord) (asks : asked words ≡ Some command) where
  by_words : (input : List ℕ) (s : Status) (text : List ℕ) →
      Chosen (reads_input command) (InputReport command input s text) (SampleReport (seed_of words) s text) →
      IsReport words input s text
  unfolding IsReport
  by_words input s text is =
      subst (λ (c : Option CommandWord). CommandReport c (seed_of words) input s text) (sym asks) is

  pub input_decided : (left : Option (List ℕ)) (rose : Type 0) (answer : Report) → reads_input command ≡ true →
      IsDecided (InputReport command) left rose answer → IsDecided (IsReport words) left rose answer
  input_decided left rose answer reads is =
      decided_as answer.status (InputReport command) (IsReport words) left rose answer.text
      (λ input report. by_words input answer.status answer.text
      (subst (λ (b : Bool). Chosen b (InputReport command input answer.status answer.text)
      (SampleReport (seed_of words) answer.status answer.text)) (sym reads) report)) is

-- what a sample is answered with doesn't hang on the input
anyway : (reports : Relation) (left : Option (List ℕ)) (answer : Report) →
    ((input : List ℕ) → reports input answer.status answer.text) → Reports reports left answer
anyway reports None answer each = ([], tt, each [])
anyway reports (Some left) answer each = (left, refl, each left)

sample_by : (s : Status) (n : ℕ) (left : Option (List ℕ)) (rose : Type 0) (text : List ℕ) → SampleReport n s text →
    DecidedBy s (λ input. SampleReport n) left rose (record { status = s; text = text })
sample_by Done n left rose text is =
    anyway (λ input. SampleReport n) left (record { status = Done; text = text }) (λ input. is)
sample_by BadJob n left rose text is =
    anyway (λ input. SampleReport n) left (record { status = BadJob; text = text }) (λ input. is)
sample_by GkmFailed n left rose text is =
    anyway (λ input. SampleReport n) left (record { status = GkmFailed; text = text }) (λ input. is)
sample_by Refused n left rose text is = absurd is
sample_by BadText n left rose text is = absurd is
sample_by ReadFault n left rose text is = absurd is
sample_by WriteFault n left rose text is = absurd is
sample_by NoMemory n left rose text is = absurd is
sample_by TooLong n left rose text is = absurd is
sample_by TableLimit n left rose text is = absurd is
sample_by Usage n left rose text is = absurd is

pub sample_answered : (n : ℕ) (answer : Report) → SampleReport n answer.status answer.text →
    IsDecided (λ input. SampleReport n) None ⊥ answer
sample_answered n answer is = sample_by answer.status n None ⊥ answer.text is

-- from no source to any
from_none : (s : Status) (n : ℕ) (left : Option (List ℕ)) (rose : Type 0) (text : List ℕ) →
    DecidedBy s (λ input. SampleReport n) None ⊥ (record { status = s; text = text }) →
    DecidedBy s (λ input. SampleReport n) left rose (record { status = s; text = text })
from_none ReadFault n left rose text is = absurd is.0
from_none WriteFault n left rose text is = absurd is
from_none NoMemory n left rose text is = is
from_none Done n left rose text is = sample_by Done n left rose text is.2
from_none BadJob n left rose text is = sample_by BadJob n left rose text is.2
from_none GkmFailed n left rose text is = sample_by GkmFailed n left rose text is.2
from_none Refused n left rose text is = sample_by Refused n left rose text is.2
from_none BadText n left rose text is = sample_by BadText n left rose text is.2
from_none TooLong n left rose text is = sample_by TooLong n left rose text is.2
from_none TableLimit n left rose text is = sample_by TableLimit n left rose text is.2
from_none Usage n left rose text is = sample_by Usage n left rose text is.2

pub sample_decided : (words : List Text) (command : CommandWord) → asked words ≡ Some command →
    (n : ℕ) (left : Option (List ℕ)) (rose : Type 0) (answer : Report) →
    reads_input command ≡ false → n ≡ seed_of words →
    IsDecided (λ input. SampleReport n) None ⊥ answer → IsDecided (IsReport words) left rose answer
sample_decided words command asks n left rose answer reads seed is =
    decided_as answer.status (λ input. SampleReport n) (IsReport words) left rose answer.text
    (λ input report. by_words words command asks input answer.status answer.text
    (subst (λ (b : Bool). Chosen b (InputReport command input answer.status answer.text)
    (SampleReport (seed_of words) answer.status answer.text)) (sym reads)
    (subst (λ (k : ℕ). SampleReport k answer.status answer.text) seed report)))
    (from_none answer.status n left rose answer.text is)

-- the command that reads nothing
pub reads_nothing : (command : CommandWord) → reads_input command ≡ false → command ≡ Sample
reads_nothing Sample none = refl
reads_nothing Check none = cc
reads_nothing Graph none = cc
reads_nothing Gkm none = cc
reads_nothing Kl none = cc
reads_nothing Build none = cc
reads_nothing Ranks none = cc
reads_nothing Compare none = cc
