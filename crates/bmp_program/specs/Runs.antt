-- What one run of the program decides and writes. What the source has left and what the sink took may be
-- untold; that the source failed is told by its count of faults, which rose.
--   Relation                  which status and text an input may be answered with
--   Report                    a status, and the text that is to be written with it
--   Holds left input          the input is what the source has left, where that is told
--   IsReported status         the status is one that words and input decide: no fault, and no want of memory
--   Reports reports left answer
--                             the answer is a report on the input that the source has left
--   IsDecided reports left rose answer
--                             this is to be written: a report, the line of a read fault, or that of want of memory
--   WritesReport reports left before after status
--                             the status is that of a report on the input, whose text the sink took whole
--   WritesPrefix reports left rose before after P
--                             the sink took a prefix of what was to be written, whose status is as P says
use Rattle.std.specs.Prelude.{◌≡◌, ℕ, List, Option, Some, None}
use Rattle.bmp_ports.specs.Ports.{Takes, TakesPrefix}
use Rattle.bmp_program.specs.Reports.{read_fault_line, no_memory_line}
use Rattle.bmp_program.specs.declared.answer.Answer.{Answer}
use Rattle.bmp_program.specs.declared.answer.AnswerText.{AnswerText}
use Rattle.bmp_program.specs.declared.answer.AnswerText.TheVariants.{Fixed, Made}
use Rattle.bmp_program.specs.declared.status.Status.{Status}
use Rattle.bmp_program.specs.declared.status.Status.TheVariants.{ReadFault, WriteFault, NoMemory}

abbrev pub Relation : Type 1
Relation = List ℕ → Status → List ℕ → Type 0

pub record Report : Type 0 where
  pub status : Status
  pub text : List ℕ

abbrev pub Holds : Option (List ℕ) → List ℕ → Type 0
Holds None input = Unit {0}
Holds (Some left) input = left ≡ input

abbrev pub IsReported : Status → Type 0
IsReported ReadFault = ⊥
IsReported WriteFault = ⊥
IsReported NoMemory = ⊥
IsReported _ = Unit {0}

abbrev pub Reports : Relation → Option (List ℕ) → Report → Type 0
Reports reports left answer = (input : List ℕ) × Holds left input × reports input answer.status answer.text

-- by the status of the answer
abbrev pub DecidedBy : Status → Relation → Option (List ℕ) → Type 0 → Report → Type 0
DecidedBy ReadFault reports left rose answer = rose × (answer.text ≡ read_fault_line)
DecidedBy NoMemory reports left rose answer = answer.text ≡ no_memory_line
DecidedBy WriteFault reports left rose answer = ⊥
DecidedBy _ reports left rose answer = Reports reports left answer

abbrev pub IsDecided : Relation → Option (List ℕ) → Type 0 → Report → Type 0
IsDecided reports left rose answer = DecidedBy answer.status reports left rose answer

abbrev pub WritesReport : Relation → Option (List ℕ) → Option (List ℕ) → Option (List ℕ) → Status → Type 0
WritesReport reports left before after status =
    (input : List ℕ) × (text : List ℕ) × Holds left input × reports input status text × Takes before after text

abbrev pub WritesPrefix : Relation → Option (List ℕ) → Type 0
    → Option (List ℕ) → Option (List ℕ) → (Status → Type 0) → Type 0
WritesPrefix reports left rose before after P =
    (answer : Report) × IsDecided reports left rose answer × P answer.status × TakesPrefix before after answer.text

-- the answer that the code holds
abbrev pub bytes_of : AnswerText → List ℕ
bytes_of (Fixed bytes) = bytes.now
bytes_of (Made bytes) = bytes.items

abbrev pub answer_view : Answer → Report
answer_view a = record { status = a.status; text = bytes_of a.text }
