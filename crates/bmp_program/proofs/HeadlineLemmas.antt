-- From the report of `check` with status 0 to what it says.
use Rattle.std.proofs.Common.{◌≡◌, ℕ, List, Option, Some, None, sym, subst, ◌∙◌}
use Rattle.clap.specs.Walk.{Text}
use Rattle.bmp_ports.specs.Ports.{Takes}
use Rattle.bmp_graph.specs.Graph.{Graph}
use Rattle.bmp_text.proofs.Pairs.{whole_same}
use Rattle.bmp_cert.proofs.CertPairs.{cert_pair}
use Rattle.bmp_cert.specs.declared.cert.Cert.{Cert}
use Rattle.bmp_cert.specs.CertGrammar.{cert, cert_text, IsWellFormed}
use Rattle.bmp_cert.specs.Counts.{written_by}
use Rattle.bmp_check.specs.Accepted.{IsAccepted}
use Rattle.bmp_check.proofs.AcceptedLemmas.{accepted_is_checkable}
use Rattle.bmp_check.proofs.Soundness.{passed_is_braden_macpherson, passed_generators_are_bounded, passed_counts_are_dimensions}
use Rattle.bmp_report.specs.RankLines.{cert_rank_lines}
use Rattle.bmp_program.specs.CommandLine.{asked, seed_of}
use Rattle.bmp_program.specs.Reports.{IsCertOf, InputReport, CommandReport, IsReport}
use Rattle.bmp_program.specs.Runs.{Report, Holds, Reports, DecidedBy, IsDecided}
use Rattle.bmp_program.specs.Headline.{Certifies, IsCertified}
use Rattle.bmp_program.specs.Passed.{HasPassed}
use Rattle.bmp_program.specs.declared.words.CommandWord.{CommandWord}
use Rattle.bmp_program.specs.declared.words.CommandWord.TheVariants.{Check}
use Rattle.bmp_program.specs.declared.status.Status.{Status}
use Rattle.bmp_program.specs.declared.status.Status.TheVariants.{Done}

-- the certificate of a report with status 0
abbrev Certified : List ℕ → List ℕ → Type 0
Certified input text = (c : Cert) × ((G : Graph) × Certifies c G input × (text ≡ cert_rank_lines c))

certified : (input text : List ℕ) → InputReport Check input Done text → Certified input text
unfolding InputReport
certified input text (fits, found) =
    let c = found.0 in let report = found.2 in let G = report.1.0 in
    let accepted : IsAccepted G c = record { formed = found.1.0; rules = report.0; graph = report.1.1 } in
    let checkable = accepted_is_checkable G c accepted in (
      c,
      (
        G,
        record {
          well_formed = found.1.0;
          is_text = found.1.1;
          only = λ d formed of_d. whole_same cert cert_text IsWellFormed cert_pair d c formed found.1.0
              (sym of_d ∙ found.1.1);
          version = checkable.version;
          rules = report.0;
          graph = report.1.1;
          sheaf = passed_is_braden_macpherson G c.version (written_by c) checkable report.1.2;
          bounded = passed_generators_are_bounded G c.version (written_by c) checkable report.1.2;
          dimensions = passed_counts_are_dimensions G c.version (written_by c) checkable report.1.2;
        },
        report.1.3,
      ),
    )

check_report : (words : List Text) (input text : List ℕ) (status : Status) → asked words ≡ Some Check → status ≡ Done →
    IsReport words input status text → InputReport Check input Done text
unfolding IsReport
check_report words input text status asks done report =
    let by_command : CommandReport (Some Check) (seed_of words) input status text =
    subst (λ (command : Option CommandWord). CommandReport command (seed_of words) input status text) asks report in
    subst (λ (s : Status). InputReport Check input s text) done by_command

-- ---- the report on what the source has left

written : (left before after : Option (List ℕ)) (input text : List ℕ) → Holds left input →
    InputReport Check input Done text → Takes before after text → IsCertified left before after
written None before after input text held report takes = tt
written (Some left) before after input text held report takes =
    let found : Certified input text = certified input text report in (
      found.0,
      (
        found.1.0,
        subst (λ (bytes : List ℕ). Certifies found.0 found.1.0 bytes) (sym held) found.1.1,
        subst (λ (lines : List ℕ). Takes before after lines) found.1.2 takes,
      ),
    )

passed_input : (left : Option (List ℕ)) (input text : List ℕ) → Holds left input → InputReport Check input Done text →
    HasPassed left
unfolding InputReport
passed_input None input text held report = tt
passed_input (Some left) input text held (fits, found) =
    let c = found.0 in let G = found.2.1.0 in
    (c, (G, subst (λ (bytes : List ℕ). IsCertOf c bytes) (sym held) found.1, found.2.1.1, found.2.1.2))

-- ---- the answer of `check` with status 0

module _ (words : List Text) (left : Option (List ℕ)) (rose : Type 0) (answer : Report)
    (decided : IsDecided (IsReport words) left rose answer) (asks : asked words ≡ Some Check)
    (done : answer.status ≡ Done) where
  found : Reports (IsReport words) left answer
  found = subst (λ (s : Status). DecidedBy s (IsReport words) left rose answer) done decided

  report : InputReport Check found.0 Done answer.text
  report = check_report words found.0 answer.text answer.status asks done found.2

  pub headline : (before after : Option (List ℕ)) → Takes before after answer.text → IsCertified left before after
  headline before after takes = written left before after found.0 answer.text found.1 report takes

  pub has_passed : HasPassed left
  has_passed = passed_input left found.0 answer.text found.1 report
