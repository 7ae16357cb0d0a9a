-- What the program answers to its words and its input: for each status the case in which it comes, and the text that is
-- written with it. No two statuses have a case in common.
--   read_fault_line, no_memory_line
--                               the lines of faults that no input decides
--   input_limit                 the most bytes that are read
--   IsCertOf c input, IsJobOf j input
--                               c, or j, is well formed, and the input is its text
--   fault_status fault          the status of a job's fault: a graph without the GKM condition has one of its own
--   JobReport j status text     what is answered to a job that breaks a rule
--   CertReport c status text    what the check of a certificate answers: that its job breaks a rule, that a comparison
--                               fails, or its ranks
--   GraphReport, GkmReport, KlReport
--                               what `graph`, `gkm` and `kl` answer to a job
--   IsBuiltCert j G c           c is a certificate by levels of the job j, and none of its comparisons fails on the
--                               graph G of the job
--   BuiltReport print j status text
--                               what is answered to a job whose certificate is built: any such certificate will do, and
--                               of it this is printed
--   BuildReport, RanksReport    what `build` and `ranks` answer to a job: the text of such a certificate, and its ranks
--   IsBuiltComparison j G h q text
--                               the text compares the numbers of such a certificate with h, by the lengths of G
--   IsCompared j roots vertices text
--                               the same with h and q the table of the vertices, within the limit
--   ComparedReport j roots vertices status text
--                               what `compare` answers to the vertices of a job: the comparison, or the first of them
--                               that passes the limit
--   CompareReport               what `compare` answers to a job
--   SampleReport n status text  what `sample` answers: the summary of such a certificate of the job of this number
--   table_limit                 how large in size the coefficients of a table may be
--   TableReport roots vertices status text
--                               what is answered to the vertices of a job: their table, or the first of them that
--                               passes the limit
--   CertTextReport, JobTextReport, TextReport
--                               what a command answers to an input within the limit
--   InputReport command input status text
--                               what a command answers
--   CommandReport command seed input status text
--                               the same, with `sample`, which reads nothing, and what is answered where there is no
--                               command
--   IsReport words input status text
--                               what the program answers
--   HasOneStatus                words and input have one status at most
use Rattle.std.specs.Prelude.{◌≡◌, ◌<◌, ◌≤◌, ℕ, ℤ, List, Option, Some, None, Err, codes, length}
use Rattle.std.specs.Int.RustNames.{unsigned_abs}
use Rattle.clap.specs.Walk.{Text}
use Rattle.bmp_text.specs.declared.fault.TextFault.{TextFault}
use Rattle.bmp_text.specs.Printing.{Chosen}
use Rattle.bmp_text.specs.Readers.{whole}
use Rattle.bmp_cert.specs.declared.job.Job.{Job}
use Rattle.bmp_cert.specs.declared.cert.Cert.{Cert}
use Rattle.bmp_cert.specs.declared.job_fault.JobFault.{JobFault}
use Rattle.bmp_cert.specs.declared.job_fault.JobFault.TheVariants.{Gkm}
use Rattle.bmp_roots.specs.RootSystems.{matrix_of, positive_roots_of}
use Rattle.bmp_roots.specs.declared.root_system.Roots.{Roots}
use Rattle.bmp_weyl.specs.declared.elem.Elem.{Elem}
use Rattle.bmp_hecke.specs.Laurents.{Laurent}
use Rattle.bmp_kl.specs.Tables.{IsTable}
use Rattle.bmp_kl.specs.IntervalBars.{bars_of}
use Rattle.bmp_kl.specs.Filled.{HasTooBig}
use Rattle.bmp_graph.specs.Graph.{Graph}
use Rattle.bmp_cert.specs.CertGrammar.{cert, cert_text, IsWellFormed}
use Rattle.bmp_cert.specs.JobGrammar.{job, job_text, IsWellFormedJob}
use Rattle.bmp_cert.specs.Counts.{written_by, generator_count}
use Rattle.bmp_cert.specs.JobGraphs.{IsJobGraph, IsJobInterval}
use Rattle.bmp_cert.specs.Versions.{IsVersionOf}
use Rattle.bmp_cert.specs.JobRules.{graph_rules, rules, KeepsAll, IsFirstFault}
use Rattle.bmp_check.specs.declared.refusal.Refusal.{Refusal}
use Rattle.bmp_check.specs.Refusals.{refusal_text}
use Rattle.bmp_check.specs.Verdicts.{Passes, IsFirstRefusal}
use Rattle.bmp_report.specs.FaultLines.{text_fault_line, job_fault_line}
use Rattle.bmp_report.specs.GraphText.{graph_text, gkm_text}
use Rattle.bmp_report.specs.CompareText.{cert_comparison, IsCompareText}
use Rattle.bmp_report.specs.RankLines.{cert_rank_lines}
use Rattle.bmp_report.specs.SampleJobs.{sample_job}
use Rattle.bmp_report.specs.SummaryText.{summary_text}
use Rattle.bmp_report.specs.TableText.{IsKlText, limit_line}
use Rattle.bmp_program.specs.CommandLine.{asked, reads_input, seed_of}
use Rattle.bmp_program.specs.declared.words.CommandWord.{CommandWord}
use Rattle.bmp_program.specs.declared.words.CommandWord.TheVariants.{Check, Graph as GraphCommand, Gkm as GkmCommand, Kl as KlCommand, Build, Ranks, Compare, Sample}
use Rattle.bmp_program.specs.declared.status.Status.{Status}
use Rattle.bmp_program.specs.declared.status.Status.TheVariants.{Done, Refused, BadText, BadJob, GkmFailed, TooLong, TableLimit, Usage}

abbrev pub read_fault_line : List ℕ
read_fault_line = codes "read fault\n"

abbrev pub no_memory_line : List ℕ
no_memory_line = codes "no memory\n"

abbrev pub input_limit : ℕ
input_limit = 268435456

abbrev pub IsCertOf : Cert → List ℕ → Type 0
IsCertOf c input = IsWellFormed c × (input ≡ cert_text c)

abbrev pub IsJobOf : Job → List ℕ → Type 0
IsJobOf j input = IsWellFormedJob j × (input ≡ job_text j)

abbrev pub fault_status : JobFault → Status
fault_status (Gkm p) = GkmFailed
fault_status _ = BadJob

-- the status and the line of the first rule that the job breaks
abbrev pub JobReport : Job → Status → List ℕ → Type 0
JobReport j status text = (fault : JobFault) × IsFirstFault j fault × (status ≡ fault_status fault)
    × (text ≡ job_fault_line j.rank fault)

-- in order: the certificate's job breaks a rule, with the first; a comparison on the job's graph fails, with the first;
-- none fails
abbrev pub CertReport : Cert → Status → List ℕ → Type 0
CertReport c BadJob text = JobReport c.job BadJob text
CertReport c GkmFailed text = JobReport c.job GkmFailed text
CertReport c Refused text =
    KeepsAll rules c.job ×
    ((G : Graph) × IsJobGraph c.job G ×
    ((refusal : Refusal) × IsFirstRefusal G c.version (written_by c) refusal × (text ≡ refusal_text refusal)))
CertReport c Done text =
    KeepsAll rules c.job ×
    ((G : Graph) × IsJobGraph c.job G × Passes G c.version (written_by c) × (text ≡ cert_rank_lines c))
CertReport c _ text = ⊥

-- the text of no certificate, with the first fault in reading order, or the text of one
abbrev pub CertTextReport : List ℕ → Status → List ℕ → Type 0
CertTextReport input BadText text = (fault : TextFault) × (whole cert input ≡ Err fault) ×
    (text ≡ text_fault_line fault)
CertTextReport input status text = (c : Cert) × IsCertOf c input × CertReport c status text

-- the rules of the graph alone decide on it
abbrev pub GraphReport : Job → Status → List ℕ → Type 0
GraphReport j BadJob text = JobReport j BadJob text
GraphReport j Done text =
    KeepsAll graph_rules j × ((g : Graph) × (of : IsJobGraph j g) × (text ≡ graph_text of.roots of.vertices g))
GraphReport j _ text = ⊥

abbrev pub GkmReport : Job → Status → List ℕ → Type 0
GkmReport j BadJob text = JobReport j BadJob text
GkmReport j GkmFailed text = JobReport j GkmFailed text
GkmReport j Done text = KeepsAll rules j × ((g : Graph) × IsJobGraph j g × (text ≡ gkm_text g))
GkmReport j _ text = ⊥

abbrev pub table_limit : ℕ
table_limit = 1000000

abbrev pub TableReport : Roots → List Elem → Status → List ℕ → Type 0
TableReport roots vertices Done text =
    (h : ℕ → Laurent) × ((q : ℕ → Laurent) ×
    IsTable (length vertices) (bars_of (matrix_of roots) (positive_roots_of roots) vertices) h q ×
    ((x : ℕ) (e : ℤ) → x < length vertices → unsigned_abs (h x e) ≤ table_limit) × IsKlText (length vertices) h q text)
TableReport roots vertices TableLimit text =
    (x : ℕ) × HasTooBig (matrix_of roots) (positive_roots_of roots) vertices table_limit x × (text ≡ limit_line x)
TableReport roots vertices _ text = ⊥

-- as with `graph`, the rules of the graph alone decide on it
abbrev pub KlReport : Job → Status → List ℕ → Type 0
KlReport j BadJob text = JobReport j BadJob text
KlReport j status text =
    KeepsAll graph_rules j × ((vertices : List Elem) × (of : IsJobInterval j vertices) ×
    TableReport of.roots vertices status text)

-- ---- what is built

pub record IsBuiltCert (j : Job) (G : Graph) (c : Cert) : Type 0 where
  pub formed : IsWellFormed c
  pub job : c.job ≡ j
  pub version : IsVersionOf j.lattice c.version
  pub levels : 2 ≤ c.version
  pub graph : IsJobGraph j G
  pub passes : Passes G c.version (written_by c)

abbrev pub BuiltReport : (Graph → Cert → List ℕ) → Job → Status → List ℕ → Type 0
BuiltReport print j BadJob text = JobReport j BadJob text
BuiltReport print j GkmFailed text = JobReport j GkmFailed text
BuiltReport print j Done text =
    KeepsAll rules j × ((G : Graph) × ((c : Cert) × IsBuiltCert j G c × (text ≡ print G c)))
BuiltReport print j _ text = ⊥

abbrev pub BuildReport : Job → Status → List ℕ → Type 0
BuildReport = BuiltReport (λ G c. cert_text c)

abbrev pub RanksReport : Job → Status → List ℕ → Type 0
RanksReport = BuiltReport (λ G c. cert_rank_lines c)

abbrev pub SampleReport : ℕ → Status → List ℕ → Type 0
SampleReport n = BuiltReport (λ G c. summary_text n c.job G (generator_count (written_by c))) (sample_job n)

-- the numbers of a certificate that is built, beside h
pub record IsBuiltComparison (j : Job) (G : Graph) (h q : ℕ → Laurent) (text : List ℕ) : Type 0 where
  pub cert : Cert
  pub built : IsBuiltCert j G cert
  pub text_is : IsCompareText (cert_comparison cert G.lengths h) h q text

pub record IsCompared (j : Job) (roots : Roots) (vertices : List Elem) (text : List ℕ) : Type 0 where
  pub h : ℕ → Laurent
  pub q : ℕ → Laurent
  pub table : IsTable (length vertices) (bars_of (matrix_of roots) (positive_roots_of roots) vertices) h q
  pub within : (x : ℕ) (e : ℤ) → x < length vertices → unsigned_abs (h x e) ≤ table_limit
  pub graph : Graph
  pub comparison : IsBuiltComparison j graph h q text

abbrev pub ComparedReport : Job → Roots → List Elem → Status → List ℕ → Type 0
ComparedReport j roots vertices Done text = IsCompared j roots vertices text
ComparedReport j roots vertices TableLimit text = TableReport roots vertices TableLimit text
ComparedReport j roots vertices _ text = ⊥

-- all rules come before the table
abbrev pub CompareReport : Job → Status → List ℕ → Type 0
CompareReport j BadJob text = JobReport j BadJob text
CompareReport j GkmFailed text = JobReport j GkmFailed text
CompareReport j status text =
    KeepsAll rules j × ((vertices : List Elem) × (of : IsJobInterval j vertices) ×
    ComparedReport j of.roots vertices status text)

-- ---- inputs

-- the text of no job, with the first fault in reading order, or the text of one
abbrev pub JobTextReport : (Job → Status → List ℕ → Type 0) → List ℕ → Status → List ℕ → Type 0
JobTextReport report input BadText text = (fault : TextFault) × (whole job input ≡ Err fault) ×
    (text ≡ text_fault_line fault)
JobTextReport report input status text = (j : Job) × IsJobOf j input × report j status text

abbrev pub TextReport : CommandWord → List ℕ → Status → List ℕ → Type 0
TextReport Check input status text = CertTextReport input status text
TextReport GraphCommand input status text = JobTextReport GraphReport input status text
TextReport GkmCommand input status text = JobTextReport GkmReport input status text
TextReport KlCommand input status text = JobTextReport KlReport input status text
TextReport Build input status text = JobTextReport BuildReport input status text
TextReport Ranks input status text = JobTextReport RanksReport input status text
TextReport Compare input status text = JobTextReport CompareReport input status text
TextReport Sample input status text = ⊥  -- it reads nothing

unfoldable pub InputReport : CommandWord → List ℕ → Status → List ℕ → Type 0
InputReport command input TooLong text = (input_limit < length input) × (text ≡ codes "input too long\n")
InputReport command input status text = (length input ≤ input_limit) × TextReport command input status text

abbrev pub CommandReport : Option CommandWord → ℕ → List ℕ → Status → List ℕ → Type 0
CommandReport None seed input status text = (status ≡ Usage) × (text ≡ codes "usage\n")
CommandReport (Some command) seed input status text =
    Chosen (reads_input command) (InputReport command input status text) (SampleReport seed status text)

unfoldable pub IsReport : List Text → List ℕ → Status → List ℕ → Type 0
IsReport words input status text = CommandReport (asked words) (seed_of words) input status text

abbrev pub HasOneStatus : Type 0
HasOneStatus = (words : List Text) (input : List ℕ) (s t : Status) (a b : List ℕ) → IsReport words input s a →
    IsReport words input t b → s ≡ t
