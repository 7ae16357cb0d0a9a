-- Words and input have one status at most.
use Rattle.std.proofs.Common.{◌≡◌, ◌<◌, ◌≤◌, ◌⊎◌, inl, inr, ℕ, List, [], ◌∷◌, Option, Some, None, Bool, true, false, Ok, Err, refl, sym, subst, ◌∙◌, arith, length}
use Rattle.bmp_graph.specs.Graph.{Graph}
use Rattle.bmp_text.specs.declared.fault.TextFault.{TextFault}
use Rattle.bmp_text.specs.Readers.{whole}
use Rattle.bmp_text.proofs.Pairs.{whole_again}
use Rattle.bmp_cert.proofs.CertPairs.{cert_pair}
use Rattle.bmp_cert.proofs.GraphLemmas.{one_graph}
use Rattle.bmp_cert.proofs.RuleLemmas.{keeps_front, keeps_back, keeps_before, fails_there, not_kept}
use Rattle.bmp_cert.specs.declared.job.Job.{Job}
use Rattle.bmp_cert.specs.declared.job_fault.JobFault.{JobFault}
use Rattle.bmp_cert.specs.declared.job_fault.JobFault.TheVariants.{Cartan, Finite, Prime, Letter, Reduced, TooMany, DegreeBound, TooLarge, ZeroLabel, Gkm}
use Rattle.bmp_cert.specs.declared.cert.Cert.{Cert}
use Rattle.bmp_cert.proofs.JobPairs.{job_pair}
use Rattle.bmp_cert.specs.JobGrammar.{job, job_text, IsWellFormedJob}
use Rattle.bmp_cert.specs.CertGrammar.{cert, cert_text, IsWellFormed}
use Rattle.bmp_cert.specs.JobGraphs.{IsJobGraph}
use Rattle.bmp_cert.specs.JobRules.{Rule, HasGkmGraph, graph_rules, rules, KeepsAll, IsFirstFault}
use Rattle.bmp_check.proofs.PassLemmas.{none_fails}
use Rattle.bmp_cert.specs.Counts.{written_by, generator_count}
use Rattle.bmp_report.specs.RankLines.{cert_rank_lines}
use Rattle.bmp_report.specs.SampleJobs.{sample_job}
use Rattle.bmp_report.specs.SummaryText.{summary_text}
use Rattle.bmp_text.specs.Printing.{Chosen}
use Rattle.bmp_check.specs.Verdicts.{Passes, IsFirstRefusal}
use Rattle.bmp_check.specs.declared.refusal.Refusal.{Refusal}
use Rattle.bmp_program.proofs.TableLemmas.{TableFits, TablePasses, table_fits, table_passes, fits_or_passes}
use Rattle.bmp_program.proofs.CompareAnswerLemmas.{compared_fits}
use Rattle.bmp_program.specs.CommandLine.{asked, reads_input, seed_of}
use Rattle.bmp_program.specs.Reports.{input_limit, IsCertOf, IsJobOf, fault_status, CertReport, GraphReport, GkmReport, KlReport, BuiltReport, BuildReport, RanksReport, CompareReport, SampleReport, CertTextReport, JobTextReport, TextReport, InputReport, CommandReport, IsReport, HasOneStatus}
use Rattle.bmp_program.specs.declared.words.CommandWord.{CommandWord}
use Rattle.bmp_program.specs.declared.words.CommandWord.TheVariants.{Check, Graph as GraphCommand, Gkm as GkmCommand, Kl as KlCommand, Build, Ranks, Compare, Sample}
use Rattle.bmp_program.specs.declared.status.Status.{Status}
use Rattle.bmp_program.specs.declared.status.Status.TheVariants.{Done, Refused, BadText, BadJob, GkmFailed, ReadFault, WriteFault, NoMemory, TooLong, TableLimit, Usage}

-- the text of a certificate is read as that certificate
read_as : (c : Cert) (input : List ℕ) → IsCertOf c input → whole cert input ≡ Ok c
read_as c input is =
    subst (λ (bytes : List ℕ). whole cert bytes ≡ Ok c) (sym is.1)
    (whole_again cert cert_text IsWellFormed cert_pair c is.0)

-- ---- the cases of a certificate

-- a job that breaks a rule: one of those of the graph, or the last
JobCase : Job → Status → Type 0
JobCase j s = ((s ≡ BadJob) × (KeepsAll graph_rules j → ⊥)) ⊎
    ((s ≡ GkmFailed) × KeepsAll graph_rules j × (HasGkmGraph j → ⊥))

abbrev last_rule : List Rule
last_rule = HasGkmGraph ∷ []

job_case : (j : Job) (s : Status) (f : JobFault) → IsFirstFault j f → s ≡ fault_status f → JobCase j s
unfolding JobCase
job_case j s (Cartan f) h is = inl (is, not_kept j graph_rules 0 h.fails)
job_case j s (Finite e) h is = inl (is, not_kept j graph_rules 1 h.fails)
job_case j s (Prime p) h is = inl (is, not_kept j graph_rules 2 h.fails)
job_case j s (Letter e) h is = inl (is, not_kept j graph_rules 3 h.fails)
job_case j s (Reduced n) h is = inl (is, not_kept j graph_rules 4 h.fails)
job_case j s (TooMany n) h is = inl (is, not_kept j graph_rules 5 h.fails)
job_case j s (DegreeBound d) h is = inl (is, not_kept j graph_rules 6 h.fails)
job_case j s (TooLarge n) h is = inl (is, not_kept j graph_rules 7 h.fails)
job_case j s (ZeroLabel x y) h is = inl (is, not_kept j graph_rules 8 h.fails)
job_case j s (Gkm p) h is =
    inr (is, keeps_before j graph_rules last_rule 0 h.fails, fails_there j graph_rules last_rule 0 h.fails)

job_breaks : (j : Job) (s : Status) → JobCase j s → KeepsAll rules j → ⊥
unfolding JobCase
job_breaks j s (inl a) kept = a.1 (keeps_front j graph_rules last_rule kept)
job_breaks j s (inr a) kept = a.2 (keeps_back j graph_rules last_rule kept).0

one_job_case : (j : Job) (s t : Status) → JobCase j s → JobCase j t → s ≡ t
unfolding JobCase
one_job_case j s t (inl a) (inl b) = a.0 ∙ sym b.0
one_job_case j s t (inl a) (inr b) = absurd (a.1 b.1)
one_job_case j s t (inr a) (inl b) = absurd (b.1 a.1)
one_job_case j s t (inr a) (inr b) = a.0 ∙ sym b.0

-- on some graph of the job no comparison fails, or one fails first
abbrev CertPasses : Cert → Type 0
CertPasses c = (G : Graph) × IsJobGraph c.job G × Passes G c.version (written_by c)

abbrev CertFails : Cert → Type 0
CertFails c = (G : Graph) × IsJobGraph c.job G ×
    ((refusal : Refusal) × IsFirstRefusal G c.version (written_by c) refusal)

-- not both, since the graph of a job is one
not_both : (c : Cert) → CertPasses c → CertFails c → ⊥
not_both c (G, of_G, passes) (H, of_H, fails) =
    let same : G ≡ H = one_graph c.job G H of_G of_H in
    none_fails H c.version (written_by c) fails.0 (subst (λ (K : Graph). Passes K c.version (written_by c)) same passes)
    fails.1

CertCase : Cert → Status → Type 0
CertCase c s = JobCase c.job s
    ⊎ (((s ≡ Refused) × KeepsAll rules c.job × CertFails c)
    ⊎ ((s ≡ Done) × KeepsAll rules c.job × CertPasses c))

cert_case : (c : Cert) (s : Status) (text : List ℕ) → CertReport c s text → CertCase c s
unfolding CertCase
cert_case c BadJob text is = inl (job_case c.job BadJob is.0 is.1 is.2)
cert_case c GkmFailed text is = inl (job_case c.job GkmFailed is.0 is.1 is.2)
cert_case c Refused text is = let found = is.1 in inr (inl (refl, is.0, (found.0, found.1, (found.2.0, found.2.1))))
cert_case c Done text is = let found = is.1 in inr (inr (refl, is.0, (found.0, found.1, found.2)))
cert_case c BadText text is = absurd is
cert_case c ReadFault text is = absurd is
cert_case c WriteFault text is = absurd is
cert_case c NoMemory text is = absurd is
cert_case c TooLong text is = absurd is
cert_case c TableLimit text is = absurd is
cert_case c Usage text is = absurd is

one_cert_case : (c : Cert) (s t : Status) → CertCase c s → CertCase c t → s ≡ t
unfolding CertCase
one_cert_case c s t (inl a) (inl b) = one_job_case c.job s t a b
one_cert_case c s t (inl a) (inr (inl b)) = absurd (job_breaks c.job s a b.1)
one_cert_case c s t (inl a) (inr (inr b)) = absurd (job_breaks c.job s a b.1)
one_cert_case c s t (inr (inl a)) (inl b) = absurd (job_breaks c.job t b a.1)
one_cert_case c s t (inr (inl a)) (inr (inl b)) = a.0 ∙ sym b.0
one_cert_case c s t (inr (inl a)) (inr (inr b)) = absurd (not_both c b.2 a.2)
one_cert_case c s t (inr (inr a)) (inl b) = absurd (job_breaks c.job t b a.1)
one_cert_case c s t (inr (inr a)) (inr (inl b)) = absurd (not_both c a.2 b.2)
one_cert_case c s t (inr (inr a)) (inr (inr b)) = a.0 ∙ sym b.0

-- ---- the cases of a certificate's text

CertTextCase : List ℕ → Status → Type 0
CertTextCase input s = ((s ≡ BadText) × ((f : TextFault) × (whole cert input ≡ Err f)))
    ⊎ ((c : Cert) × (whole cert input ≡ Ok c) × CertCase c s)

at_cert : (input : List ℕ) (s : Status) (text : List ℕ) → ((c : Cert) × IsCertOf c input × CertReport c s text) →
    CertTextCase input s
unfolding CertTextCase
at_cert input s text found = inr (found.0, read_as found.0 input found.1, cert_case found.0 s text found.2)

cert_text_case : (input : List ℕ) (s : Status) (text : List ℕ) → CertTextReport input s text → CertTextCase input s
unfolding CertTextCase
cert_text_case input BadText text is = inl (refl, (is.0, is.1))
cert_text_case input TooLong text is = at_cert input TooLong text is
cert_text_case input BadJob text is = at_cert input BadJob text is
cert_text_case input Refused text is = at_cert input Refused text is
cert_text_case input Done text is = at_cert input Done text is
cert_text_case input GkmFailed text is = at_cert input GkmFailed text is
cert_text_case input ReadFault text is = at_cert input ReadFault text is
cert_text_case input WriteFault text is = at_cert input WriteFault text is
cert_text_case input NoMemory text is = at_cert input NoMemory text is
cert_text_case input TableLimit text is = at_cert input TableLimit text is
cert_text_case input Usage text is = at_cert input Usage text is

same_cert : (input : List ℕ) (c d : Cert) (s t : Status) → whole cert input ≡ Ok c → whole cert input ≡ Ok d →
    CertCase c s → CertCase d t → s ≡ t
same_cert input c d s t of_c of_d p q =
    let same : d ≡ c = cc in
    one_cert_case c s t p (subst (λ (e : Cert). CertCase e t) same q)

one_cert_text_case : (input : List ℕ) (s t : Status) → CertTextCase input s → CertTextCase input t → s ≡ t
unfolding CertTextCase
one_cert_text_case input s t (inl a) (inl b) = a.0 ∙ sym b.0
one_cert_text_case input s t (inl a) (inr b) = let p = a.1.1 in let q = b.1 in cc
one_cert_text_case input s t (inr a) (inl b) = let p = b.1.1 in let q = a.1 in cc
one_cert_text_case input s t (inr a) (inr b) = same_cert input a.0 b.0 s t a.1 b.1 a.2 b.2

-- ---- the cases of a job's text

-- the text of a job is read as that job
read_as_job : (j : Job) (input : List ℕ) → IsJobOf j input → whole job input ≡ Ok j
read_as_job j input is =
    subst (λ (bytes : List ℕ). whole job bytes ≡ Ok j) (sym is.1)
    (whole_again job job_text IsWellFormedJob job_pair j is.0)

-- the rules that are tried either all hold, or the first that fails decides
Decides : (Job → Type 0) → Job → Status → Type 0
Decides Kept j s = ((s ≡ Done) × Kept j) ⊎ (JobCase j s × (Kept j → ⊥))

one_decided : (Kept : Job → Type 0) (j : Job) (s t : Status) → Decides Kept j s → Decides Kept j t → s ≡ t
unfolding Decides
one_decided Kept j s t (inl a) (inl b) = a.0 ∙ sym b.0
one_decided Kept j s t (inl a) (inr b) = absurd (b.1 a.1)
one_decided Kept j s t (inr a) (inl b) = absurd (a.1 b.1)
one_decided Kept j s t (inr a) (inr b) = one_job_case j s t a.0 b.0

bad_job : (j : Job) → JobCase j BadJob → KeepsAll graph_rules j → ⊥
unfolding JobCase
bad_job j (inl a) kept = a.1 kept
bad_job j (inr a) kept = let p = a.0 in cc

graph_case : (j : Job) (s : Status) (text : List ℕ) → GraphReport j s text → Decides (KeepsAll graph_rules) j s
unfolding Decides
graph_case j Done text is = inl (refl, is.0)
graph_case j BadJob text is = let broken = job_case j BadJob is.0 is.1 is.2 in inr (broken, bad_job j broken)
graph_case j GkmFailed text is = absurd is
graph_case j BadText text is = absurd is
graph_case j Refused text is = absurd is
graph_case j ReadFault text is = absurd is
graph_case j WriteFault text is = absurd is
graph_case j NoMemory text is = absurd is
graph_case j TooLong text is = absurd is
graph_case j TableLimit text is = absurd is
graph_case j Usage text is = absurd is

gkm_case : (j : Job) (s : Status) (text : List ℕ) → GkmReport j s text → Decides (KeepsAll rules) j s
unfolding Decides
gkm_case j Done text is = inl (refl, is.0)
gkm_case j BadJob text is = let broken = job_case j BadJob is.0 is.1 is.2 in inr (broken, job_breaks j BadJob broken)
gkm_case j GkmFailed text is = let broken = job_case j GkmFailed is.0 is.1 is.2 in
    inr (broken, job_breaks j GkmFailed broken)
gkm_case j BadText text is = absurd is
gkm_case j Refused text is = absurd is
gkm_case j ReadFault text is = absurd is
gkm_case j WriteFault text is = absurd is
gkm_case j NoMemory text is = absurd is
gkm_case j TooLong text is = absurd is
gkm_case j TableLimit text is = absurd is
gkm_case j Usage text is = absurd is

built_case : (print : Graph → Cert → List ℕ) (j : Job) (s : Status) (text : List ℕ) → BuiltReport print j s text →
    Decides (KeepsAll rules) j s
unfolding Decides
built_case print j Done text is = inl (refl, is.0)
built_case print j BadJob text is = let broken = job_case j BadJob is.0 is.1 is.2 in
    inr (broken, job_breaks j BadJob broken)
built_case print j GkmFailed text is = let broken = job_case j GkmFailed is.0 is.1 is.2 in
    inr (broken, job_breaks j GkmFailed broken)
built_case print j BadText text is = absurd is
built_case print j Refused text is = absurd is
built_case print j ReadFault text is = absurd is
built_case print j WriteFault text is = absurd is
built_case print j NoMemory text is = absurd is
built_case print j TooLong text is = absurd is
built_case print j TableLimit text is = absurd is
built_case print j Usage text is = absurd is

one_built : (print : Graph → Cert → List ℕ) (j : Job) (s t : Status) (a b : List ℕ) → BuiltReport print j s a →
    BuiltReport print j t b → s ≡ t
one_built print j s t a b p q =
    one_decided (KeepsAll rules) j s t (built_case print j s a p) (built_case print j t b q)

-- the table of a job that keeps the rules that are tried keeps the limit or passes it
TableCase : (Job → Type 0) → Job → Status → Type 0
TableCase Kept j s = (JobCase j s × (Kept j → ⊥))
    ⊎ (((s ≡ Done) × Kept j × TableFits j) ⊎ ((s ≡ TableLimit) × Kept j × TablePasses j))

kl_case : (j : Job) (s : Status) (text : List ℕ) → KlReport j s text → TableCase (KeepsAll graph_rules) j s
unfolding TableCase
kl_case j BadJob text is = let broken = job_case j BadJob is.0 is.1 is.2 in inl (broken, bad_job j broken)
kl_case j Done text is = inr (inl (refl, is.0, table_fits j text is.1))
kl_case j TableLimit text is = inr (inr (refl, is.0, table_passes j text is.1))
kl_case j GkmFailed text is = absurd is.1.2
kl_case j BadText text is = absurd is.1.2
kl_case j Refused text is = absurd is.1.2
kl_case j ReadFault text is = absurd is.1.2
kl_case j WriteFault text is = absurd is.1.2
kl_case j NoMemory text is = absurd is.1.2
kl_case j TooLong text is = absurd is.1.2
kl_case j Usage text is = absurd is.1.2

compare_case : (j : Job) (s : Status) (text : List ℕ) → CompareReport j s text → TableCase (KeepsAll rules) j s
unfolding TableCase
compare_case j BadJob text is = let broken = job_case j BadJob is.0 is.1 is.2 in
    inl (broken, job_breaks j BadJob broken)
compare_case j GkmFailed text is = let broken = job_case j GkmFailed is.0 is.1 is.2 in
    inl (broken, job_breaks j GkmFailed broken)
compare_case j Done text is = inr (inl (refl, is.0, compared_fits j text is.1))
compare_case j TableLimit text is = inr (inr (refl, is.0, table_passes j text is.1))
compare_case j BadText text is = absurd is.1.2
compare_case j Refused text is = absurd is.1.2
compare_case j ReadFault text is = absurd is.1.2
compare_case j WriteFault text is = absurd is.1.2
compare_case j NoMemory text is = absurd is.1.2
compare_case j TooLong text is = absurd is.1.2
compare_case j Usage text is = absurd is.1.2

one_table_case : (Kept : Job → Type 0) (j : Job) (s t : Status) → TableCase Kept j s → TableCase Kept j t → s ≡ t
unfolding TableCase
one_table_case Kept j s t (inl a) (inl b) = one_job_case j s t a.0 b.0
one_table_case Kept j s t (inl a) (inr (inl b)) = absurd (a.1 b.1)
one_table_case Kept j s t (inl a) (inr (inr b)) = absurd (a.1 b.1)
one_table_case Kept j s t (inr (inl a)) (inl b) = absurd (b.1 a.1)
one_table_case Kept j s t (inr (inl a)) (inr (inl b)) = a.0 ∙ sym b.0
one_table_case Kept j s t (inr (inl a)) (inr (inr b)) = absurd (fits_or_passes j a.2 b.2)
one_table_case Kept j s t (inr (inr a)) (inl b) = absurd (b.1 a.1)
one_table_case Kept j s t (inr (inr a)) (inr (inl b)) = absurd (fits_or_passes j b.2 a.2)
one_table_case Kept j s t (inr (inr a)) (inr (inr b)) = a.0 ∙ sym b.0

-- the case of a job text, by the cases of a job
JobTextCase : (Job → Status → Type 0) → List ℕ → Status → Type 0
JobTextCase Case input s = ((s ≡ BadText) × ((f : TextFault) × (whole job input ≡ Err f)))
    ⊎ ((j : Job) × (whole job input ≡ Ok j) × Case j s)

module _ (report : Job → Status → List ℕ → Type 0) (Case : Job → Status → Type 0)
    (of : (j : Job) (s : Status) (text : List ℕ) → report j s text → Case j s) (input text : List ℕ) where
  at_job : (s : Status) → ((j : Job) × IsJobOf j input × report j s text) → JobTextCase Case input s
  unfolding JobTextCase
  at_job s found = inr (found.0, read_as_job found.0 input found.1, of found.0 s text found.2)

  job_text_case : (s : Status) → JobTextReport report input s text → JobTextCase Case input s
  unfolding JobTextCase
  job_text_case BadText is = inl (refl, (is.0, is.1))
  job_text_case TooLong is = at_job TooLong is
  job_text_case BadJob is = at_job BadJob is
  job_text_case Refused is = at_job Refused is
  job_text_case Done is = at_job Done is
  job_text_case GkmFailed is = at_job GkmFailed is
  job_text_case ReadFault is = at_job ReadFault is
  job_text_case WriteFault is = at_job WriteFault is
  job_text_case NoMemory is = at_job NoMemory is
  job_text_case TableLimit is = at_job TableLimit is
  job_text_case Usage is = at_job Usage is

module _ (Case : Job → Status → Type 0) (one : (j : Job) (s t : Status) → Case j s → Case j t → s ≡ t) (input : List ℕ)
  where
    same_job : (i j : Job) (s t : Status) → whole job input ≡ Ok i → whole job input ≡ Ok j → Case i s → Case j t →
        s ≡ t
    same_job i j s t of_i of_j p q =
        let same : j ≡ i = cc in
        one i s t p (subst (λ (k : Job). Case k t) same q)

    one_job_text_case : (s t : Status) → JobTextCase Case input s → JobTextCase Case input t → s ≡ t
    unfolding JobTextCase
    one_job_text_case s t (inl a) (inl b) = a.0 ∙ sym b.0
    one_job_text_case s t (inl a) (inr b) = let p = a.1.1 in let q = b.1 in cc
    one_job_text_case s t (inr a) (inl b) = let p = b.1.1 in let q = a.1 in cc
    one_job_text_case s t (inr a) (inr b) = same_job a.0 b.0 s t a.1 b.1 a.2 b.2

-- ---- the cases of an input

one_job_text : (report : Job → Status → List ℕ → Type 0) (Case : Job → Status → Type 0)
    → ((j : Job) (s : Status) (text : List ℕ) → report j s text → Case j s)
    → ((j : Job) (s t : Status) → Case j s → Case j t → s ≡ t)
    → (input : List ℕ) (s t : Status) (a b : List ℕ) → JobTextReport report input s a → JobTextReport report input t b →
    s ≡ t
one_job_text report Case of one input s t a b p q =
    one_job_text_case Case one input s t (job_text_case report Case of input a s p)
    (job_text_case report Case of input b t q)

one_text : (command : CommandWord) (input : List ℕ) (s t : Status) (a b : List ℕ) → TextReport command input s a →
    TextReport command input t b → s ≡ t
one_text Check input s t a b p q =
    one_cert_text_case input s t (cert_text_case input s a p) (cert_text_case input t b q)
one_text GraphCommand input s t a b p q =
    one_job_text GraphReport (Decides (KeepsAll graph_rules)) graph_case (one_decided (KeepsAll graph_rules)) input s t
    a b p q
one_text GkmCommand input s t a b p q =
    one_job_text GkmReport (Decides (KeepsAll rules)) gkm_case (one_decided (KeepsAll rules)) input s t a b p q
one_text KlCommand input s t a b p q =
    one_job_text KlReport (TableCase (KeepsAll graph_rules)) kl_case (one_table_case (KeepsAll graph_rules)) input s t
    a b p q
one_text Compare input s t a b p q =
    one_job_text CompareReport (TableCase (KeepsAll rules)) compare_case (one_table_case (KeepsAll rules)) input s t a b
    p q
one_text Build input s t a b p q =
    one_job_text BuildReport (Decides (KeepsAll rules)) (built_case (λ g c. cert_text c)) (one_decided (KeepsAll rules))
    input s t a b p q
one_text Ranks input s t a b p q =
    one_job_text RanksReport (Decides (KeepsAll rules)) (built_case (λ g c. cert_rank_lines c))
    (one_decided (KeepsAll rules)) input s t a b p q
one_text Sample input s t a b p q = absurd p

InputCase : CommandWord → List ℕ → Status → List ℕ → Type 0
InputCase command input s text = ((s ≡ TooLong) × (input_limit < length input))
    ⊎ ((length input ≤ input_limit) × TextReport command input s text)

input_case : (command : CommandWord) (input : List ℕ) (s : Status) (text : List ℕ) → InputReport command input s text →
    InputCase command input s text
unfolding InputReport InputCase
input_case command input TooLong text is = inl (refl, is.0)
input_case command input BadText text is = inr is
input_case command input BadJob text is = inr is
input_case command input Refused text is = inr is
input_case command input Done text is = inr is
input_case command input GkmFailed text is = inr is
input_case command input ReadFault text is = inr is
input_case command input WriteFault text is = inr is
input_case command input NoMemory text is = inr is
input_case command input TableLimit text is = inr is
input_case command input Usage text is = inr is

one_input_case : (command : CommandWord) (input : List ℕ) (s t : Status) (a b : List ℕ) → InputCase command input s a →
    InputCase command input t b → s ≡ t
unfolding InputCase
one_input_case command input s t a b (inl p) (inl q) = p.0 ∙ sym q.0
one_input_case command input s t a b (inl p) (inr q) = absurd (omega (arith, p.1, q.0))
one_input_case command input s t a b (inr p) (inl q) = absurd (omega (arith, q.1, p.0))
one_input_case command input s t a b (inr p) (inr q) = one_text command input s t a b p.1 q.1

by_reading : (reads : Bool) (command : CommandWord) (seed : ℕ) (input : List ℕ) (s t : Status) (a b : List ℕ) →
    Chosen reads (InputReport command input s a) (SampleReport seed s a) →
    Chosen reads (InputReport command input t b) (SampleReport seed t b) → s ≡ t
by_reading true command seed input s t a b p q =
    one_input_case command input s t a b (input_case command input s a p) (input_case command input t b q)
by_reading false command seed input s t a b p q =
    one_built (λ g c. summary_text seed c.job g (generator_count (written_by c))) (sample_job seed) s t a b p q

by_command : (command : Option CommandWord) (seed : ℕ) (input : List ℕ) (s t : Status) (a b : List ℕ) →
    CommandReport command seed input s a → CommandReport command seed input t b → s ≡ t
by_command None seed input s t a b p q = p.0 ∙ sym q.0
by_command (Some command) seed input s t a b p q = by_reading (reads_input command) command seed input s t a b p q

pub one_status : HasOneStatus
unfolding IsReport
one_status words input s t a b p q = by_command (asked words) (seed_of words) input s t a b p q
