-- What is answered to a job that breaks a rule, as a report of each command.
use Rattle.std.proofs.Common.{◌≡◌, ℕ, List, [], ◌∷◌, refl, sym, subst, ◌∙◌}
use Rattle.bmp_cert.specs.declared.job.Job.{Job}
use Rattle.bmp_cert.specs.declared.job_fault.JobFault.{JobFault}
use Rattle.bmp_cert.specs.declared.job_fault.JobFault.TheVariants.{Cartan, Finite, Prime, Letter, Reduced, TooMany, DegreeBound, TooLarge, ZeroLabel, Gkm}
use Rattle.bmp_cert.specs.JobRules.{HasGkmGraph, graph_rules, rules, KeepsAll, IsFirstFault}
use Rattle.bmp_cert.proofs.RuleLemmas.{keeps_before}
use Rattle.bmp_cert.specs.JobGraphs.{IsJobGraph, IsPrepared}
use Rattle.bmp_cert.specs.declared.cert.Cert.{Cert}
use Rattle.bmp_interval.specs.IntervalViews.{system_of, vertices_of}
use Rattle.bmp_interval.specs.declared.interval.Interval.{Interval}
use Rattle.bmp_graph.specs.Graph.{Graph}
use Rattle.bmp_report.specs.GraphText.{graph_text, gkm_text}
use Rattle.bmp_program.specs.Reports.{fault_status, JobReport, CertReport, GraphReport, GkmReport, KlReport, IsBuiltCert, BuiltReport, CompareReport}
use Rattle.bmp_program.specs.Runs.{Report}
use Rattle.bmp_program.specs.declared.status.Status.{Status}
use Rattle.bmp_program.specs.declared.status.Status.TheVariants.{Done, BadJob, GkmFailed}

-- a fault has one of two statuses
by_fault : (P : Status → Type 0) (f : JobFault) → P BadJob → P GkmFailed → P (fault_status f)
by_fault P (Cartan f) bad gkm = bad
by_fault P (Finite e) bad gkm = bad
by_fault P (Prime p) bad gkm = bad
by_fault P (Letter e) bad gkm = bad
by_fault P (Reduced n) bad gkm = bad
by_fault P (TooMany n) bad gkm = bad
by_fault P (DegreeBound d) bad gkm = bad
by_fault P (TooLarge n) bad gkm = bad
by_fault P (ZeroLabel x y) bad gkm = bad
by_fault P (Gkm p) bad gkm = gkm

pub gkm_fault : (j : Job) (s : Status) (text : List ℕ) → JobReport j s text → GkmReport j s text
gkm_fault j s text is =
    subst (λ (t : Status). JobReport j t text → GkmReport j t text) (sym is.2)
    (by_fault (λ t. JobReport j t text → GkmReport j t text) is.0 (λ r. r) (λ r. r)) is

pub cert_fault : (c : Cert) (s : Status) (text : List ℕ) → JobReport c.job s text → CertReport c s text
cert_fault c s text is =
    subst (λ (t : Status). JobReport c.job t text → CertReport c t text) (sym is.2)
    (by_fault (λ t. JobReport c.job t text → CertReport c t text) is.0 (λ r. r) (λ r. r)) is

pub built_fault : (print : Graph → Cert → List ℕ) (j : Job) (s : Status) (text : List ℕ) → JobReport j s text →
    BuiltReport print j s text
built_fault print j s text is =
    subst (λ (t : Status). JobReport j t text → BuiltReport print j t text) (sym is.2)
    (by_fault (λ t. JobReport j t text → BuiltReport print j t text) is.0 (λ r. r) (λ r. r)) is

pub compare_fault : (j : Job) (s : Status) (text : List ℕ) → JobReport j s text → CompareReport j s text
compare_fault j s text is =
    subst (λ (t : Status). JobReport j t text → CompareReport j t text) (sym is.2)
    (by_fault (λ t. JobReport j t text → CompareReport j t text) is.0 (λ r. r) (λ r. r)) is

-- where one of the rules of the graph fails, the first rule that fails is one of them
early_status : (j : Job) (f : JobFault) → (KeepsAll graph_rules j → ⊥) → IsFirstFault j f → fault_status f ≡ BadJob
early_status j (Cartan f) none h = refl
early_status j (Finite e) none h = refl
early_status j (Prime p) none h = refl
early_status j (Letter e) none h = refl
early_status j (Reduced n) none h = refl
early_status j (TooMany n) none h = refl
early_status j (DegreeBound d) none h = refl
early_status j (TooLarge n) none h = refl
early_status j (ZeroLabel x y) none h = refl
early_status j (Gkm p) none h = absurd (none (keeps_before j graph_rules (HasGkmGraph ∷ []) 0 h.fails))

pub graph_fault : (j : Job) (s : Status) (text : List ℕ) → (KeepsAll graph_rules j → ⊥) → JobReport j s text →
    GraphReport j s text
graph_fault j s text none is =
    let bad : s ≡ BadJob = is.2 ∙ early_status j is.0 none is.1 in
    subst (λ (t : Status). GraphReport j t text) (sym bad) (subst (λ (t : Status). JobReport j t text) bad is)

pub kl_fault : (j : Job) (s : Status) (text : List ℕ) → (KeepsAll graph_rules j → ⊥) → JobReport j s text →
    KlReport j s text
kl_fault j s text none is =
    let bad : s ≡ BadJob = is.2 ∙ early_status j is.0 none is.1 in
    subst (λ (t : Status). KlReport j t text) (sym bad) (subst (λ (t : Status). JobReport j t text) bad is)

-- where all rules that are tried hold, the text is that of the job's graph
pub graph_done : (j : Job) (interval : Interval) (g : Graph) (text : List ℕ) (answer : Report) →
    KeepsAll graph_rules j → IsPrepared j interval g → text ≡ graph_text (system_of interval) (vertices_of interval) g →
    answer ≡ record { status = Done; text = text } → GraphReport j answer.status answer.text
graph_done j interval g text answer kept prepared text_is is =
    let of : IsJobGraph j g = record {
      roots = system_of interval;
      vertices = vertices_of interval;
      system = prepared.system;
      interval = prepared.interval_is;
      bruhat = prepared.bruhat;
      graph = prepared.graph;
    } in
    subst (λ (r : Report). GraphReport j r.status r.text) (sym is) (kept, (g, of, text_is))

pub gkm_done : (j : Job) (g : Graph) (text : List ℕ) (answer : Report) → KeepsAll rules j → IsJobGraph j g →
    text ≡ gkm_text g → answer ≡ record { status = Done; text = text } → GkmReport j answer.status answer.text
gkm_done j g text answer kept of text_is is =
    subst (λ (r : Report). GkmReport j r.status r.text) (sym is) (kept, (g, of, text_is))

pub built_done : (print : Graph → Cert → List ℕ) (j : Job) (g : Graph) (c : Cert) (text : List ℕ) (answer : Report) →
    KeepsAll rules j → IsBuiltCert j g c → text ≡ print g c → answer ≡ record { status = Done; text = text } →
    BuiltReport print j answer.status answer.text
built_done print j g c text answer kept built text_is is =
    subst (λ (r : Report). BuiltReport print j r.status r.text) (sym is) (kept, (g, (c, built, text_is)))
