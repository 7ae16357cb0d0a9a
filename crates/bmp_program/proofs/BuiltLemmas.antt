-- A certificate that was built, and its check.
use Rattle.std.proofs.Common.{◌≡◌, ◌∙◌, ℕ, sym, ap, subst}
use Rattle.bmp_graph.specs.Graph.{Graph}
use Rattle.bmp_cert.specs.declared.job.Job.{Job}
use Rattle.bmp_cert.specs.declared.cert.Cert.{Cert}
use Rattle.bmp_cert.specs.Counts.{RankTable, written_by, generator_count, rank_in, IsRanksOf}
use Rattle.bmp_check.specs.declared.refusal.CheckError.{CheckError}
use Rattle.bmp_check.specs.declared.refusal.CheckError.TheVariants.{Refused as IsRefused}
use Rattle.bmp_check.specs.declared.refusal.Refusal.{Refusal}
use Rattle.bmp_check.specs.CheckErrors.{IsRefusedBy}
use Rattle.bmp_check.specs.Verdicts.{Passes, IsFirstRefusal}
use Rattle.bmp_check.proofs.PassLemmas.{none_fails}
use Rattle.bmp_report.specs.SummaryText.{summary_text}
use Rattle.bmp_report.proofs.SummaryLemmas.{of_ranks}
use Rattle.bmp_program.specs.Reports.{IsBuiltCert}

-- no check refuses it
pub never_refused : (G : Graph) (c : Cert) → Passes G c.version (written_by c) → (e : CheckError) (refusal : Refusal) →
    e ≡ IsRefused refusal → IsRefusedBy (IsFirstRefusal G c.version (written_by c)) e → ⊥
never_refused G c passes e refusal of_e by =
    let first : IsRefusedBy (IsFirstRefusal G c.version (written_by c)) (IsRefused refusal) =
    subst (λ (e : CheckError). IsRefusedBy (IsFirstRefusal G c.version (written_by c)) e) of_e by in
    none_fails G c.version (written_by c) refusal passes first.0

-- the summary of its ranks is that of its own counts
pub built_summary : (n : ℕ) (j : Job) (G : Graph) (c : Cert) (r : RankTable) → IsBuiltCert j G c →
    IsRanksOf (written_by c) r →
    summary_text n j G (rank_in r) ≡ summary_text n c.job G (generator_count (written_by c))
built_summary n j G c r built ranks =
    ap (λ (k : Job). summary_text n k G (rank_in r)) (sym built.job)
    ∙ of_ranks n c G r (sym built.passes.count) ranks
