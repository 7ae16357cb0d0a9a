-- What the comparisons of a certificate answer, as a report of `check`.
use Rattle.std.proofs.Common.{◌≡◌, ℕ, List, sym, subst}
use Rattle.bmp_graph.specs.Graph.{Graph}
use Rattle.bmp_cert.specs.declared.cert.Cert.{Cert}
use Rattle.bmp_check.specs.declared.refusal.CheckError.{CheckError}
use Rattle.bmp_check.specs.declared.refusal.CheckError.TheVariants.{Refused as IsRefused}
use Rattle.bmp_check.specs.declared.refusal.Refusal.{Refusal}
use Rattle.bmp_cert.specs.Counts.{written_by}
use Rattle.bmp_check.specs.Accepted.{IsAccepted}
use Rattle.bmp_check.specs.CheckErrors.{IsRefusedBy}
use Rattle.bmp_check.specs.Refusals.{refusal_text}
use Rattle.bmp_check.specs.Verdicts.{Passes, IsFirstRefusal}
use Rattle.bmp_report.specs.RankLines.{cert_rank_lines}
use Rattle.bmp_program.specs.Reports.{CertReport}
use Rattle.bmp_program.specs.Runs.{Report}
use Rattle.bmp_program.specs.declared.status.Status.TheVariants.{Done, Refused}

module _ (G : Graph) (c : Cert) (accepted : IsAccepted G c) (text : List ℕ) (answer : Report) where
  pub passed_report : Passes G c.version (written_by c) → text ≡ cert_rank_lines c →
      answer ≡ record { status = Done; text = text } → CertReport c answer.status answer.text
  passed_report passes lines is =
      subst (λ (r : Report). CertReport c r.status r.text) (sym is) (accepted.rules, (G, accepted.graph, passes, lines))

  pub refused_report : (e : CheckError) (refusal : Refusal) → e ≡ IsRefused refusal →
      IsRefusedBy (IsFirstRefusal G c.version (written_by c)) e → text ≡ refusal_text refusal →
      answer ≡ record { status = Refused; text = text } → CertReport c answer.status answer.text
  refused_report e refusal of_e by line is =
      let first : IsRefusedBy (IsFirstRefusal G c.version (written_by c)) (IsRefused refusal) =
      subst (λ (e : CheckError). IsRefusedBy (IsFirstRefusal G c.version (written_by c)) e) of_e by in
      subst (λ (r : Report). CertReport c r.status r.text) (sym is) (
        accepted.rules,
        (G, accepted.graph, (refusal, first.0, line)),
      )
