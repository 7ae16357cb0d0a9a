use Rattle.std.proofs.Common.{◌∙◌, subst}
use Rattle.bmp_cert.specs.declared.job.Job.{Job}
use Rattle.bmp_cert.specs.JobViews.{graph_of, prepared_of}
use Rattle.bmp_report.specs.RankLines.{cert_rank_lines}
use Rattle.bmp_report.proofs.RankLemmas.{ranks_lines}
use Rattle.bmp_program.specs.Reports.{IsBuiltCert}
use Rattle.bmp_program.specs.Runs.{answer_view}
use Rattle.bmp_program.proofs.JobAnswerLemmas.{built_done}
use Rattle.bmp_program.proofs.built_answer.ranks_answer.Goals as goal

pub returns-in_ok-text-in-Ok : goal.returns-in_ok-text-in-Ok
returns-in_ok-text-in-Ok g c =
    let graph = graph_of (prepared_of c.in-Ok.accepted) in
    let cert = c.in_ok-cert-in-Ok.cert in
    built_done (λ g k. cert_rank_lines k) c.args.j.now graph cert c.in_ok-text-in-Ok.text.items
    (answer_view c.made.result) c.in-Ok.ensures.kept
    (subst (λ (k : Job). IsBuiltCert k graph cert) c.in-Ok.ensures.job c.in_ok-cert-in-Ok.ensures)
    (c.in_ok-text-in-Ok.ensures ∙ ranks_lines cert c.in_ok-ranks-in-Ok.ranks c.in_ok-ranks-in-Ok.ensures)
    c.made.ensures
