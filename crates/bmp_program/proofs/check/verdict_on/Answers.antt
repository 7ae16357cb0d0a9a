use Rattle.std.proofs.Common.{◌∙◌}
use Rattle.bmp_cert.specs.JobViews.{graph_of, prepared_of}
use Rattle.bmp_report.proofs.RankLemmas.{ranks_lines}
use Rattle.bmp_program.specs.Runs.{answer_view}
use Rattle.bmp_program.proofs.CheckAnswerLemmas.{passed_report, refused_report}
use Rattle.bmp_program.proofs.check.verdict_on.Goals as goal

pub check_with-requires-clause-formed : goal.check_with-requires-clause-formed
check_with-requires-clause-formed g c = λ ks lives. c.requires.accepted.formed

pub returns-in_ok-lines-in-Ok : goal.returns-in_ok-lines-in-Ok
returns-in_ok-lines-in-Ok g c =
    passed_report (graph_of (prepared_of c.args.accepted.now)) c.args.cert.now c.requires.accepted
    c.in_ok-lines-in-Ok.lines.items (answer_view c.made.result) c.in-Ok.ensures.passes
    (c.in_ok-lines-in-Ok.ensures ∙ ranks_lines c.args.cert.now c.in-Ok.ranks c.in-Ok.ensures.ranks) c.made.ensures

pub returns-in_ok-line-in-Err-Refused : goal.returns-in_ok-line-in-Err-Refused
returns-in_ok-line-in-Err-Refused g c =
    refused_report (graph_of (prepared_of c.args.accepted.now)) c.args.cert.now c.requires.accepted
    c.in_ok-line-in-Err-Refused.line.items (answer_view c.made-in-Err-Refused.result) c.in-Err-Refused.field-0
    c.in-Err-Refused.refusal c.in-Err-Refused.field-0-is c.in-Err-Refused.ensures.refused
    c.in_ok-line-in-Err-Refused.ensures c.made-in-Err-Refused.ensures
