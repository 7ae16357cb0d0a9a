use Rattle.bmp_cert.specs.JobViews.{job_of, graph_of, prepared_of}
use Rattle.bmp_program.proofs.CompareAnswerLemmas.{built_compared}
use Rattle.bmp_program.proofs.compare_answer.compared.Goals as goal

pub returns : goal.returns
returns g c =
    built_compared (job_of (prepared_of c.args.accepted.now)) (graph_of (prepared_of c.args.accepted.now))
    c.in_ok-cert.cert c.in_ok-ranks.ranks c.args.table.now c.in_ok-text.text.items c.in_ok-cert.ensures
    c.in_ok-ranks.ensures c.requires.lengths c.in_ok-text.ensures
