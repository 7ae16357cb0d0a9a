use Rattle.bmp_cert.specs.JobViews.{graph_of, prepared_of}
use Rattle.bmp_program.proofs.BuiltLemmas.{never_refused}
use Rattle.bmp_program.proofs.built_answer.checked.Goals as goal

pub unreachable-requires : goal.unreachable-requires
unreachable-requires g c =
    never_refused (graph_of (prepared_of c.args.accepted.now)) c.args.cert.now c.requires.built.passes
    c.in-Err-Refused.field-0 c.in-Err-Refused.field-0-0 c.in-Err-Refused.field-0-is c.in-Err-Refused.ensures.refused
