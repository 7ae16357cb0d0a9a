use Rattle.std.proofs.Common.{Err, ap}
use Rattle.bmp_ports.specs.Ports.{Rose}
use Rattle.bmp_program.specs.Runs.{answer_view}
use Rattle.bmp_program.proofs.ReportLemmas.{whole_held, report_decided, long_decided}
use Rattle.bmp_program.proofs.input.answer_to.Goals as goal

pub returns-in-Ok-report_on-clause-answer : goal.returns-in-Ok-report_on-clause-answer
returns-in-Ok-report_on-clause-answer g c =
    let a = answer_view c.in-Ok-report_on.answer in
    report_decided c.args.request.command (g.S.Source.left c.args.source.now)
    (Rose (g.S.Source.faults c.args.source.now) (g.S.Source.faults c.read_all.new.source)) a c.in-Ok.input.items
    (whole_held (g.S.Source.left c.args.source.now) (g.S.Source.left c.read_all.new.source) c.in-Ok.input.items
    c.in-Ok.ensures.all c.in-Ok.ensures.end)
    c.in-Ok.ensures.within c.in-Ok-report_on.ensures

pub returns-in-Err-TooLong-clause-answer : goal.returns-in-Err-TooLong-clause-answer
returns-in-Err-TooLong-clause-answer g c =
    long_decided c.args.request.command (g.S.Source.left c.args.source.now) (g.S.Source.left c.read_all.new.source)
    (Rose (g.S.Source.faults c.args.source.now) (g.S.Source.faults c.read_all.new.source))
    (answer_view c.fixed-in-Err-TooLong.result) c.fixed-in-Err-TooLong.ensures
    (c.in-Err-TooLong.ensures.too_long (ap Err c.in-Err-TooLong.field-0-is))
