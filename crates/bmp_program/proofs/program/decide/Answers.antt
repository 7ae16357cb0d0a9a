use Rattle.std.proofs.Common.{◌≡◌, ◌∙◌, Err, false, sym, ap, map, string_bytes}
use Rattle.bmp_ports.specs.Ports.{Rose}
use Rattle.bmp_program.specs.CommandLine.{reads_input}
use Rattle.bmp_program.specs.Runs.{answer_view}
use Rattle.bmp_program.proofs.ReportLemmas.{usage_decided, sample_decided}
use Rattle.bmp_program.proofs.program.decide.Goals as goal

pub returns-in-Err-Usage-clause-answer : goal.returns-in-Err-Usage-clause-answer
returns-in-Err-Usage-clause-answer g c =
    usage_decided (map string_bytes c.args.words.now) (g.S.Source.left c.args.source.now)
    (Rose (g.S.Source.faults c.args.source.now) (g.S.Source.faults c.args.source.now))
    (answer_view c.fixed.result) c.fixed.ensures
    (c.in-Err-Usage.ensures.usage (ap Err c.in-Err-Usage.field-0-is))

pub returns-else-reads_input-clause-answer : goal.returns-else-reads_input-clause-answer
returns-else-reads_input-clause-answer g c =
    let none : reads_input c.in-Ok.request.command ≡ false = sym c.reads_input.ensures ∙ c.if-reads_input.false in
    sample_decided (map string_bytes c.args.words.now) c.in-Ok.request.command c.in-Ok.ensures.command
    c.in-Ok.request.seed (g.S.Source.left c.args.source.now)
    (Rose (g.S.Source.faults c.args.source.now) (g.S.Source.faults c.args.source.now))
    (answer_view c.answer_sample.result) none c.in-Ok.ensures.seed c.answer_sample.ensures
