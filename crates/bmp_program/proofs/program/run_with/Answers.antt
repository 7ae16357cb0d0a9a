use Rattle.std.proofs.Common.{ℕ, List, map, string_bytes, subst}
use Rattle.bmp_ports.specs.Ports.{Rose, Takes}
use Rattle.bmp_program.specs.Runs.{answer_view}
use Rattle.bmp_program.proofs.HeadlineLemmas.{headline, has_passed}
use Rattle.bmp_program.proofs.program.run_with.Goals as goal

pub returns-in-Ok-clause-certified : goal.returns-in-Ok-clause-certified
returns-in-Ok-clause-certified g c = λ asks done.
    headline (map string_bytes c.args.words.now) (g.S.Source.left c.args.source.now)
    (Rose (g.S.Source.faults c.args.source.now) (g.S.Source.faults c.decide-answer.new.source))
    (answer_view c.decide-answer.result) c.decide-answer.ensures.answer asks done
    (g.K.Sink.taken c.args.sink.now) (g.K.Sink.taken c.write_all.new.sink)
    (subst (λ (bytes : List ℕ). Takes (g.K.Sink.taken c.args.sink.now) (g.K.Sink.taken c.write_all.new.sink) bytes)
    c.bytes_of.ensures c.in-Ok.ensures.ok)

pub returns-in-Ok-clause-passed : goal.returns-in-Ok-clause-passed
returns-in-Ok-clause-passed g c = λ asks done.
    has_passed (map string_bytes c.args.words.now) (g.S.Source.left c.args.source.now)
    (Rose (g.S.Source.faults c.args.source.now) (g.S.Source.faults c.decide-answer.new.source))
    (answer_view c.decide-answer.result) c.decide-answer.ensures.answer asks done
