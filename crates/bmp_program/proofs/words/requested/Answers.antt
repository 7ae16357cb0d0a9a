use Rattle.clap.specs.Matches.{found_of}
use Rattle.clap.specs.Walk.{rows_of}
use Rattle.bmp_program.proofs.WordLemmas.{command_of}
use Rattle.bmp_program.proofs.words.requested.Goals as goal

pub returns-clause-command : goal.returns-clause-command
returns-clause-command c =
    command_of (rows_of (found_of c.args.matches.now)) c.is_some-seeded.result c.text_at.result c.text_at-2.result _
    c.is_some-seeded.ensures c.text_at.ensures c.text_at-2.ensures c.in_ok-command.ensures
