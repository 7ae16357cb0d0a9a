use Rattle.std.proofs.Common.{◌≡◌, refl, sym, rules}
use Rattle.bmp_text.specs.Words.{cut}
use Rattle.bmp_text.proofs.LaterLines.{cut_passed}
use Rattle.bmp_text.proofs.lines.Lines.next_line.Goals as goal

pub returns-clause-later : goal.returns-clause-later
returns-clause-later c =
    cut_passed c.args.self.now _ (cut 10 c.args.self.now.rest) c.split.result.0.now c.in-Some.rest.now refl
    (search rules) (search rules) (search rules) (search rules)
