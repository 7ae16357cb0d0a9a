use Rattle.std.proofs.Common.{sym, ◌∙◌, Some}
use Rattle.std.proofs.lemmas.Bool.Decides.{Decides-eqb}
use Rattle.std.proofs.lemmas.Slice.Eq.{strip_prefix_is}
use Rattle.bmp_text.proofs.ahead.Ahead.keyword.Goals as goal

pub returns-in-Some-clause-read : goal.returns-in-Some-clause-read
returns-in-Some-clause-read c =
    λ t. sym c.self.view_is ∙ strip_prefix_is Decides-eqb c.self.inside.rest.now c.args.word.now (Some c.in-Some.rest)
    c.in-Some.ensures.cases
