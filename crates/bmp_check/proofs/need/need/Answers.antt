use Rattle.std.proofs.Common.{◌∙◌, sym, ap}
use Rattle.bmp_check.specs.Sizes.{need}
use Rattle.bmp_check.proofs.NeedLemmas.{need_at, need-none, empty_at}
use Rattle.bmp_check.proofs.need.need.Goals as goal

pub returns-in-Some : goal.returns-in-Some
returns-in-Some c =
    need_at c.entries.result.now c.in-Some.entry c.from.result c.entries.ensures.sparse.rising
    (c.in-Some.ensures ∙ c.last.ensures.value) c.from.ensures
    ∙ ap need c.entries.ensures.items

pub returns-in-None : goal.returns-in-None
returns-in-None c =
    sym (need-none c.entries.result.now (empty_at c.entries.result.now (c.in-None.ensures ∙ c.last.ensures.value)))
    ∙ ap need c.entries.ensures.items
