use Rattle.std.proofs.Common.{◌∙◌, List, ℕ, sym, ap, subst}
use Rattle.std.specs.List.Sorted.{IsStrictlyIncreasing}
use Rattle.bmp_check.specs.Sizes.{need_of_places}
use Rattle.bmp_check.proofs.NeedLemmas.{need_of_places_at, need_of_places-none, empty_at}
use Rattle.bmp_check.proofs.need.need_of_places.Goals as goal

pub returns-in-Some : goal.returns-in-Some
returns-in-Some c =
    need_of_places_at c.as_slice.result.now c.in-Some.place.now c.from.result
    (subst (λ (ps : List ℕ). IsStrictlyIncreasing ps) (sym c.as_slice.ensures.items) c.requires)
    c.in-Some.ensures.value c.from.ensures
    ∙ ap need_of_places c.as_slice.ensures.items

pub returns-in-None : goal.returns-in-None
returns-in-None c =
    sym (need_of_places-none c.as_slice.result.now (empty_at c.as_slice.result.now c.in-None.ensures.value))
    ∙ ap need_of_places c.as_slice.ensures.items
