use Rattle.std.proofs.Common.{refl, sym, subst}
use Rattle.bmp_sheaf.specs.States.{next_vertex}
use Rattle.bmp_stalk.specs.Drafts.{IsNext, IsDraft}
use Rattle.bmp_stalk.proofs.UnderLemmas.{under_pushed, drafted, first_draft}
use Rattle.bmp_stalk.proofs.draft.begin_stalk.Goals as goal

pub returns-clause-drafted : goal.returns-clause-drafted
returns-clause-drafted g c =
    let s = c.args.sheaf.now in
    let x = next_vertex s in
    let next : IsNext s (next_vertex s) =
    record { state = c.graph.ensures.state; left = c.requires; next = refl } in
    drafted c.new-draft.result c.in_ok-push_draft.ensures next
    (subst (IsDraft s x 0) (sym c.new-draft.ensures) (first_draft s x))

pub returns-clause-under : goal.returns-clause-under
returns-clause-under g c = under_pushed c.new-draft.result c.in_ok-push_draft.ensures
