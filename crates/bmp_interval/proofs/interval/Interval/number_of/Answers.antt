use Rattle.std.proofs.Common.{sym, ap, subst, ◌∙◌, is_some, Option, Some, ℕ}
use Rattle.std.proofs.lemmas.Option.{slice_get_within, get_or_from_slice_get}
use Rattle.bmp_math.specs.Lists.{Member}
use Rattle.bmp_math.proofs.ListLemmas.{member_at}
use Rattle.bmp_weyl.specs.declared.elem.Elem.{Elem}
use Rattle.bmp_roots.specs.RootSystems.{matrix_of}
use Rattle.bmp_interval.specs.IntervalViews.{system_of, word_below, vertices_of}
use Rattle.bmp_interval.proofs.AddedLemmas.{place_found, place_missing}
use Rattle.bmp_interval.proofs.IntervalLemmas.{vertex_member}
use Rattle.bmp_interval.proofs.FactLemmas.{interval_is, word_is, one_vertex_place}
use Rattle.bmp_interval.proofs.interval.Interval.number_of.Goals as goal

pub returns-in-Some-clause-number : goal.returns-in-Some-clause-number
returns-in-Some-clause-number c =
    (place_found c.args.e.now (vertices_of c.args.self.now) c.in-Some.x
    (sym c.get_index_of.ensures.index ∙ c.in-Some.is)).1

pub returns-in-None-clause-none : goal.returns-in-None-clause-none
returns-in-None-clause-none c v =
    place_missing c.args.e.now (vertices_of c.args.self.now)
    (sym c.get_index_of.ensures.found ∙ ap (λ (o : Option ℕ). is_some o) c.in-None.is)
    (vertex_member (matrix_of (system_of c.args.self.now)) (word_below c.args.self.now) (word_is c.args.self.now)
    (vertices_of c.args.self.now)
    (interval_is c.args.self.now).vertices c.args.e.now v)

pub returns-in-Some-clause-back : goal.returns-in-Some-clause-back
returns-in-Some-clause-back c x at =
    let found = place_found c.args.e.now (vertices_of c.args.self.now) c.in-Some.x
    (sym c.get_index_of.ensures.index ∙ c.in-Some.is) in
    ap (λ (n : ℕ). Some n) (one_vertex_place c.args.self.now x c.in-Some.x c.args.e.now at found.1 found.0)

pub returns-in-None-clause-back : goal.returns-in-None-clause-back
returns-in-None-clause-back c x at =
    let list = vertices_of c.args.self.now in
    absurd (place_missing c.args.e.now list
    (sym c.get_index_of.ensures.found ∙ ap (λ (o : Option ℕ). is_some o) c.in-None.is)
    (subst (λ (e : Elem). Member e list) (get_or_from_slice_get list x c.args.e.now c.args.e.now at)
    (member_at list x c.args.e.now (slice_get_within list x c.args.e.now at))))
