use Rattle.std.proofs.Common.{◌≡◌, ◌+◌, ◌-◌, ◌*◌, ◌≤◌, List, length, take, drop, refl, sym, subst, ap, ◌∙◌, arith, rules}
use Rattle.std.specs.List.{All}
use Rattle.std.proofs.lemmas.List.Elements.{All-take, All-drop}
use Rattle.std.specs.Prelude.{slice_range}
use Rattle.bmp_linear.specs.declared.vector.Entry.{Entry}
use Rattle.bmp_linear.specs.SparseVectors.{ValuesBelow}
use Rattle.bmp_linear.specs.RowTables.{matrix_of_entries}
use Rattle.bmp_module.specs.FreeModules.{degrees_of}
use Rattle.bmp_module.specs.QuotientModules.{free_of}
use Rattle.bmp_graph.specs.Graph.{IsUpRange}
use Rattle.bmp_sheaf.specs.States.{with_stalk}
use Rattle.bmp_sheaf.proofs.UpEdges.{GoesUp, goes_up}
use Rattle.bmp_sheaf.proofs.StalkTableLemmas.{edge_lifts_inside, upper_inside, upper_read}
use Rattle.bmp_sheaf.proofs.NewMaps.{up_none, up_starts, up_more, up_ends, lower_all, new_lower, own_fit}
use Rattle.bmp_sheaf.specs.UpperTables.{UpperTable, IsEdgeModule}
use Rattle.bmp_sheaf.proofs.UpperTableLemmas.{low_degrees, edge_label}
use Rattle.bmp_sheaf.proofs.sheaf.Sheaf.lower_up.Given.{Over}
use Rattle.bmp_sheaf.proofs.sheaf.Sheaf.lower_up.Goals.{In-loop-e, After-behind-uppers}
use Rattle.bmp_sheaf.proofs.sheaf.Sheaf.lower_up.Goals as goal

goes : (g : Over) (c : In-loop-e g) →
    GoesUp c.args.self.now.graph c.args.x c.loop-e.e (c.loop-e.e - c.up-first.result.0)
goes g c =
    goes_up c.args.self.now.graph _ c.args.x c.up-first.result.0 c.up-first.result.1 c.loop-e.e c.graph.ensures.graph
    c.up-first.ensures.range
    c.loop-e.auto.e c.loop-e-test.true

edge_is : (g : Over) (c : After-behind-uppers g) →
    IsEdgeModule c.args.self.now c.loop-e.e c.behind-uppers.inside.quotient
edge_is g c =
    let up = goes_up c.args.self.now.graph _ c.args.x c.up-first.result.0 c.up-first.result.1 c.loop-e.e
    c.graph.ensures.graph c.up-first.ensures.range
    c.loop-e.auto.e c.loop-e-test.true in
    subst (λ (u : UpperTable). IsEdgeModule c.args.self.now c.loop-e.e u.quotient)
    (sym (c.behind-uppers.view_is ∙ c.deref.ensures))
    (upper_read c.args.uppers.now c.requires.uppers up c.index-uppers-e.result c.index-uppers-e.is).edge

lifts_inside : (g : Over) (c : In-loop-e g) →
    (c.loop-e.e - c.up-first.result.0) * c.generators-generators.result + c.generators-generators.result ≤ length
    c.args.lifts.now
lifts_inside g c =
    rw c.generators-generators.ensures
    (edge_lifts_inside c.args.self.now c.args.x (degrees_of c.args.from.now) c.args.lifts.now c.requires.stalk
    c.loop-e.e (c.loop-e.e - c.up-first.result.0) (goes g c).at)

pub offset_bounds-lifts-start : goal.offset_bounds-lifts-start
offset_bounds-lifts-start g c = omega (arith, lifts_inside g (goal.at.offset_bounds-lifts-start g c).In-loop-e)

pub slice_bounds-own-end : goal.slice_bounds-own-end
slice_bounds-own-end g c = let inside = lifts_inside g (goal.at.slice_bounds-own-end g c).In-loop-e in search rules

pub bounds-uppers-e : goal.bounds-uppers-e
bounds-uppers-e g c = upper_inside c.args.uppers.now c.requires.uppers (goes g (goal.at.bounds-uppers-e g c).In-loop-e)

pub lifted-requires-clause-fit : goal.lifted-requires-clause-fit
lifted-requires-clause-fit g c =
    let up = goes g (goal.at.lifted-requires-clause-fit g c).In-loop-e in
    let is = edge_is g (goal.at.lifted-requires-clause-fit g c).After-behind-uppers in
    let lifts = c.args.lifts.now in
    let start = (c.loop-e.e - c.up-first.result.0) * c.generators-generators.result in
    own_fit c.args.self.now c.requires.left c.graph.ensures.state.over.is_graph c.args.x c.requires.next
    (degrees_of c.args.from.now) lifts c.loop-e.e (c.loop-e.e - c.up-first.result.0) up.is_edge up.at up.starts
    (degrees_of (free_of c.behind-uppers.inside.quotient)) is.degrees c.generators-generators.result
    (slice_range lifts start (start + c.generators-generators.result)) c.generators-generators.ensures refl _
    is.rank
    c.requires.stalk

pub lifted-requires-clause-prime : goal.lifted-requires-clause-prime
lifted-requires-clause-prime g c =
    let is = edge_is g (goal.at.lifted-requires-clause-prime g c).After-behind-uppers in
    ap g.F.Field.size c.field-f.ensures.field ∙ c.field-f.ensures.size ∙ sym is.label_prime

pub lower_rows-requires-clause-label : goal.lower_rows-requires-clause-label
lower_rows-requires-clause-label g c =
    let is = edge_is g (goal.at.lower_rows-requires-clause-label g c).After-behind-uppers in
    edge_label c.args.self.now c.loop-e.e c.table-table.result.now c.behind-uppers.inside.quotient c.table-table.ensures
    is

pub lifted-requires-clause-degrees : goal.lifted-requires-clause-degrees
lifted-requires-clause-degrees g c =
    low_degrees (degrees_of c.args.from.now) c.args.self.now.degree c.graph.ensures.state.bound c.requires.stalk.bound

pub lifted-requires-clause-values : goal.lifted-requires-clause-values
lifted-requires-clause-values g c =
    let lifts = c.args.lifts.now in
    let start = (c.loop-e.e - c.up-first.result.0) * c.generators-generators.result in
    let many = start + c.generators-generators.result - start in
    let size : g.F.Field.size c.field-f.result.now ≡ c.args.self.now.graph.prime =
    ap g.F.Field.size c.field-f.ensures.field ∙ c.field-f.ensures.size in
    subst (λ p. All (λ (v : List Entry). ValuesBelow v p) (take many (drop start lifts))) (sym size)
    (All-take (λ (v : List Entry). ValuesBelow v c.args.self.now.graph.prime) many (drop start lifts)
    (All-drop (λ (v : List Entry). ValuesBelow v c.args.self.now.graph.prime) start lifts c.requires.values))

pub loop-e-init : goal.loop-e-init
loop-e-init g c =
    let s = with_stalk c.args.self.now (record { degrees = degrees_of c.args.from.now; lifts = c.args.lifts.now }) in
    rw c.new-lower.ensures.items (up_none s c.up-first.result.0)

pub loop-d-init : goal.loop-d-init
loop-d-init g c =
    let s = with_stalk c.args.self.now (record { degrees = degrees_of c.args.from.now; lifts = c.args.lifts.now }) in
    up_starts s c.up-first.result.0 c.loop-e.e c.loop-e.lower.items c.loop-e.invariant

pub loop-d-preserved : goal.loop-d-preserved
loop-d-preserved g c =
    let s = c.args.self.now in
    let degrees = degrees_of c.args.from.now in
    let lifts = c.args.lifts.now in
    let up = goes g (goal.at.loop-d-preserved g c).In-loop-e in
    let is = edge_is g (goal.at.loop-d-preserved g c).After-behind-uppers in
    let start = (c.loop-e.e - c.up-first.result.0) * c.generators-generators.result in
    let below = new_lower s c.requires.left c.graph.ensures.state.over.is_graph c.args.x c.requires.next degrees lifts
    c.loop-e.e (c.loop-e.e - c.up-first.result.0) up.is_edge up.at up.starts
    (degrees_of (free_of c.behind-uppers.inside.quotient)) is.degrees c.generators-generators.result
    (slice_range lifts start (start + c.generators-generators.result)) c.generators-generators.ensures refl
    c.loop-d.d _ c.table-table.result.now c.table-table.ensures is.rank (matrix_of_entries c.in_ok-rows.rows)
    c.in_ok-rows.ensures in
    rw c.in_ok-push.ensures.items
    (up_more (with_stalk s (record { degrees = degrees; lifts = lifts })) c.up-first.result.0 c.loop-e.e c.loop-d.d
    c.loop-d.lower.items c.in_ok-rows.rows c.loop-e.auto.e
    (omega (arith, c.loop-d-test.true, c.degree-d-end.ensures.degree)) below c.loop-d.invariant)

pub loop-e-preserved : goal.loop-e-preserved
loop-e-preserved g c =
    let t = with_stalk c.args.self.now (record { degrees = degrees_of c.args.from.now; lifts = c.args.lifts.now }) in
    up_ends t c.up-first.result.0 c.loop-e.e c.loop-d.d c.loop-d.lower.items c.loop-e.auto.e
    (omega (arith, c.loop-d.auto.d-end, c.loop-d-test.false, c.degree-d-end.ensures.degree)) c.loop-d.invariant

pub returns : goal.returns
returns g c =
    let s = c.args.self.now in
    let range : IsUpRange s.graph c.args.x c.up-first.result.0 c.up-first.result.1 =
    subst (λ H. IsUpRange H c.args.x c.up-first.result.0 c.up-first.result.1) c.graph.ensures.graph
    c.up-first.ensures.range in
    let t = with_stalk c.args.self.now (record { degrees = degrees_of c.args.from.now; lifts = c.args.lifts.now }) in
    lower_all t c.up-first.result.0 c.args.x c.up-first.result.1 c.loop-e.e c.loop-e.lower.items range
    (omega (arith, range.ordered, c.loop-e.auto.e-end, c.loop-e-test.false)) c.loop-e.invariant
