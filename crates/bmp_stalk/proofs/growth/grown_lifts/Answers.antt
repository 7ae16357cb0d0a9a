use Rattle.std.proofs.Common.{◌≡◌, ℕ, ◌+◌, ◌-◌, ◌*◌, ◌^◌, ◌<◌, ◌≤◌, List, [], length, take, drop, sym, ap, subst, arith}
use Rattle.bmp_linear.specs.declared.vector.Entry.{Entry}
use Rattle.bmp_graph.specs.Graph.{IsUpRange, upper}
use Rattle.bmp_sheaf.specs.Written.{first_edge, up_count}
use Rattle.bmp_sheaf.proofs.UpEdges.{first_edge_is, up_count_is}
use Rattle.bmp_cover.proofs.InputLemmas.{high_values}
use Rattle.bmp_stalk.specs.Growth.{AreAppended, lifts_on, IsLiftOf, HoldLifts}
use Rattle.bmp_stalk.proofs.AppendedLemmas.{lifts_more, edge_inside, lifts_on-length, part_is}
use Rattle.bmp_stalk.proofs.growth.grown_lifts.Goals as goal

pub offset_bounds-as_slice-start : goal.offset_bounds-as_slice-start
offset_bounds-as_slice-start g c =
    let range =
    subst (λ h. IsUpRange h c.args.x c.up-first.result.0 c.up-first.result.1) c.graph.ensures.graph
    c.up-first.ensures.range in
    let inside : c.loop-k.k * c.len-n.result + c.len-n.result ≤ length c.from.inside.lifts =
    edge_inside range c.loop-k-test.true c.from.view_is c.len-n.ensures c.requires.counted in
    let few : length c.from.inside.lifts < 2 ^ 32 =
    subst (λ vs. length vs < 2 ^ 32) c.as_slice.ensures.items c.as_slice.ensures.few in
    omega (arith, inside, few)

pub slice_bounds-old-end : goal.slice_bounds-old-end
slice_bounds-old-end g c =
    let range =
    subst (λ h. IsUpRange h c.args.x c.up-first.result.0 c.up-first.result.1) c.graph.ensures.graph
    c.up-first.ensures.range in
    let inside : c.loop-k.k * c.len-n.result + c.len-n.result ≤ length c.from.inside.lifts =
    edge_inside range c.loop-k-test.true c.from.view_is c.len-n.ensures c.requires.counted in
    omega (arith, inside, ap length c.as_slice.ensures.items)

pub push_lifts-requires-clause-tuples : goal.push_lifts-requires-clause-tuples
push_lifts-requires-clause-tuples g c =
    let s = c.args.sheaf.now in
    let first : ℕ = c.up-first.result.0 in
    let past : ℕ = c.up-first.result.1 in
    let range = subst (λ h. IsUpRange h c.args.x first past) c.graph.ensures.graph c.up-first.ensures.range in
    high_values s c.args.x c.args.d c.graph.ensures.state c.requires.stalks first past range (first + c.loop-k.k)
    (omega arith) (omega (arith, c.loop-k-test.true)) (g.T.Sections.list c.args.tuples.now) c.requires.tuples

pub loop-k-preserved : goal.loop-k-preserved
loop-k-preserved g c =
    let G = c.args.sheaf.now.graph in
    let x : ℕ = c.args.x in
    let k : ℕ = c.loop-k.k in
    let n : ℕ = c.len-n.result in
    let first : ℕ = c.up-first.result.0 in
    let past : ℕ = c.up-first.result.1 in
    let from = c.args.from.now in
    let t : ℕ = length c.args.chosen.now in
    let range = subst (λ h. IsUpRange h x first past) c.graph.ensures.graph c.up-first.ensures.range in
    let below : k < up_count G x = omega (arith, c.loop-k-test.true, up_count_is G x first past range) in
    let old : List (List Entry) = take ((k * n + n) - k * n) (drop (k * n) c.as_slice.result.now) in
    let old_is : old ≡ lifts_on from k = part_is k c.as_slice.ensures.items c.from.view_is c.len-n.ensures in
    let lifts : ℕ → List (List Entry) → ℕ → List Entry → Type 0 =
    λ f (vs : List (List Entry)). IsLiftOf (g.T.Sections.list c.args.tuples.now) (upper G f) c.args.chosen.now vs in
    let added : (ℕ → List Entry → Type 0) → ℕ → Type 0 =
    λ P m. AreAppended [] P m c.loop-k.lifts c.push_lifts.new.lifts in
    lifts_more {m = length from.degrees + t} {P = λ e. lifts (first_edge G x + e) (lifts_on from e)}
    c.loop-k.invariant
    (subst (λ f. added (lifts (f + k) (lifts_on from k)) (length from.degrees + t))
    (sym (first_edge_is G x first past range))
    (subst (λ m. added (lifts (first + k) (lifts_on from k)) (m + t)) (lifts_on-length from c.requires.counted k below)
    (subst (λ vs. added (lifts (first + k) vs) (length vs + t)) old_is c.in_ok-push_lifts.ensures)))

pub returns : goal.returns
returns g c =
    let G = c.args.sheaf.now.graph in
    let x : ℕ = c.args.x in
    let first : ℕ = c.up-first.result.0 in
    let past : ℕ = c.up-first.result.1 in
    let list = g.T.Sections.list c.args.tuples.now in
    let range = subst (λ h. IsUpRange h x first past) c.graph.ensures.graph c.up-first.ensures.range in
    let all : c.loop-k.k ≡ up_count G x =
    omega (arith, c.loop-k-test.false, c.loop-k.auto.k-end, up_count_is G x first past range) in
    subst
    (λ n. HoldLifts (length c.args.from.now.degrees + length c.args.chosen.now)
    (λ k. IsLiftOf list (upper G (first_edge G x + k)) c.args.chosen.now (lifts_on c.args.from.now k)) n
    c.loop-k.lifts) all c.loop-k.invariant
