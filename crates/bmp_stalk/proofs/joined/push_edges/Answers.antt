use Rattle.std.proofs.Common.{◌≡◌, ℕ, ◌+◌, refl, sym, subst, ◌∙◌, arith}
use Rattle.bmp_graph.specs.Graph.{IsUpRange, lower}
use Rattle.bmp_sheaf.specs.Coordinates.{boundary_start, edge_module_count}
use Rattle.bmp_sheaf.specs.States.{sheaf_of}
use Rattle.bmp_cover.proofs.InputLemmas.{starts, high_values, goes_on, starts_at, ends_at}
use Rattle.bmp_stalk.specs.Values.{joined_matrix, HasRowsOf}
use Rattle.bmp_stalk.proofs.JoinedLemmas.{same_from_rows}
use Rattle.bmp_stalk.proofs.joined.push_edges.Goals as goal

pub loop-e-init : goal.loop-e-init
loop-e-init g c =
    let s = c.args.sheaf.now in
    let first : ℕ = c.up-from.result.0 in
    let past : ℕ = c.up-from.result.1 in
    let range = subst (λ h. IsUpRange h c.args.x first past) c.graph.ensures.graph c.up-from.ensures.range in
    let J = joined_matrix s.graph (sheaf_of s) c.args.x c.args.d (g.T.Sections.list c.args.tuples.now) in
    record {
      rows = subst (λ n. HasRowsOf n J (g.A.Rows.matrix c.args.o.now))
          (starts_at s c.args.x c.args.d c.graph.ensures.state c.requires.stalks first past range) c.requires.before;
      joined = refl;
    }

pub push_edge-requires-clause-tuples : goal.push_edge-requires-clause-tuples
push_edge-requires-clause-tuples g c =
    let s = c.args.sheaf.now in
    let first : ℕ = c.up-from.result.0 in
    let past : ℕ = c.up-from.result.1 in
    let range = subst (λ h. IsUpRange h c.args.x first past) c.graph.ensures.graph c.up-from.ensures.range in
    high_values s c.args.x c.args.d c.graph.ensures.state c.requires.stalks first past range c.loop-e.e
    c.loop-e.auto.e c.loop-e-test.true (g.T.Sections.list c.args.tuples.now) c.requires.tuples

pub loop-e-preserved : goal.loop-e-preserved
loop-e-preserved g c =
    let s = c.args.sheaf.now in
    let x : ℕ = c.args.x in
    let d : ℕ = c.args.d in
    let e : ℕ = c.loop-e.e in
    let first : ℕ = c.up-from.result.0 in
    let past : ℕ = c.up-from.result.1 in
    let list = g.T.Sections.list c.args.tuples.now in
    let o = g.A.Rows.matrix c.push_edge.new.o in
    let range = subst (λ h. IsUpRange h x first past) c.graph.ensures.graph c.up-from.ensures.range in
    let at : lower s.graph e ≡ x =
    starts s x d c.graph.ensures.state c.requires.stalks first past range e c.loop-e.auto.e c.loop-e-test.true in
    let end : ℕ → ℕ = λ y. boundary_start s.graph (sheaf_of s) y d e + edge_module_count s.graph (sheaf_of s) d e in
    let more : HasRowsOf (end x) (joined_matrix s.graph (sheaf_of s) x d list) o =
    subst (λ y. HasRowsOf (end y) (joined_matrix s.graph (sheaf_of s) y d list) o) at
    c.in_ok-push_edge.ensures.pushed in
    record {
      rows = subst (λ n. HasRowsOf n (joined_matrix s.graph (sheaf_of s) x d list) o)
          (sym (goes_on s x d c.graph.ensures.state c.requires.stalks first past range e c.loop-e.auto.e
          c.loop-e-test.true)) more;
      joined = c.push_edge.auto.joined ∙ c.loop-e.invariant.joined;
    }

pub returns : goal.returns
returns g c =
    let s = c.args.sheaf.now in
    let e : ℕ = c.loop-e.e in
    let first : ℕ = c.up-from.result.0 in
    let past : ℕ = c.up-from.result.1 in
    let range = subst (λ h. IsUpRange h c.args.x first past) c.graph.ensures.graph c.up-from.ensures.range in
    let ends : e ≡ past = omega (arith, c.loop-e-test.false, c.loop-e.auto.e-end, range.ordered) in
    record {
      same = same_from_rows {n = boundary_start s.graph (sheaf_of s) c.args.x c.args.d e}
          {a = joined_matrix s.graph (sheaf_of s) c.args.x c.args.d (g.T.Sections.list c.args.tuples.now)}
          (ends_at s c.args.x c.args.d c.graph.ensures.state c.requires.stalks first past range e ends)
          c.loop-e.invariant.rows;
    }
