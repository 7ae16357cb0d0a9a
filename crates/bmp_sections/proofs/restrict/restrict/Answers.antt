use Rattle.std.proofs.Common.{◌<◌, ◌≤◌, ◌∙◌, refl, sym, ap, subst, arith}
use Rattle.bmp_graph.specs.Graph.{vertex_count}
use Rattle.bmp_sheaf.specs.States.{sheaf_of}
use Rattle.bmp_sections.proofs.RestrictLemmas.{IsRunPushed, restricted_none, room_at, restricted_out, restricted_left, restricted_more, same_tuple, stays_section}
use Rattle.bmp_sections.proofs.restrict.restrict.Goals as goal
use Rattle.bmp_sections.proofs.restrict.restrict.Goals.{then-has, then-has-2+in_ok-push_run, else-has-2, else-has}

pub loop-y-init : goal.loop-y-init
loop-y-init g c =
    rw c.new-restricted.ensures
    (restricted_none c.args.sheaf.now.graph (sheaf_of c.args.sheaf.now) c.args.d c.args.from.now c.args.to.now
    c.args.t.now)

pub overflow_cast-len : goal.overflow_cast-len
overflow_cast-len g c =
    let s = c.args.sheaf.now in
    let below : c.loop-y.y < vertex_count s.graph =
    omega (arith, c.loop-y-test.true, c.vertices-y-end.ensures.count, ap vertex_count c.graph.ensures.graph) in
    omega (
      arith,
      room_at c.loop-y.invariant below (sym c.has.ensures ∙ c.if-has.true) c.stalk_len-len.ensures
          c.requires.few,
    )

pub push_run-requires-clause-few : goal.push_run-requires-clause-few
push_run-requires-clause-few g c =
    let s = c.args.sheaf.now in
    let below : c.loop-y.y < vertex_count s.graph =
    omega (arith, c.loop-y-test.true, c.vertices-y-end.ensures.count, ap vertex_count c.graph.ensures.graph) in
    room_at c.loop-y.invariant below (sym c.has.ensures ∙ c.if-has.true) c.stalk_len-len.ensures
    c.requires.few

pub push_run-requires-clause-room : goal.push_run-requires-clause-room
push_run-requires-clause-room g c =
    let s = c.args.sheaf.now in
    let below : c.loop-y.y < vertex_count s.graph =
    omega (arith, c.loop-y-test.true, c.vertices-y-end.ensures.count, ap vertex_count c.graph.ensures.graph) in
    omega (
      arith,
      c.loop-y.invariant.order,
      room_at c.loop-y.invariant below (sym c.has.ensures ∙ c.if-has.true) c.stalk_len-len.ensures
          c.requires.few,
    )

pub overflow_add-place : goal.overflow_add-place
overflow_add-place g c =
    let s = c.args.sheaf.now in
    let below : c.loop-y.y < vertex_count s.graph =
    omega (arith, c.loop-y-test.true, c.vertices-y-end.ensures.count, ap vertex_count c.graph.ensures.graph) in
    omega (
      arith,
      c.loop-y.invariant.order,
      room_at c.loop-y.invariant below (sym c.has.ensures ∙ c.if-has.true) c.stalk_len-len.ensures
          c.requires.few,
    )

pub overflow_add-start : goal.overflow_add-start
overflow_add-start g c =
    let s = c.args.sheaf.now in
    let below : c.loop-y.y < vertex_count s.graph =
    omega (arith, c.loop-y-test.true, c.vertices-y-end.ensures.count, ap vertex_count c.graph.ensures.graph) in
    omega (
      arith,
      room_at c.loop-y.invariant below (sym c.has.ensures ∙ c.if-has.true) c.stalk_len-len.ensures
          c.requires.few,
    )

pub loop-y-preserved : goal.loop-y-preserved
loop-y-preserved g c =
    let s = c.args.sheaf.now in
    let l = c.loop-y in
    elim c.if-has.branch [
      | then-has w ↦
          let here = sym c.has.ensures ∙ w.if-has.true in
          elim w.if-has-2.branch [
            | then-has-2+in_ok-push_run w' ↦
                let pushed = w'.in_ok-push_run.ensures in
                rw (w.restricted-is, w.start-is, w.place-is, w'.restricted-is, w'.place-is)
                (restricted_more l.invariant w.stalk_len-len.ensures refl here refl
                (sym w.has-then-has.ensures ∙ w'.if-has-2.true)
                (subst (λ es. IsRunPushed es l.start l.place w.stalk_len-len.result l.restricted w'.push_run.new.v)
                w'.entries.ensures.items
                (record { fits = pushed.fits; kept = pushed.kept; added = pushed.added; values = pushed.values })))
            | else-has-2 w' ↦
                rw (w.restricted-is, w.start-is, w.place-is, w'.restricted-is, w'.place-is)
                (restricted_left l.invariant w.stalk_len-len.ensures refl here
                (sym w.has-then-has.ensures ∙ w'.if-has-2.false))
          ]
      | else-has w ↦
          rw (w.restricted-is, w.start-is, w.place-is)
          (restricted_out l.invariant c.requires.within (sym c.has.ensures ∙ w.if-has.false))
    ]

pub returns-clause-tuple : goal.returns-clause-tuple
returns-clause-tuple g c =
    let all : vertex_count c.args.sheaf.now.graph ≤ c.loop-y.y =
    omega (arith, c.loop-y-test.false, c.vertices-y-end.ensures.count, ap vertex_count c.graph.ensures.graph) in
    same_tuple c.loop-y.invariant all c.graph.ensures.state.wide

pub returns-clause-section : goal.returns-clause-section
returns-clause-section g c =
    let all : vertex_count c.args.sheaf.now.graph ≤ c.loop-y.y =
    omega (arith, c.loop-y-test.false, c.vertices-y-end.ensures.count, ap vertex_count c.graph.ensures.graph) in
    stays_section c.loop-y.invariant all c.graph.ensures.state.wide c.graph.ensures.state.over.is_graph
    c.requires.within
