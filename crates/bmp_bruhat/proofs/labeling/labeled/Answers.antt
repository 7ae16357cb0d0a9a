use Rattle.std.proofs.Common.{◌≡◌, ◌<◌, ℕ, length, get_or, arith, refl, sym, subst}
use Rattle.bmp_roots.specs.RootSystems.{matrix_of, positives}
use Rattle.bmp_roots.specs.declared.root_system.Roots.{Roots}
use Rattle.bmp_interval.specs.IntervalViews.{system_of}
use Rattle.bmp_bruhat.specs.Labels.{form_in}
use Rattle.bmp_bruhat.specs.Building.{AreLabeled}
use Rattle.bmp_bruhat.specs.declared.root_edge.RootEdge.{RootEdge}
use Rattle.bmp_bruhat.proofs.LabelLemmas.{IsZeroAt, IsLabelAt, AreLabeled-more, first_zero_at}
use Rattle.bmp_bruhat.proofs.ZeroLemmas.{first_zero_label, root_within}
use Rattle.bmp_bruhat.proofs.labeling.labeled.Goals as goal

abbrev none : RootEdge
none = record { lower = 0; upper = 0; root = 0 }

pub root_label-requires-clause-root : goal.root_label-requires-clause-root
root_label-requires-clause-root c =
    let read : RootEdge = get_or c.args.found.now c.loop-edge.edge-index none in
    subst (λ (r : Roots). read.root < length (positives r)) (sym c.roots-roots.ensures)
    (root_within c.requires.found c.loop-edge.edge-index none c.loop-edge-test.true)

pub returns-in_default-clause-error : goal.returns-in_default-clause-error
returns-in_default-clause-error c =
    let read : RootEdge = get_or c.args.found.now c.loop-edge.edge-index none in
    first_zero_label c.requires.found
    (first_zero_at c.loop-edge.invariant none c.loop-edge-test.true (omega (arith, c.requires.prime))
    (subst (IsZeroAt c.args.weight c.args.prime read.root) c.roots-roots.ensures c.in_default.ensures))

pub loop-edge-preserved : goal.loop-edge-preserved
loop-edge-preserved c =
    let read : RootEdge = get_or c.args.found.now c.loop-edge.edge-index none in
    AreLabeled-more c.loop-edge.invariant _ none
    (record { lower = read.lower; upper = read.upper; label = c.in-Some.label }) c.loop-edge-test.true
    (record {
      lower = refl;
      upper = refl;
      label = subst (IsLabelAt c.args.weight c.args.prime read.root c.in-Some.label) c.roots-roots.ensures
          c.in-Some.ensures;
    })
    c.in_ok-push.ensures.items

pub returns-clause-ok : goal.returns-clause-ok
returns-clause-ok c =
    let all : c.loop-edge.edge-index ≡ length c.args.found.now =
    omega (arith, c.loop-edge-test.false, c.loop-edge.auto.edge-index-end) in
    subst (λ (n : ℕ). AreLabeled (system_of c.args.interval.now) c.args.prime
    (form_in (matrix_of (system_of c.args.interval.now)) c.args.weight) n c.args.found.now c.loop-edge.edges.items)
    all c.loop-edge.invariant
