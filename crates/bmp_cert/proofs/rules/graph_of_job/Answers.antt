use Rattle.std.proofs.Common.{◌≡◌, [], ◌∷◌, Bool, subst}
use Rattle.bmp_roots.specs.RootPairs.{Vector, RootPair}
use Rattle.bmp_roots.specs.RootSystems.{matrix_of, positive_roots_of}
use Rattle.bmp_interval.specs.IntervalViews.{system_of, vertices_of}
use Rattle.bmp_bruhat.specs.Labels.{form_in}
use Rattle.bmp_bruhat.specs.Edges.{IsBruhatGraph, IsFirstZeroLabel}
use Rattle.bmp_bruhat.specs.Building.{IsError}
use Rattle.bmp_bruhat.specs.declared.error.BruhatError.TheVariants.{ZeroLabel as Zero}
use Rattle.bmp_cert.specs.JobRules.{HasLabels, size_rules, graph_rules, IsFirstFault}
use Rattle.bmp_cert.specs.declared.job_fault.JobFault.TheVariants.{ZeroLabel}
use Rattle.bmp_cert.proofs.RuleLemmas.{keeps_both, not_kept}
use Rattle.bmp_cert.proofs.LabelLemmas.{of_job, graph_has_labels, label_fault}
use Rattle.bmp_cert.proofs.rules.graph_of_job.Goals as goal

pub returns-in-Ok-clause-bruhat : goal.returns-in-Ok-clause-bruhat
returns-in-Ok-clause-bruhat c =
    let j = c.args.j.now in let roots = system_of c.args.interval.now in let vertices =
    vertices_of c.args.interval.now in
    of_job j roots vertices c.requires.system c.requires.interval
    (λ (form : RootPair → Vector). IsBruhatGraph roots vertices j.prime form c.in-Ok.graph)
    (subst (λ (w : Bool). IsBruhatGraph roots vertices j.prime (form_in (matrix_of roots) w) c.in-Ok.graph)
    c.by_weights.ensures c.in-Ok.ensures.bruhat)

pub returns-in-Ok-clause-kept : goal.returns-in-Ok-clause-kept
returns-in-Ok-clause-kept c =
    let j = c.args.j.now in
    keeps_both j size_rules (HasLabels ∷ []) c.requires.before (
      graph_has_labels j (system_of c.args.interval.now) (vertices_of c.args.interval.now) c.requires.system
          c.requires.interval c.in-Ok.graph
          (returns-in-Ok-clause-bruhat c) c.in-Ok.ensures.graph,
      tt,
    )

pub returns-in-Err-ZeroLabel-clause-fault : goal.returns-in-Err-ZeroLabel-clause-fault
returns-in-Err-ZeroLabel-clause-fault c =
    let j = c.args.j.now in let roots = system_of c.args.interval.now in let vertices =
    vertices_of c.args.interval.now in
    let x = c.in-Err-ZeroLabel.lower in let y = c.in-Err-ZeroLabel.upper in
    let error : IsError roots vertices j.prime (form_in (matrix_of roots) c.by_weights.result) (Zero x y) =
    rw c.in-Err-ZeroLabel.field-0-is at c.in-Err-ZeroLabel.ensures.error in
    label_fault j roots vertices c.requires.system c.requires.interval x y c.requires.before
    (of_job j roots vertices c.requires.system c.requires.interval
    (λ (form : RootPair → Vector). IsFirstZeroLabel (matrix_of roots) (positive_roots_of roots) vertices j.prime
    form x y)
    (subst (λ (w : Bool). IsFirstZeroLabel (matrix_of roots) (positive_roots_of roots) vertices j.prime
    (form_in (matrix_of roots) w) x y) c.by_weights.ensures error))

pub returns-in-Err-ZeroLabel-clause-only : goal.returns-in-Err-ZeroLabel-clause-only
returns-in-Err-ZeroLabel-clause-only c = λ kept.
    let fault : IsFirstFault c.args.j.now (ZeroLabel c.in-Err-ZeroLabel.lower c.in-Err-ZeroLabel.upper) =
    returns-in-Err-ZeroLabel-clause-fault c in
    absurd (not_kept c.args.j.now graph_rules 8 fault.fails kept)
