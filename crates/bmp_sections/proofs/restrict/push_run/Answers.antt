use Rattle.std.proofs.Common.{◌∙◌, refl, sym, ap}
use Rattle.bmp_linear.specs.SparseVectors.{number_at}
use Rattle.bmp_sections.proofs.RestrictLemmas.{run_none, run_zero, run_pushed}
use Rattle.bmp_sections.proofs.restrict.push_run.Goals as goal
use Rattle.bmp_sections.proofs.restrict.push_run.Goals.{then-value-ne0+in_ok-push, else-value-ne0}

pub loop-c-init : goal.loop-c-init
loop-c-init c = run_none c.args.entries.now c.args.start c.args.place c.args.v.now c.requires.after

-- a number that isn't 0 is pushed, and 0 is left out
pub loop-c-preserved : goal.loop-c-preserved
loop-c-preserved c =
    let run = c.loop-c.invariant in
    let is = c.number_of-value.ensures ∙ ap (number_at c.args.entries.now) c.from.ensures in
    elim c.if-value-ne0.branch [
      | then-value-ne0+in_ok-push w ↦
          rw (w.v-is, w.in_ok-push.ensures.ok)
          (run_pushed c.args.entries.now c.args.start c.args.place c.loop-c.c c.args.v.now c.loop-c.v run _ refl is)
      | else-value-ne0 w ↦
          rw w.v-is
          (run_zero c.args.entries.now c.args.start c.args.place c.loop-c.c c.args.v.now c.loop-c.v run
          (sym is ∙ w.if-value-ne0.false))
    ]
