use Rattle.std.proofs.Common.{◌∙◌, sym, arith}
use Rattle.bmp_linear.proofs.MergeLemmas.{number_reached, number_missed}
use Rattle.bmp_sections.proofs.runs.number_of.Goals as goal
use Rattle.bmp_sections.proofs.runs.number_of.Goals.{else-at-entries-via-then-at-entries+else-from-place, else-at-entries-via-else-at-entries}

pub returns-then-from-place : goal.returns-then-from-place
returns-then-from-place c =
    number_reached c.args.entries.now c.first_from-at.result c.args.place _ c.requires.rising c.if-at-entries.true
    (sym c.from.ensures ∙ c.if-from-place.true)

pub returns-else-at-entries : goal.returns-else-at-entries
returns-else-at-entries c =
    elim c.else-at-entries.branch [
      | else-at-entries-via-then-at-entries+else-from-place w ↦
          sym (number_missed c.args.entries.now c.first_from-at.result c.args.place (record { place = 0; value = 0 })
          c.requires.rising c.first_from-at.ensures.passed c.first_from-at.ensures.reached
          (λ l same. w.if-from-place.false (w.from.ensures ∙ same)))
      | else-at-entries-via-else-at-entries w ↦
          sym (number_missed c.args.entries.now c.first_from-at.result c.args.place (record { place = 0; value = 0 })
          c.requires.rising c.first_from-at.ensures.passed c.first_from-at.ensures.reached
          (λ l. absurd (omega (arith, w.if-at-entries.false))))
    ]
