use Rattle.std.proofs.Common.{◌≤◌, length, arith, sym}
use Rattle.bmp_linear.proofs.MergeLemmas.{number_reached, number_missed}
use Rattle.bmp_linear.proofs.entries.number_from.Goals as goal
use Rattle.bmp_linear.proofs.entries.number_from.Goals.{else-at-entries-via-then-at-entries+else-entries-at, else-at-entries-via-else-at-entries}

pub returns-then-entries-at : goal.returns-then-entries-at
returns-then-entries-at c =
    number_reached c.args.entries.now c.args.at c.args.place (record { place = 0; value = 0 }) c.requires.rising
    c.if-at-entries.true c.if-entries-at.true

pub returns-else-at-entries : goal.returns-else-at-entries
returns-else-at-entries c =
    elim c.else-at-entries.branch [
      | else-at-entries-via-then-at-entries+else-entries-at w ↦
          sym (number_missed c.args.entries.now c.args.at c.args.place (record { place = 0; value = 0 })
          c.requires.rising c.requires.passed c.requires.reached (λ l. w.if-entries-at.false))
      | else-at-entries-via-else-at-entries w ↦
          let past : length c.args.entries.now ≤ c.args.at = w.if-at-entries.false in
          sym (number_missed c.args.entries.now c.args.at c.args.place (record { place = 0; value = 0 })
          c.requires.rising c.requires.passed c.requires.reached (λ l. absurd (omega arith)))
    ]
