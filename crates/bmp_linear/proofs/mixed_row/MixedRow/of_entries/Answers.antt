use Rattle.std.proofs.Common.{◌<◌, List, length, rules, ap, sym, subst, ◌∙◌}
use Rattle.bmp_linear.specs.declared.vector.Entry.{Entry}
use Rattle.bmp_linear.specs.SparseVectors.{IsSparse, FitsBelow}
use Rattle.bmp_linear.proofs.KeptRowLemmas.{spread-length}
use Rattle.bmp_linear.specs.KeptRows.{spread_numbers, kept_numbers}
use Rattle.bmp_linear.proofs.mixed_row.MixedRow.of_entries.Goals as goal
use Rattle.bmp_linear.proofs.mixed_row.MixedRow.of_entries.Goals.{then-are_few+in_ok-from_slice, else-are_few+in_ok-numbers_of}

pub returns : goal.returns
returns c = elim c.if-are_few.branch [
  | then-are_few+in_ok-from_slice w ↦
      ap (kept_numbers c.args.cols) w.kept-is ∙ ap (spread_numbers c.args.cols) w.in_ok-from_slice.ensures.ok
  | else-are_few+in_ok-numbers_of w ↦ ap (kept_numbers c.args.cols) w.kept-is ∙ w.in_ok-numbers_of.ensures
]

pub invariant_of-result : goal.invariant_of-result
invariant_of-result c =
    let limit : c.args.cols < 4294967296 = search rules in
    elim c.if-are_few.branch [
      | then-are_few+in_ok-from_slice w ↦
          rw w.kept-is (
            limit,
            (
              subst IsSparse (sym w.in_ok-from_slice.ensures.ok) c.requires.sparse,
              subst (λ (es : List Entry). FitsBelow es c.args.cols) (sym w.in_ok-from_slice.ensures.ok) c.requires.fits,
            ),
          )
      | else-are_few+in_ok-numbers_of w ↦
          rw w.kept-is
          (limit, ap length w.in_ok-numbers_of.ensures ∙ spread-length c.args.cols c.args.entries.now)
    ]
