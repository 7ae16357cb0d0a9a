use Rattle.std.proofs.Common.{◌≡◌, List, ℕ, length, ap, ◌∙◌, arith}
use Rattle.bmp_graded.specs.Modules.{free}
use Rattle.bmp_sheaf.specs.Coordinates.{stalk_count}
use Rattle.bmp_sheaf.proofs.ModuleLemmas.{free_count}
use Rattle.bmp_check.proofs.CountBounds.{stalk_start_small, stalk_start_smaller}
use Rattle.bmp_check.proofs.counts.stalk_size.Goals as goal

counted : (r d size : ℕ) (degrees items : List ℕ) → items ≡ degrees → size ≡ (free r items).dim d →
    size ≡ stalk_count r degrees d
counted r d size degrees items same is = is ∙ ap (λ (gs : List ℕ). (free r gs).dim d) same ∙ free_count r d degrees

pub returns-clause-number : goal.returns-clause-number
returns-clause-number c =
    counted c.args.rank c.args.d c.dimension.result c.args.degrees.now c.as_slice-items.result.now
    c.as_slice-items.ensures.items c.dimension.ensures

pub returns-clause-small : goal.returns-clause-small
returns-clause-small c =
    omega (
      arith,
      returns-clause-number c,
      stalk_start_small c.args.rank c.args.degrees.now c.args.d (length c.args.degrees.now)
          (omega (arith, c.as_slice-items.ensures.few, ap length c.as_slice-items.ensures.items)) c.requires.degree
          c.requires.rank,
    )

pub returns-clause-smaller : goal.returns-clause-smaller
returns-clause-smaller c le =
    omega (
      arith,
      returns-clause-number c,
      stalk_start_smaller c.args.rank c.args.degrees.now c.args.d (length c.args.degrees.now)
          (omega (arith, c.as_slice-items.ensures.few, ap length c.as_slice-items.ensures.items)) c.requires.degree le,
    )
