-- Comparisons of numbers in a fixed order, and the first that fails.
--   Comparison              the numbers and where they stand, and whether the comparison passes
--   equal r                 passes where left and right are equal
--   first_failure cs        the refusal of the first comparison that doesn't pass, None where all pass
use Rattle.std.specs.Prelude.{Bool, ◌==◌, List, [], ◌∷◌, Option, Some, None, if◌then◌else◌}
use Rattle.bmp_check.specs.declared.refusal.Refusal.{Refusal}

pub record Comparison : Type 0 where
  pub refusal : Refusal
  pub passes : Bool

abbrev pub equal : Refusal → Comparison
equal r = record { refusal = r; passes = r.left == r.right }

abbrev pub first_failure : List Comparison → Option Refusal
first_failure [] = None
first_failure (c ∷ cs) = if c.passes then first_failure cs else Some c.refusal
