-- Sizes that are compared one after the other, from where a check stands on. In the order to read:
--   first_of at sizes            the first failure
--   behind at sizes              where the check stands when all have passed
--   Compares at new sizes r      r answers these sizes: it is their first failure, or the check stands behind them
use Rattle.std.specs.Prelude.{◌≡◌, ◌+◌, List, length, Option, Some, None, Result, MatchResult}
use Rattle.bmp_check.specs.declared.refusal.Refusal.{Refusal}
use Rattle.bmp_check.specs.declared.size_check.SizeCheck.{SizeCheck}
use Rattle.bmp_check.specs.Comparisons.{first_failure}
use Rattle.bmp_check.specs.Sizes.{Size, numbered}

abbrev pub first_of : SizeCheck → List Size → Option Refusal
first_of at sizes = first_failure (numbered at.vertex at.degree at.index sizes)

abbrev pub behind : SizeCheck → List Size → SizeCheck
behind at sizes = record at { index = at.index + length sizes }

abbrev pub Compares : SizeCheck → SizeCheck → List Size → Result (Unit {0}) Refusal → Type 0
Compares at new sizes result =
    MatchResult result (λ _. (first_of at sizes ≡ None) × (new ≡ behind at sizes)) (λ r. first_of at sizes ≡ Some r)
