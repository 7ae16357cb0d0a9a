use Rattle.std.proofs.Common.{◌≡◌, ℕ, ◌<◌, length}
use Rattle.bmp_sheaf.specs.States.{sheaf_of}
use Rattle.bmp_levels.specs.Lists.{first_members}
use Rattle.bmp_levels.specs.Runs.{list_of}
use Rattle.bmp_levels.proofs.AgreementLemmas.{AgreesInRow}
use Rattle.bmp_levels.proofs.members.Members.agree_on.Given as goal

-- the rows so far agree
abbrev pub invariant-loop-i : goal.invariant-loop-i
invariant-loop-i g l = record {
  agree : (i : ℕ) → i < l.i → AgreesInRow l.sheaf.graph (sheaf_of l.sheaf) l.d l.e
      (first_members l.self.count (list_of l.self.family.now)) i;
  sums : length l.sums ≡ length l.fn.sums;
}
