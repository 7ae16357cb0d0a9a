use Rattle.std.proofs.Common.{◌≡◌, ℕ, ◌<◌, ◌≤◌, length}
use Rattle.bmp_sheaf.specs.States.{sheaf_of}
use Rattle.bmp_levels.specs.Agreement.{AgreesOn}
use Rattle.bmp_levels.specs.Lists.{first_members}
use Rattle.bmp_levels.specs.Runs.{list_of}
use Rattle.bmp_levels.proofs.members.Members.agree_at.Given as goal

-- the edges so far agree
abbrev pub invariant-loop-e : goal.invariant-loop-e
invariant-loop-e g l = record {
  agree :
      (e : ℕ) → l.from ≤ e → e < l.e →
      AgreesOn l.sheaf.graph (sheaf_of l.sheaf) e l.d (first_members l.self.count (list_of l.self.family.now));
  sums : length l.sums ≡ length l.fn.sums;
}
