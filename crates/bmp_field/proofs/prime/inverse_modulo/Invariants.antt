use Rattle.std.proofs.Common.{◌≡◌, ℕ, ◌-◌, ◌*◌, ◌%◌, ◌<◌, ◌≤◌}
use Rattle.bmp_field.proofs.prime.inverse_modulo.Given as goal

-- the inverse is not below `b`
abbrev pub invariant-loop-b : goal.invariant-loop-b
invariant-loop-b l = (m : ℕ) × (m < l.p) × ((l.a * m) % l.p ≡ 1) × (l.b ≤ m)

abbrev pub decreases-loop-b : goal.decreases-loop-b
decreases-loop-b l = l.p - l.b
