use Rattle.std.proofs.Common.{◌≡◌, ◌<◌, ℕ, length}
use Rattle.bmp_kl.specs.BarRows.{row_value, HasLiveRows}
use Rattle.bmp_kl.proofs.rows.Rows.start.Given as goal

abbrev pub invariant-loop-x : goal.invariant-loop-x
invariant-loop-x l =
    HasLiveRows (length l.fn.self.live.items) l.self.values.items l.self.live.items
    × ((v j : ℕ) → v < l.x → j < 19 → row_value l.self.values.items v j ≡ 0)
