use Rattle.std.proofs.Common.{◌≡◌, ◌<◌, ◌≤◌, ◌+◌, ◌*◌, ◌⊎◌, ℕ, length, get_or}
use Rattle.bmp_kl.specs.BarRows.{behind}
use Rattle.bmp_kl.proofs.rows.Rows.clear.Given as goal

abbrev pub invariant-loop-j : goal.invariant-loop-j
invariant-loop-j l =
    ((length l.self.values.items ≡ length l.fn.self.values.items) ×
    ((j : ℕ) → j < l.j → behind l.self.values.items (l.x * 19) j ≡ 0)
    × ((i : ℕ) → (i < l.x * 19) ⊎ (l.x * 19 + l.j ≤ i) →
    get_or l.self.values.items i 0 ≡ get_or l.fn.self.values.items i 0))
    × (l.self.live.items ≡ l.fn.self.live.items)
