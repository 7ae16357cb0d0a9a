-- Comparisons in order, and the first that fails. What a check compares is a fact of faults: it holds of
-- those that name one of its comparisons, with the two numbers that are compared.
--   IsBefore r s                     by index, and then by place
--   AllPass Compares                 each comparison has equal sides
--   IsFirstFailure Compares fault    the first comparison whose sides differ
--   WithIndex index Compares         the comparisons of one index
use Rattle.std.specs.Prelude.{◌≡◌, ◌≢◌, ℕ, ◌<◌, ◌⊎◌}
use Rattle.bmp_linear.specs.declared.fault.RowFault.{RowFault}

-- by index, and then by place
abbrev pub IsBefore : RowFault → RowFault → Type 0
IsBefore r s = (r.index < s.index) ⊎ ((r.index ≡ s.index) × (r.place < s.place))

-- of the comparisons that a check makes, each has equal sides
abbrev pub AllPass : (RowFault → Type 0) → Type 0
AllPass Compares = (r : RowFault) → Compares r → r.left ≡ r.right

-- of the comparisons that a check makes, this is the first whose sides differ
pub record IsFirstFailure (Compares : RowFault → Type 0) (fault : RowFault) : Type 0 where
  pub compared : Compares fault
  pub differs : fault.left ≢ fault.right
  pub earlier : (r : RowFault) → Compares r → IsBefore r fault → r.left ≡ r.right

-- the comparisons of one index
abbrev pub WithIndex : ℕ → (RowFault → Type 0) → RowFault → Type 0
WithIndex index Compares r = (r.index ≡ index) × Compares r
