-- Readers one after the other, in do-notation: `x ← step` is `after step (λ x. ..)`.
use Rattle.std.specs.Prelude.{Result}
use Rattle.bmp_text.specs.declared.fault.TextFault.{TextFault}
use Rattle.bmp_text.specs.Cursor.{Cursor}
use Rattle.bmp_text.specs.Readers.{after}

infixl 10 ◌>>=◌
abbrev pub ◌>>=◌ : {I A B : Type 0} → (Cursor I → Result (A × Cursor I) TextFault) →
    (A → Cursor I → Result (B × Cursor I) TextFault) → Cursor I → Result (B × Cursor I) TextFault
step >>= then = after step then
