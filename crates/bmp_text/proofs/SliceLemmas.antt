-- Bytes as a pattern of code reads them.
use Rattle.std.proofs.Common.{◌≡◌, ℕ, suc, ◌+◌, ◌-◌, ◌<◌, ◌≤◌, List, [], ◌∷◌, length, take, drop, get_or, refl, sym, ap, ap₂, ◌∙◌, arith}
use Rattle.std.proofs.lemmas.List.{take_all}

pub no_bytes : (bs : List ℕ) → length bs < 1 → bs ≡ []
no_bytes [] h = refl
no_bytes (b ∷ bs) h = absurd (omega arith)

pub first_byte : (bs : List ℕ) (b : ℕ) → 1 ≤ length bs → get_or bs 0 0 ≡ b → bs ≡ b ∷ take (length bs - 1) (drop 1 bs)
first_byte [] b some is = absurd (omega arith)
first_byte (a ∷ bs) b some is =
    ap₂ (λ (x : ℕ) (y : List ℕ). x ∷ y) is (sym (take_all (length (a ∷ bs) - 1) bs (omega arith)))
