-- Values copied into a list, one after another.
use Rattle.std.proofs.Common.{◌≡◌, ℕ, ◌+◌, ◌*◌, ◌<◌, ◌≤◌, ◌≢◌, arith, refl, sym, ap, ◌∙◌, inl, inr, ◌⊎◌, List, length, get_or, ℤ, pos}
use Rattle.std.proofs.Math.ListN.{set, length-set}
use Rattle.std.proofs.lemmas.Bool.{cases_eq}
use Rattle.std.proofs.lemmas.Grind.{get_or-set_at}
use Rattle.std.proofs.lemmas.List.{get_or-set_other}

-- the n places from start on have the values of a source, and the others are as before
pub record IsCopied (start n : ℕ) (source : ℕ → ℤ) (old new : List ℤ) : Type 0 where
  pub as_long : length new ≡ length old
  pub copied : (i : ℕ) → i < n → get_or new (start + i) (pos 0) ≡ source i
  pub kept : (p : ℕ) → (p < start) ⊎ (start + n ≤ p) → get_or new p (pos 0) ≡ get_or old p (pos 0)

pub copied_none : (start : ℕ) (source : ℕ → ℤ) (old : List ℤ) → IsCopied start 0 source old old
copied_none start source old = record { as_long = refl; copied = λ i l. absurd (omega arith); kept = λ p off. refl }

pub copied_next : (start n : ℕ) (source : ℕ → ℤ) (old first second : List ℤ) (v : ℤ) → IsCopied start n source old first
    → second ≡ set first (start + n) v → start + n < length old → v ≡ source n →
    IsCopied start (n + 1) source old second
copied_next start n source old first second v before is inside value = record {
  as_long = ap length is ∙ length-set first (start + n) v ∙ before.as_long;
  copied = λ i l.
      elim (cases_eq i n) [
        | inl last ↦
            ap (λ xs. get_or xs (start + i) (pos 0)) is
            ∙ get_or-set_at first (start + n) (start + i) v (pos 0) (omega arith) (omega (arith, before.as_long))
            ∙ value ∙ ap source (sym last)
        | inr other ↦
            ap (λ xs. get_or xs (start + i) (pos 0)) is
            ∙ get_or-set_other first (start + n) (start + i) v (pos 0) (λ e. other (omega arith))
            ∙ before.copied i (omega arith)
      ];
  kept = λ p off.
      ap (λ xs. get_or xs p (pos 0)) is ∙ get_or-set_other first (start + n) p v (pos 0) (apart p off)
      ∙ before.kept p (less p off);
}
  where
    apart : (p : ℕ) → (p < start) ⊎ (start + (n + 1) ≤ p) → p ≡ start + n → ⊥
    apart p (inl low) e = omega arith
    apart p (inr high) e = omega arith

    less : (p : ℕ) → (p < start) ⊎ (start + (n + 1) ≤ p) → (p < start) ⊎ (start + n ≤ p)
    less p (inl low) = inl low
    less p (inr high) = inr (omega arith)

-- other rows of 73 values are as before
pub row_kept : (x y i : ℕ) (source : ℕ → ℤ) (old new : List ℤ) → IsCopied (x * 73) 73 source old new → i < 73 → y ≢ x
    → get_or new (y * 73 + i) (pos 0) ≡ get_or old (y * 73 + i) (pos 0)
row_kept x y i source old new copied l off = copied.kept (y * 73 + i) (away (below_or y x))
  where
    below_or : (a b : ℕ) → (a < b) ⊎ (b ≤ a)
    below_or a b = grind arith

    away : (y < x) ⊎ (x ≤ y) → (y * 73 + i < x * 73) ⊎ (x * 73 + 73 ≤ y * 73 + i)
    away (inl below) = inl (omega arith)
    away (inr above) = inr (omega (arith, off, above))
