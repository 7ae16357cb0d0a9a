-- Whether the items of a list fit, tried one after the other.
use Rattle.std.proofs.Common.{◌≡◌, ℕ, ◌+◌, ◌<◌, ◌↔◌, List, ◌∷◌, length, get_or, drop, sym, subst, ◌∙◌, ap, add-one, drop-cons, Bool, true, false, IsTrue}
use Rattle.bmp_text.specs.Printing.{ChainFits}

-- the items from place i on, the first of them in the state s, decide
abbrev pub Decides : {A S : Type 0} → Type 0 → (S → A → Type 0) → (A → S → S) → List A → ℕ → S → Type 0
Decides whole fits next xs i s = whole ↔ ChainFits fits next s (drop i xs)

module _ {A S : Type 0} (whole : Type 0) (fits : S → A → Type 0) (next : A → S → S) (xs : List A) where
  front : (i : ℕ) (x d : A) → i < length xs → x ≡ get_or xs i d → drop i xs ≡ x ∷ drop (i + 1) xs
  front i x d l is = rw add-one (drop-cons xs i d l) ∙ ap (λ (y : A). y ∷ drop (i + 1) xs) (sym is)

  parted : (i : ℕ) (s : S) (x d : A) → i < length xs → x ≡ get_or xs i d → Decides whole fits next xs i s → whole ↔
      (fits s x × ChainFits fits next (next x s) (drop (i + 1) xs))
  parted i s x d l is so_far = subst (λ (ys : List A). whole ↔ ChainFits fits next s ys) (front i x d l is) so_far

  -- an item fits
  pub fits_on : (i : ℕ) (s : S) (x d : A) → i < length xs → x ≡ get_or xs i d → fits s x →
      Decides whole fits next xs i s → Decides whole fits next xs (i + 1) (next x s)
  fits_on i s x d l is here so_far =
      let both = parted i s x d l is so_far in
      (λ w. (both.0 w).1, λ rest. both.1 (here, rest))

  -- an item that doesn't
  pub fits_stop : (i : ℕ) (s : S) (x d : A) → i < length xs → x ≡ get_or xs i d → (fits s x → ⊥) →
      Decides whole fits next xs i s → IsTrue false ↔ whole
  fits_stop i s x d l is never so_far =
      let both = parted i s x d l is so_far in
      (λ (h : false ≡ true). absurd cc, λ w. absurd (never (both.0 w).0))

-- a test that failed
pub failed : {P : Type 0} (r : Bool) → IsTrue r ↔ P → r ≡ false → P → ⊥
failed r tried fails p = let yes : r ≡ true = tried.1 p in cc
