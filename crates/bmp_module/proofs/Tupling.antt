-- Elements of the parts of a direct sum, one after another.
use Rattle.std.proofs.Common.{◌≡◌, ℕ, zero, suc, ◌+◌, ◌<◌, ◌≤◌, List, [], ◌∷◌, ◌++◌, length, get_or, refl, sym, ap, subst, ◌∙◌, inl, inr, arith, length-append}
use Rattle.std.proofs.Math.Seq.{get_or-append_seam}
use Rattle.std.proofs.lemmas.List.{get_or_append_left}
use Rattle.std.proofs.lemmas.Bool.{cases_eq}

-- inside a list the default is not read
pub get_any : {X : Type 0} (xs : List X) (k : ℕ) (a b : X) → k < length xs → get_or xs k a ≡ get_or xs k b
get_any [] k a b inside = absurd (let none : k < 0 = inside in omega arith)
get_any (x ∷ xs) zero a b inside = refl
get_any (x ∷ xs) (suc k) a b inside = let rest : suc k < suc (length xs) = inside in get_any xs k a b (omega arith)

-- one element for each of the first k places
pub record EachBelow {E : Type 0} (P : ℕ → E → Type 0) (es : List E) (k : ℕ) : Type 0 where
  pub sized : length es ≡ k
  pub each : (i : ℕ) (e : E) → i < k → P i (get_or es i e)

module _ {E : Type 0} (P : ℕ → E → Type 0) where
  pub each_none : (es : List E) → es ≡ [] → EachBelow P es 0
  each_none es empty = record { sized = ap length empty; each = λ i e l. absurd (omega arith) }

  pub each_more : (es : List E) (k : ℕ) (x : E) → EachBelow P es k → P k x → EachBelow P (es ++ x ∷ []) (k + 1)
  each_more es k x h p =
      let sized : length es ≡ k = h.sized in
      let more : length (es ++ x ∷ []) ≡ length es + 1 = simp length-append in
      record {
        sized = omega arith;
        each = λ i e l. elim (cases_eq i k) [
          | inl here ↦ let at : get_or (es ++ x ∷ []) (length es) e ≡ x = get_or-append_seam es x [] e in
              let there : get_or (es ++ x ∷ []) i e ≡ x = ap (λ z. get_or (es ++ x ∷ []) z e) (here ∙ sym sized) ∙ at in
              subst (P i) (sym there) (subst (λ z. P z x) (sym here) p)
          | inr other ↦ let before : i < length es = omega arith in
              subst (P i) (sym (get_or_append_left es (x ∷ []) e i before)) (h.each i e (omega arith))
        ];
      }

-- the elements below k were changed as Q says, and the others are as before
pub record ChangedBelow {E : Type 0} (Q : ℕ → E → E → Type 0) (old now : List E) (k : ℕ) : Type 0 where
  pub sized : length now ≡ length old
  pub done : (i : ℕ) (a b : E) → i < k → Q i (get_or old i a) (get_or now i b)
  pub left : (i : ℕ) (a : E) → k ≤ i → get_or now i a ≡ get_or old i a
