-- Items that a loop has read ahead: what it read is their text, each fits where it stands, and the state is
-- that behind the last one.
--   state_after next s xs            the state behind the items
--   HaveRead from xs s text rest     the items xs were read from `text`, and `rest` is left, in the state s
use Rattle.std.proofs.Common.{◌≡◌, ℕ, List, [], ◌∷◌, ◌++◌, refl, sym, ap, subst, ◌∙◌, append_assoc}
use Rattle.std.proofs.lemmas.List.{append-nil}
use Rattle.bmp_text.specs.Printing.{spaced_words, chain_text, ChainFits}

abbrev pub state_after : {A S : Type 0} → (A → S → S) → S → List A → S
state_after next s [] = s
state_after next s (x ∷ xs) = state_after next (next x s) xs

pub spaced-append : (vs ws : List (List ℕ)) → spaced_words (vs ++ ws) ≡ spaced_words vs ++ spaced_words ws
spaced-append [] ws = refl
spaced-append (v ∷ vs) ws = ap (λ (t : List ℕ). (32 ∷ v) ++ t) (spaced-append vs ws)
    ∙ sym (append_assoc (32 ∷ v) (spaced_words vs) (spaced_words ws))

module _ {A S : Type 0} (text : S → A → List (List ℕ)) (fits : S → A → Type 0) (next : A → S → S) where
  chain_push : (s : S) (xs : List A) (x : A) → chain_text text next s (xs ++ x ∷ []) ≡ chain_text text next s xs ++ text
      (state_after next s xs) x
  chain_push s [] x = append-nil (text s x)
  chain_push s (y ∷ xs) x = ap (λ (t : List (List ℕ)). text s y ++ t) (chain_push (next y s) xs x)
      ∙ sym (append_assoc (text s y) (chain_text text next (next y s) xs) (text (state_after next s (y ∷ xs)) x))

  fits_push : (s : S) (xs : List A) (x : A) → ChainFits fits next s xs → fits (state_after next s xs) x →
      ChainFits fits next s (xs ++ x ∷ [])
  fits_push s [] x h k = (k, tt)
  fits_push s (y ∷ xs) x h k = (h.0, fits_push (next y s) xs x h.1 k)

  state_push : (s : S) (xs : List A) (x : A) → state_after next s (xs ++ x ∷ []) ≡ next x (state_after next s xs)
  state_push s [] x = refl
  state_push s (y ∷ xs) x = state_push (next y s) xs x

  pub record HaveRead (from : S) (xs : List A) (s : S) (bytes rest : List ℕ) : Type 0 where
    pub state : state_after next from xs ≡ s
    pub each : ChainFits fits next from xs
    pub read : bytes ≡ spaced_words (chain_text text next from xs) ++ rest

  pub read_none : (from : S) (bytes : List ℕ) → HaveRead from [] from bytes bytes
  read_none from bytes = record { state = refl; each = tt; read = refl }

  pub read_more : (from : S) (xs : List A) (s : S) (bytes mid rest : List ℕ) (x : A) → HaveRead from xs s bytes mid →
      fits s x → mid ≡ spaced_words (text s x) ++ rest → HaveRead from (xs ++ x ∷ []) (next x s) bytes rest
  read_more from xs s bytes mid rest x h k is =
      let front = chain_text text next from xs in
      let words : chain_text text next from (xs ++ x ∷ []) ≡ front ++ text s x =
      chain_push from xs x ∙ ap (λ (t : S). front ++ text t x) h.state in
      record {
        state = state_push from xs x ∙ ap (next x) h.state;
        each = fits_push from xs x h.each (subst (λ (t : S). fits t x) (sym h.state) k);
        read = h.read ∙ (ap (λ (t : List ℕ). spaced_words front ++ t) is
            ∙ (sym (append_assoc (spaced_words front) (spaced_words (text s x)) rest)
            ∙ ap (λ (t : List ℕ). t ++ rest) (sym (spaced-append front (text s x)) ∙ sym (ap spaced_words words))));
      }
