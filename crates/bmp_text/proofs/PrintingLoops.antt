-- Printing item by item: what is printed so far, and what is still to come, are all.
use Rattle.std.proofs.Common.{◌≡◌, ℕ, zero, suc, ◌+◌, ◌<◌, ◌≤◌, List, [], ◌∷◌, ◌++◌, length, get_or, drop, refl, sym, ap, ap₂, ◌∙◌, append_assoc, add-one, drop-cons, arith}
use Rattle.std.proofs.lemmas.List.{append-nil, drop_all}
use Rattle.bmp_text.specs.Printing.{spaced_words, chain_text, range_text}
use Rattle.bmp_text.specs.Readers.{same}

-- one word for each item
pub words_on : {A : Type 0} (word : A → List ℕ) (d : A) (out all : List ℕ) (xs : List A) (i : ℕ) → i < length xs
    → out ++ spaced_words (chain_text (λ (s : Unit {0}) x. word x ∷ []) same tt (drop i xs)) ≡ all
    → (out ++ (32 ∷ word (get_or xs i d))) ++ spaced_words
    (chain_text (λ (s : Unit {0}) x. word x ∷ []) same tt (drop (i + 1) xs)) ≡ all
words_on word d out all xs i lt so_far =
    let back : drop i xs ≡ get_or xs i d ∷ drop (i + 1) xs = rw add-one (drop-cons xs i d lt) in
    append_assoc out (32 ∷ word (get_or xs i d))
    (spaced_words (chain_text (λ (s : Unit {0}) x. word x ∷ []) same tt (drop (i + 1) xs)))
    ∙ (ap (λ t. out ++ spaced_words (chain_text (λ (s : Unit {0}) x. word x ∷ []) same tt t)) (sym back) ∙ so_far)

pub words_end : {A : Type 0} (word : A → List ℕ) (out all : List ℕ) (xs : List A) (i : ℕ) → length xs ≤ i
    → out ++ spaced_words (chain_text (λ (s : Unit {0}) x. word x ∷ []) same tt (drop i xs)) ≡ all → out ≡ all
words_end word out all xs i le so_far =
    sym (append-nil out)
    ∙ (ap (λ t. out ++ spaced_words (chain_text (λ (s : Unit {0}) x. word x ∷ []) same tt t)) (sym (drop_all i xs le))
    ∙ so_far)

-- ---- items that are all alike

module _ {A : Type 0} (text : A → List ℕ) where
  pub items_on : (out all : List ℕ) (xs : List A) (i : ℕ) (x : A) → i < length xs → x ≡ get_or xs i x →
      out ++ chain_text (λ (s : Unit {0}) x. text x) same tt (drop i xs) ≡ all
      → (out ++ text x) ++ chain_text (λ (s : Unit {0}) x. text x) same tt (drop (i + 1) xs) ≡ all
  items_on out all xs i x lt is so_far =
      let back : drop i xs ≡ x ∷ drop (i + 1) xs =
      rw add-one (drop-cons xs i x lt) ∙ ap (λ y. y ∷ drop (i + 1) xs) (sym is) in
      append_assoc out (text x) (chain_text (λ (s : Unit {0}) x. text x) same tt (drop (i + 1) xs))
      ∙ (ap (λ t. out ++ chain_text (λ (s : Unit {0}) x. text x) same tt t) (sym back) ∙ so_far)

  pub items_end : (out all : List ℕ) (xs : List A) (i : ℕ) → length xs ≤ i →
      out ++ chain_text (λ (s : Unit {0}) x. text x) same tt (drop i xs) ≡ all → out ≡ all
  items_end out all xs i le so_far =
      sym (append-nil out)
      ∙ (ap (λ t. out ++ chain_text (λ (s : Unit {0}) x. text x) same tt t) (sym (drop_all i xs le)) ∙ so_far)

-- a text that doesn't look at the state
pub stateless : {I A S : Type 0} (text : A → List I) (next : A → S → S) (s : S) (xs : List A) →
    chain_text (λ (t : Unit {0}) x. text x) same tt xs ≡ chain_text (λ (t : S) x. text x) next s xs
stateless text next s [] = refl
stateless text next s (x ∷ xs) = ap (λ t. text x ++ t) (stateless text next (next x s) xs)

-- ---- items with a state that each moves

module _ {A S : Type 0} (text : S → A → List ℕ) (next : A → S → S) where
  pub states_on : (out all : List ℕ) (xs : List A) (i : ℕ) (x : A) (s : S) → i < length xs → x ≡ get_or xs i x →
      out ++ chain_text text next s (drop i xs) ≡ all
      → (out ++ text s x) ++ chain_text text next (next x s) (drop (i + 1) xs) ≡ all
  states_on out all xs i x s lt is so_far =
      let back : drop i xs ≡ x ∷ drop (i + 1) xs =
      rw add-one (drop-cons xs i x lt) ∙ ap (λ y. y ∷ drop (i + 1) xs) (sym is) in
      append_assoc out (text s x) (chain_text text next (next x s) (drop (i + 1) xs))
      ∙ (ap (λ t. out ++ chain_text text next s t) (sym back) ∙ so_far)

  pub states_end : (out all : List ℕ) (xs : List A) (i : ℕ) (s : S) → length xs ≤ i →
      out ++ chain_text text next s (drop i xs) ≡ all → out ≡ all
  states_end out all xs i s le so_far =
      sym (append-nil out) ∙ (ap (λ t. out ++ chain_text text next s t) (sym (drop_all i xs le)) ∙ so_far)

-- ---- items for the numbers of a range

module _ (text : ℕ → List ℕ) where
  pub range_on : (out all : List ℕ) (x n k : ℕ) → n ≡ suc k → out ++ range_text text x n ≡ all →
      (out ++ text x) ++ range_text text (x + 1) k ≡ all
  range_on out all x n k less so_far = append_assoc out (text x) (range_text text (x + 1) k)
      ∙ (ap (λ (m : ℕ). out ++ range_text text x m) (sym less) ∙ so_far)

  pub range_end : (out all : List ℕ) (x n : ℕ) → n ≡ 0 → out ++ range_text text x n ≡ all → out ≡ all
  range_end out all x n none so_far =
      sym (append-nil out) ∙ (ap (λ (m : ℕ). out ++ range_text text x m) (sym none) ∙ so_far)

module _ (word : ℕ → List ℕ) where
  pub range_words_on : (out all : List ℕ) (x n k : ℕ) → n ≡ suc k →
      out ++ spaced_words (range_text (λ y. word y ∷ []) x n) ≡ all →
      (out ++ (32 ∷ word x)) ++ spaced_words (range_text (λ y. word y ∷ []) (x + 1) k) ≡ all
  range_words_on out all x n k less so_far =
      append_assoc out (32 ∷ word x) (spaced_words (range_text (λ y. word y ∷ []) (x + 1) k))
      ∙ (ap (λ (m : ℕ). out ++ spaced_words (range_text (λ y. word y ∷ []) x m)) (sym less) ∙ so_far)

  pub range_words_end : (out all : List ℕ) (x n : ℕ) → n ≡ 0 → out ++ spaced_words (range_text (λ y. word y ∷ []) x n)
      ≡ all → out ≡ all
  range_words_end out all x n none so_far =
      sym (append-nil out)
      ∙ (ap (λ (m : ℕ). out ++ spaced_words (range_text (λ y. word y ∷ []) x m)) (sym none) ∙ so_far)

-- two texts that agree on a range
pub range_same : {I : Type 0} (f g : ℕ → List I) (x n : ℕ) → ((y : ℕ) → x ≤ y → y < x + n → f y ≡ g y) →
    range_text f x n ≡ range_text g x n
range_same f g x zero h = refl
range_same f g x (suc n) h =
    ap₂ (λ (one : List _) (others : List _). one ++ others) (h x (omega arith) (omega arith))
    (range_same f g (x + 1) n (λ y low high. h y (omega arith) (omega arith)))
