-- Printed forms, one for each reader: a line is its keyword and words, each behind a space, and a line feed.
--   spaced_words ws          each word behind a space
--   joined_words ws          words with single spaces between them
--   line_text word ws        a line of a keyword and further words
--   single_text word n       a line of a keyword and one number
--   chain_text text next s xs     items one behind the other, each moving the state
--   counted_text text next s xs   the words of a count and of as many items
--   range_text text x n      items for n numbers, from x on
--   ChainFits fits next s xs      each item may stand where it stands
--   CountedFits most fits next s xs    the same, and the items are at most so many
--   Chosen b P Q             P where b is true, else Q
use Rattle.std.specs.Prelude.{◌≤◌, ◌+◌, ℕ, zero, suc, Bool, true, false, List, [], ◌∷◌, ◌++◌, length}
use Rattle.std.specs.Fmt.{decimal}

abbrev pub spaced_words : List (List ℕ) → List ℕ
spaced_words [] = []
spaced_words (w ∷ ws) = 32 ∷ w ++ spaced_words ws

abbrev pub joined_words : List (List ℕ) → List ℕ
joined_words [] = []
joined_words (w ∷ ws) = w ++ spaced_words ws

abbrev pub line_text : List ℕ → List (List ℕ) → List ℕ
line_text word ws = word ++ spaced_words ws ++ (10 ∷ [])

abbrev pub single_text : List ℕ → ℕ → List ℕ
single_text word n = line_text word (decimal n ∷ [])

abbrev pub chain_text : {I A S : Type 0} → (S → A → List I) → (A → S → S) → S → List A → List I
chain_text text next s [] = []
chain_text text next s (x ∷ xs) = text s x ++ chain_text text next (next x s) xs

abbrev pub range_text : {I : Type 0} → (ℕ → List I) → ℕ → ℕ → List I
range_text text x zero = []
range_text text x (suc n) = text x ++ range_text text (x + 1) n

abbrev pub ChainFits : {A S : Type 0} → (S → A → Type 0) → (A → S → S) → S → List A → Type 0
ChainFits fits next s [] = Unit {0}
ChainFits fits next s (x ∷ xs) = fits s x × ChainFits fits next (next x s) xs

abbrev pub counted_text : {A S : Type 0} → (S → A → List (List ℕ)) → (A → S → S) → S → List A → List (List ℕ)
counted_text text next s xs = decimal (length xs) ∷ chain_text text next s xs

abbrev pub CountedFits : {A S : Type 0} → ℕ → (S → A → Type 0) → (A → S → S) → S → List A → Type 0
CountedFits most fits next s xs = (length xs ≤ most) × ChainFits fits next s xs

abbrev pub Chosen : Bool → Type 0 → Type 0 → Type 0
Chosen true one other = one
Chosen false one other = other
