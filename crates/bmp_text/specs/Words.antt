-- Lines of bytes, and their words.
--   cut s bytes         the bytes before the first s, and those after it where there is one
--   words line          the parts of a line between its spaces: one at least, and some may be empty
--   words_of rest       the words of what is left of a line, none where nothing is
--   is_unprintable b    a byte that no line holds: below 32 or above 126
use Rattle.std.specs.Prelude.{ℕ, Bool, ◌||◌, ◌==◌, List, [], ◌∷◌, Option, Some, None, nat_lt, if◌then◌else◌}

-- a byte more in front of what was cut off
abbrev pub cut_with : ℕ → List ℕ × Option (List ℕ) → List ℕ × Option (List ℕ)
cut_with b parts = (b ∷ parts.0, parts.1)

unfoldable pub cut : ℕ → List ℕ → List ℕ × Option (List ℕ)
cut separator [] = ([], None)
cut separator (b ∷ bs) = if b == separator then ([], Some bs) else cut_with b (cut separator bs)

-- a byte more in front of the first word
abbrev pub words_with : ℕ → List (List ℕ) → List (List ℕ)
words_with b [] = (b ∷ []) ∷ []
words_with b (w ∷ ws) = (b ∷ w) ∷ ws

unfoldable pub words : List ℕ → List (List ℕ)
words [] = [] ∷ []
words (b ∷ bs) = if b == 32 then [] ∷ words bs else words_with b (words bs)

abbrev pub words_of : Option (List ℕ) → List (List ℕ)
words_of None = []
words_of (Some bytes) = words bytes

abbrev pub is_unprintable : ℕ → Bool
is_unprintable b = nat_lt b 32 || nat_lt 126 b
