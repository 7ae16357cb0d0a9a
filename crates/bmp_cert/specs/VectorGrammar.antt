-- Vectors and places on a line: what is read, how it is printed, and what has a text.
--   MOST                     the greatest count and the greatest place, 2^32 - 1
--   vector most              a count, and entries with rising places and values from 1 to most
--   vectors word most n      n lines of a keyword and a vector
--   rising_places n          n places that rise
use Rattle.std.specs.Prelude.{◌≡◌, ◌≤◌, ◌+◌, ℕ, List, [], ◌∷◌, length, Result}
use Rattle.std.specs.Fmt.{decimal}
use Rattle.bmp_text.specs.declared.fault.TextFault.{TextFault}
use Rattle.bmp_text.specs.Cursor.{Cursor, natural}
use Rattle.bmp_text.specs.Readers.{give, same, chain, counted_chain, line}
use Rattle.bmp_text.specs.Sequence.{◌>>=◌}
use Rattle.bmp_text.specs.Printing.{line_text, chain_text, counted_text, ChainFits, CountedFits}
use Rattle.bmp_linear.specs.declared.vector.Entry.{Entry}

abbrev pub MOST : ℕ
MOST = 4294967295

-- ---- entries and vectors

abbrev pub entry : ℕ → ℕ → Cursor (List ℕ) → Result (Entry × Cursor (List ℕ)) TextFault
entry most next = do
  place ← natural next MOST
  value ← natural 1 most
  give (record { place = place; value = value })

abbrev pub entry_text : ℕ → Entry → List (List ℕ)
entry_text next e = decimal e.place ∷ decimal e.value ∷ []

abbrev pub IsEntry : ℕ → ℕ → Entry → Type 0
IsEntry most next e = (next ≤ e.place) × (e.place ≤ MOST) × (1 ≤ e.value) × (e.value ≤ most)

-- the least place that the next entry may have
abbrev pub behind_place : Entry → ℕ → ℕ
behind_place e next = e.place + 1

abbrev pub vector : ℕ → Cursor (List ℕ) → Result (List Entry × Cursor (List ℕ)) TextFault
vector most l = counted_chain MOST (entry most) behind_place 0 l

abbrev pub vector_text : List Entry → List (List ℕ)
vector_text es = counted_text entry_text behind_place 0 es

abbrev pub IsVector : ℕ → List Entry → Type 0
IsVector most es = CountedFits MOST (IsEntry most) behind_place 0 es

-- ---- lines of vectors

abbrev pub vectors : List ℕ → ℕ → ℕ → Cursor ℕ → Result (List (List Entry) × Cursor ℕ) TextFault
vectors word most n c = chain (λ (s : Unit {0}). line word (vector most)) same n tt c

abbrev pub vectors_text : List ℕ → List (List Entry) → List ℕ
vectors_text word vs = chain_text (λ (s : Unit {0}) v. line_text word (vector_text v)) same tt vs

abbrev pub AreVectors : ℕ → ℕ → List (List Entry) → Type 0
AreVectors most n vs = (length vs ≡ n) × ChainFits (λ (s : Unit {0}). IsVector most) same tt vs

-- ---- rising places

abbrev pub rising_places : ℕ → Cursor (List ℕ) → Result (List ℕ × Cursor (List ℕ)) TextFault
rising_places n l = chain (λ low. natural low MOST) (λ p low. p + 1) n 0 l

abbrev pub rising_text : List ℕ → List (List ℕ)
rising_text ps = chain_text (λ (low : ℕ) p. decimal p ∷ []) (λ p low. p + 1) 0 ps

abbrev pub AreRising : ℕ → List ℕ → Type 0
AreRising n ps = (length ps ≡ n) × ChainFits (λ low p. (low ≤ p) × (p ≤ MOST)) (λ p low. p + 1) 0 ps
