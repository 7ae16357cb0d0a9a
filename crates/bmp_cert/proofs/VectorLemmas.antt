-- Entries as a reader pushes them, the next place past all so far; and a line of entries from its pieces.
use Rattle.std.proofs.Common.{◌≡◌, ℕ, ◌<◌, ◌≤◌, ◌+◌, ◌-◌, ◌^◌, true, List, [], ◌∷◌, ◌++◌, length, Some, Ok, arith}
use Rattle.std.specs.List.{list_all}
use Rattle.std.specs.Char.{is_ascii_graphic}
use Rattle.bmp_text.specs.Cursor.{Cursor, place_behind}
use Rattle.bmp_text.specs.Readers.{line}
use Rattle.bmp_text.specs.Printing.{spaced_words}
use Rattle.bmp_text.proofs.WordLemmas.{plain_word}
use Rattle.bmp_text.proofs.LinePairs.{line_found, found_cut}
use Rattle.bmp_text.specs.Words.{cut}
use Rattle.bmp_cert.specs.VectorGrammar.{vector, vector_text, IsVector}
use Rattle.bmp_cert.proofs.VectorPairs.{vector_pair}
use Rattle.std.proofs.lemmas.List.Elements.{All-weaker, All-push}
use Rattle.bmp_linear.specs.declared.vector.Entry.{Entry}
use Rattle.bmp_linear.specs.SparseVectors.{FitsBelow}

pub fits_higher : (v : List Entry) (n m : ℕ) → FitsBelow v n → n ≤ m → FitsBelow v m
fits_higher v n m h le = All-weaker (λ (e : Entry). e.place < n) (λ e. e.place < m) (λ e lt. omega arith) v h

pub fits_behind : (v : List Entry) (next : ℕ) (e : Entry) → FitsBelow v next → next ≤ e.place →
    FitsBelow (v ++ e ∷ []) (e.place + 1)
fits_behind v next e h le =
    All-push (λ (d : Entry). d.place < e.place + 1) v e (fits_higher v next (e.place + 1) h (omega arith)) (omega arith)

-- ---- a line of a keyword and a vector, whose bytes are known

module _ (word : List ℕ) (most : ℕ) (c : Cursor ℕ) (v : List Entry) (rest : List ℕ)
    (plain : list_all is_ascii_graphic word ≡ true)
    (small : most < 2 ^ 63) (fits : IsVector most v) (is : c.rest ≡ (word ++ spaced_words (vector_text v)) ++ 10 ∷ rest)
  where
    pub vector_found :
        line word (vector most) c
        ≡ Ok (v, record { place = place_behind c.place (length c.rest - length rest - 1); rest = rest })
    vector_found = line_found word (vector most) vector_text (IsVector most) (plain_word word plain)
        (vector_pair most small) v c rest fits is

    pub vector_cut : (cut 10 c.rest).1 ≡ Some rest
    vector_cut = found_cut word (vector most) vector_text (IsVector most) (plain_word word plain)
        (vector_pair most small)
        v c rest fits is
