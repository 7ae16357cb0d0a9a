-- Where the reading of a text stands, and the single steps from there: each gives a value and what is left,
-- or the fault that comes first.
--   Place               a line's number, from 1, and where it begins and ends in the text
--   Cursor I            a place, and what is still to be read: bytes of a text, or words of a line
--   text_start bytes    before line 1
--   next_line c         the next line's words; MissingLine without a line feed, NotAscii at an unprintable byte
--   keyword word l      the word stands first in the line; else WrongKeyword
--   number low high l   a number stands first; else WrongCount, NotANumber or OutOfRange
--   natural low high l  the same of a number that isn't negative
--   finish l            no word is left in the line; else WrongCount
--   end c               no byte is left in the text; else TrailingText
--   IsPlaced text c     c stands between two lines of the text, where its place says
--   LinesStandInText    the bytes from a line's start to its stop are the line
use Rattle.std.specs.Prelude.{◌≡◌, ℕ, ℤ, pos, unsigned_abs, ◌+◌, ◌-◌, ◌&&◌, List, [], ◌∷◌, length, take, drop, Option, Some, None, Result, Ok, Err, if◌then◌else◌}
use Rattle.std.specs.List.{list_any}
use Rattle.std.specs.Str.{bytes_eq}
use Rattle.bmp_text.specs.Numerals.{numeral_value, within, fits_i64}
use Rattle.bmp_text.specs.Words.{cut, words, is_unprintable}
use Rattle.bmp_text.specs.declared.fault.TextKind.{TextKind}
use Rattle.bmp_text.specs.declared.fault.TextKind.TheVariants.{MissingLine, WrongKeyword, NotANumber, OutOfRange, WrongCount, TrailingText, NotAscii}
use Rattle.bmp_text.specs.declared.fault.TextFault.{TextFault}

-- from the byte `start` to before the byte `stop`, the line feed; between two lines both are the next line's start
pub record Place : Type 0 where
  pub line : ℕ
  pub start : ℕ
  pub stop : ℕ

pub record Cursor (I : Type 0) : Type 0 where
  pub place : Place
  pub rest : List I

abbrev pub first_place : Place
first_place = record { line = 1; start = 0; stop = 0 }

abbrev pub text_start : List ℕ → Cursor ℕ
text_start bytes = record { place = first_place; rest = bytes }

infixl 10 ◌>>=◌
abbrev pub ◌>>=◌ : {A B : Type 0} → Result A TextFault → (A → Result B TextFault) → Result B TextFault
(Ok x) >>= f = f x
(Err e) >>= f = Err e

abbrev pub fault : {A : Type 0} → Place → TextKind → Result A TextFault
fault p kind = Err (record { line = p.line; kind = kind })

-- ---- a line

-- the place of a line of so many bytes, and the place behind it
abbrev pub line_place : Place → ℕ → Place
line_place p size = record { line = p.line; start = p.start; stop = p.start + size }

abbrev pub place_behind : Place → ℕ → Place
place_behind p size = record { line = p.line + 1; start = p.start + size + 1; stop = p.start + size + 1 }

abbrev pub line_cut : Place → List ℕ × Option (List ℕ) → Result (Cursor (List ℕ) × Cursor ℕ) TextFault
line_cut p (line, None) = fault p MissingLine
line_cut p (line, Some rest) = if list_any is_unprintable line then fault p NotAscii
    else Ok (
      record { place = line_place p (length line); rest = words line },
      record { place = place_behind p (length line); rest = rest },
    )

abbrev pub next_line : Cursor ℕ → Result (Cursor (List ℕ) × Cursor ℕ) TextFault
next_line c = line_cut c.place (cut 10 c.rest)

-- ---- the words of a line

abbrev pub keyword_in : List ℕ → Place → List (List ℕ) → Result (Cursor (List ℕ)) TextFault
keyword_in word p [] = fault p WrongKeyword
keyword_in word p (w ∷ ws) = if bytes_eq w word then Ok (record { place = p; rest = ws }) else fault p WrongKeyword

abbrev pub keyword : List ℕ → Cursor (List ℕ) → Result (Cursor (List ℕ)) TextFault
keyword word l = keyword_in word l.place l.rest

abbrev pub number_in_range : ℤ → ℤ → Place → List (List ℕ) → Option ℤ → Result (ℤ × Cursor (List ℕ)) TextFault
number_in_range low high p rest None = fault p NotANumber
number_in_range low high p rest (Some z) = if fits_i64 z && within low high z
    then Ok (z, record { place = p; rest = rest })
    else fault p OutOfRange

abbrev pub number_in : ℤ → ℤ → Place → List (List ℕ) → Result (ℤ × Cursor (List ℕ)) TextFault
number_in low high p [] = fault p WrongCount
number_in low high p (w ∷ ws) = number_in_range low high p ws (numeral_value w)

abbrev pub number : ℤ → ℤ → Cursor (List ℕ) → Result (ℤ × Cursor (List ℕ)) TextFault
number low high l = number_in low high l.place l.rest

abbrev pub natural : ℕ → ℕ → Cursor (List ℕ) → Result (ℕ × Cursor (List ℕ)) TextFault
natural low high l = do
  z ← number (pos low) (pos high) l
  Ok (unsigned_abs z.0, z.1)

abbrev pub finish_in : Place → List (List ℕ) → Result (Unit {0}) TextFault
finish_in p [] = Ok tt
finish_in p (w ∷ ws) = fault p WrongCount

abbrev pub finish : Cursor (List ℕ) → Result (Unit {0}) TextFault
finish l = finish_in l.place l.rest

-- ---- the end of the text

abbrev pub end_in : Place → List ℕ → Result (Unit {0}) TextFault
end_in p [] = Ok tt
end_in p (b ∷ bs) = fault p TrailingText

abbrev pub end : Cursor ℕ → Result (Unit {0}) TextFault
end c = end_in c.place c.rest

-- ---- places in a text

pub record IsPlaced (text : List ℕ) (c : Cursor ℕ) : Type 0 where
  pub between : c.place.start ≡ c.place.stop
  pub rest : c.rest ≡ drop c.place.stop text

-- reading goes from between two lines to between two lines, and the line stands there
pub record IsPlacedLine (text : List ℕ) (l : Cursor (List ℕ)) (d : Cursor ℕ) : Type 0 where
  pub behind : IsPlaced text d
  pub line : l.rest ≡ words (take (l.place.stop - l.place.start) (drop l.place.start text))

pub record LinesStandInText : Type 0 where
  pub first : (text : List ℕ) → IsPlaced text (text_start text)
  pub next : (text : List ℕ) (c : Cursor ℕ) (l : Cursor (List ℕ)) (d : Cursor ℕ) → IsPlaced text c
      → next_line c ≡ Ok (l, d) → IsPlacedLine text l d
