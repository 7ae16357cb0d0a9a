-- Readers: from a cursor to a value and the cursor behind it, or to the first fault; and how they are put together.
--   after step then     step, and then what depends on its value
--   give b              the value b; nothing is read
--   nothing             the empty value; nothing is read
--   chain step next n s      n items; a state says what the next may be, and each item moves it
--   counted_chain most step next s   a count up to most on a line, and as many items
--   line word body      a line: the keyword, what body reads of its words, and nothing more
--   single word low high     a line of a keyword and one number
--   whole step bytes    a text from its first byte to its last
--   fold_onto, onto     items added to a value one by one, as a loop does
use Rattle.std.specs.Prelude.{Result, Ok, List, [], ◌∷◌, ◌++◌, ℕ, zero, suc}
use Rattle.bmp_text.specs.declared.fault.TextFault.{TextFault}
use Rattle.bmp_text.specs.Cursor.{Cursor, text_start, ◌>>=◌, next_line, keyword, natural, finish, end}

abbrev pub after : {I A B : Type 0} → (Cursor I → Result (A × Cursor I) TextFault) →
    (A → Cursor I → Result (B × Cursor I) TextFault) → Cursor I → Result (B × Cursor I) TextFault
after step then c = step c >>= λ x. then x.0 x.1

abbrev pub give : {I B : Type 0} → B → Cursor I → Result (B × Cursor I) TextFault
give b c = Ok (b, c)

abbrev pub nothing : Cursor (List ℕ) → Result (Unit {0} × Cursor (List ℕ)) TextFault
nothing l = Ok (tt, l)

-- ---- many items

unfoldable pub chain : {I A S : Type 0} → (S → Cursor I → Result (A × Cursor I) TextFault) → (A → S → S) → ℕ → S →
    Cursor I → Result (List A × Cursor I) TextFault
chain step next zero s c = Ok ([], c)
chain step next (suc n) s c = do
  first ← step s c
  others ← chain step next n (next first.0 s) first.1
  Ok (first.0 ∷ others.0, others.1)

-- the state of items that are all alike
abbrev pub same : {A : Type 0} → A → Unit {0} → Unit {0}
same x s = s

unfoldable pub counted_chain : {A S : Type 0} → ℕ → (S → Cursor (List ℕ) → Result (A × Cursor (List ℕ)) TextFault) →
    (A → S → S) → S → Cursor (List ℕ) → Result (List A × Cursor (List ℕ)) TextFault
counted_chain most step next s l = do
  count ← natural 0 most l
  items ← chain step next count.0 s count.1
  Ok (items.0, items.1)

-- ---- lines and texts

unfoldable pub line : {A : Type 0} → List ℕ → (Cursor (List ℕ) → Result (A × Cursor (List ℕ)) TextFault) → Cursor ℕ →
    Result (A × Cursor ℕ) TextFault
line word body c = do
  parts ← next_line c
  ws ← keyword word parts.0
  x ← body ws
  done ← finish x.1
  Ok (x.0, parts.1)

abbrev pub single : List ℕ → ℕ → ℕ → Cursor ℕ → Result (ℕ × Cursor ℕ) TextFault
single word low high c = line word (natural low high) c

unfoldable pub whole : {A : Type 0} → (Cursor ℕ → Result (A × Cursor ℕ) TextFault) → List ℕ → Result A TextFault
whole step bytes = do
  x ← step (text_start bytes)
  done ← end x.1
  Ok x.0

-- ---- items as a loop adds them

abbrev pub list_with : {A : Type 0} → List A → A → List A
list_with xs x = xs ++ x ∷ []

abbrev pub fold_onto : {A X : Type 0} → (X → A → X) → X → List A → X
fold_onto add x [] = x
fold_onto add x (a ∷ bs) = fold_onto add (add x a) bs

-- what a chain reads, added to a value
abbrev pub onto : {A X C : Type 0} → (X → A → X) → X → Result (List A × C) TextFault → Result (X × C) TextFault
onto add x step = step >>= λ y. Ok (fold_onto add x y.0, y.1)

-- what one step reads, added to a value
abbrev pub put_onto : {A X C : Type 0} → (X → A → X) → X → Result (A × C) TextFault → Result (X × C) TextFault
put_onto add x step = step >>= λ y. Ok (add x y.0, y.1)
