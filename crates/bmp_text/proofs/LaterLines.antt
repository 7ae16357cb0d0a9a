-- Calls that read lines come to later lines.
use Rattle.std.proofs.Common.{◌≡◌, ℕ, List, length, Option, Some, Result, Ok, Err, false, refl, sym, ap, subst}
use Rattle.std.specs.List.{list_any}
use Rattle.bmp_text.specs.Words.{cut, words, is_unprintable}
use Rattle.bmp_text.specs.declared.fault.TextFault.{TextFault}
use Rattle.bmp_text.specs.Cursor.{Cursor, line_place, place_behind, ◌>>=◌, next_line, keyword, finish}
use Rattle.bmp_text.specs.Readers.{line}
use Rattle.bmp_text.specs.Calls.{Reads}
use Rattle.bmp_text.proofs.Pairs.{bind_ok, ok_is}
use Rattle.bmp_text.specs.LaterLines.{IsLaterLine, same, behind, PassesLines}

-- a cursor is where it is
pub same_place : (c : Cursor ℕ) → IsLaterLine c c
same_place c = same

-- what comes later from anywhere comes later from where it was
pub passed_from : (before after : Cursor ℕ) → PassesLines before after → IsLaterLine before after
passed_from before after passes = passes before same

-- the next line is passed, or its fault leaves the cursor where it stood
pub line_passed : {X : Type 0} (view : X → Cursor (List ℕ)) (before after : Cursor ℕ) (r : Result X TextFault) →
    Reads view before after r (next_line before) → PassesLines before after
line_passed view before after (Ok x) read c so_far = behind (view x) so_far read
line_passed view before after (Err f) read c so_far = subst (λ (d : Cursor ℕ). IsLaterLine c d) (sym read.1) so_far

-- nothing was read
pub none_passed : (before after : Cursor ℕ) → after ≡ before → PassesLines before after
none_passed before after kept c so_far = subst (λ (d : Cursor ℕ). IsLaterLine c d) (sym kept) so_far

-- the next line was cut off
pub cut_passed : (before after : Cursor ℕ) (parts : List ℕ × Option (List ℕ)) (line rest : List ℕ) →
    cut 10 before.rest ≡ parts → parts.0 ≡ line → parts.1 ≡ Some rest → list_any is_unprintable line ≡ false
    → after ≡ record { place = place_behind before.place (length line); rest = rest } → PassesLines before after
cut_passed before after parts line rest is front back printable stands c so_far =
    let read : next_line before ≡ Ok (
      record { place = line_place before.place (length line); rest = words line },
      record { place = place_behind before.place (length line); rest = rest },
    ) =
    rw (is, front, back, printable) refl in
    subst (λ (d : Cursor ℕ). IsLaterLine c d) (sym stands)
    (behind (record { place = line_place before.place (length line); rest = words line }) so_far read)

-- a line was read
pub line_read : {A : Type 0} (word : List ℕ) (body : Cursor (List ℕ) → Result (A × Cursor (List ℕ)) TextFault)
    (before after : Cursor ℕ) (x : A) → line word body before ≡ Ok (x, after) → PassesLines before after
unfolding line
line_read {A = A} word body before after x read c so_far =
    let parts = bind_ok (next_line before)
    (λ parts. keyword word parts.0 >>= λ ws. body ws >>= λ y. finish y.1 >>= λ d. Ok (y.0, parts.1))
    (x, after) read in
    let ws = bind_ok (keyword word parts.0.0) (λ ws. body ws >>= λ y. finish y.1 >>= λ d. Ok (y.0, parts.0.1))
    (x, after) parts.2 in
    let y = bind_ok (body ws.0) (λ y. finish y.1 >>= λ d. Ok (y.0, parts.0.1)) (x, after) ws.2 in
    let d = bind_ok (finish y.0.1) (λ d. Ok (y.0.0, parts.0.1)) (x, after) y.2 in
    let both : (y.0.0, parts.0.1) ≡ (x, after) = ok_is (y.0.0, parts.0.1) (x, after) d.2 in
    subst (λ (d : Cursor ℕ). IsLaterLine c d) (ap (λ (p : A × Cursor ℕ). p.1) both) (behind parts.0.0 so_far parts.1)
