-- Where lines stand in a text.
use Rattle.std.proofs.Common.{◌≡◌, ℕ, ◌+◌, ◌-◌, List, [], ◌∷◌, ◌++◌, length, take, drop, Ok, refl, sym, ap, ◌∙◌, append_assoc, arith}
use Rattle.std.proofs.lemmas.List.{take_at, drop_at, drop-drop, length-append}
use Rattle.bmp_text.specs.Words.{cut, words}
use Rattle.bmp_text.specs.Cursor.{Cursor, text_start, next_line, IsPlaced, IsPlacedLine}
use Rattle.bmp_text.proofs.CutLemmas.{cut_takes}
use Rattle.bmp_text.proofs.LinePairs.{line_cut_ok}

pub first_placed : (text : List ℕ) → IsPlaced text (text_start text)
first_placed text = record { between = refl; rest = refl }

pub next_placed : (text : List ℕ) (c : Cursor ℕ) (l : Cursor (List ℕ)) (d : Cursor ℕ) → IsPlaced text c →
    next_line c ≡ Ok (l, d) → IsPlacedLine text l d
next_placed text c l d h e =
    let a = line_cut_ok c.place (cut 10 c.rest) l d e in
    let front = (cut 10 c.rest).0 in
    let size = length front in
    let all : c.rest ≡ front ++ 10 ∷ d.rest = cut_takes 10 c.rest front d.rest a.0 in
    let here : drop c.place.start text ≡ front ++ 10 ∷ d.rest = ap (λ (n : ℕ). drop n text) h.between
    ∙ (sym h.rest ∙ all) in
    let end : length (front ++ 10 ∷ []) ≡ size + 1 = length-append front (10 ∷ []) in
    let left : drop (size + 1) (drop c.place.start text) ≡ d.rest =
    ap (drop (size + 1)) (here ∙ sym (append_assoc front (10 ∷ []) d.rest))
    ∙ drop_at (front ++ 10 ∷ []) d.rest (size + 1) end in
    let far : c.place.start + (size + 1) ≡ c.place.start + size + 1 = omega arith in
    let near : c.place.start + size - c.place.start ≡ size = omega arith in
    record {
      behind = record {
        between = ap (λ (t : Cursor ℕ). t.place.start) a.2 ∙ sym (ap (λ (t : Cursor ℕ). t.place.stop) a.2);
        rest = sym left ∙ (drop-drop (size + 1) c.place.start text
            ∙ (ap (λ (n : ℕ). drop n text) far ∙ ap (λ (t : Cursor ℕ). drop t.place.stop text) (sym a.2)));
      };
      line = ap (λ (t : Cursor (List ℕ)). t.rest) a.1
          ∙ (ap words (sym (ap (take size) here ∙ take_at front (10 ∷ d.rest) size refl)
          ∙ ap (λ (n : ℕ). take n (drop c.place.start text)) (sym near))
          ∙ ap (λ (t : Cursor (List ℕ)). words (take (t.place.stop - t.place.start) (drop t.place.start text)))
          (sym a.1));
    }
