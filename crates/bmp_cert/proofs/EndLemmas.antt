-- Readers whose lines are none of them `end`, and readers whose last line alone is; and that no text begins another.
use Rattle.std.proofs.Common.{◌≡◌, ◌≢◌, ◌==◌, ◌&&◌, ℕ, zero, suc, Bool, true, false, cond, not, List, [], ◌∷◌, ◌++◌, Option, Some, None, Result, Ok, refl, sym, ap, ap₂, subst, rules, ◌∙◌, append_assoc, codes, eqb-true}
use Rattle.std.specs.Prelude.{All}
use Rattle.std.specs.Str.{bytes_eq}
use Rattle.std.proofs.lemmas.Slice.Eq.{bytes_eq-Decides}
use Rattle.std.proofs.lemmas.List.{append-nil}
use Rattle.std.proofs.lemmas.List.Elements.{All-nil, All-cons, All-append}
use Rattle.bmp_text.specs.declared.fault.TextFault.{TextFault}
use Rattle.bmp_text.specs.declared.fault.TextKind.TheVariants.{WrongKeyword}
use Rattle.bmp_text.specs.Cursor.{Cursor, Place, first_place, text_start, ◌>>=◌, next_line, keyword, keyword_in, finish}
use Rattle.bmp_text.specs.Readers.{after, give, nothing, chain, line}
use Rattle.bmp_text.specs.Printing.{spaced_words}
use Rattle.bmp_text.specs.Words.{cut, cut_with, words, words_with}
use Rattle.bmp_text.proofs.Pairs.{Pair, bind_ok, ok_is, test_ok}
use Rattle.bmp_text.proofs.LinePairs.{IsAny, line_cut_ok, line_pair, nothing_pair}
use Rattle.bmp_text.proofs.WordLemmas.{words_takes}
use Rattle.bmp_cert.specs.TextEnds.{lines_of, EndsOnce}

-- ---- the lines of bytes

lines_case : (t : Bool) (b : ℕ) (bs rest : List ℕ) →
    ((cut 10 bs).1 ≡ Some rest → lines_of bs ≡ (cut 10 bs).0 ∷ lines_of rest)
    → (cond t ([], Some bs) (cut_with b (cut 10 bs))).1 ≡ Some rest
    → cond t ([] ∷ lines_of bs) (words_with b (lines_of bs)) ≡ (cond t ([], Some bs) (cut_with b (cut 10 bs))).0 ∷
    lines_of rest
lines_case true b bs rest so_far e = let is : bs ≡ rest = cc in ap (λ (r : List ℕ). [] ∷ lines_of r) is
lines_case false b bs rest so_far e = ap (words_with b) (so_far e)

lines_cut : (bs rest : List ℕ) → (cut 10 bs).1 ≡ Some rest → lines_of bs ≡ (cut 10 bs).0 ∷ lines_of rest
unfolding lines_of cut
lines_cut [] rest e = absurd cc
lines_cut (b ∷ bs) rest e = lines_case (b == 10) b bs rest (lines_cut bs rest) e

-- ---- readers

-- the lines that were read are none of them `end`
pub record PassesOthers (c d : Cursor ℕ) : Type 0 where
  pub front : List (List ℕ)
  pub lines : lines_of c.rest ≡ front ++ lines_of d.rest
  pub others : All (λ line. line ≢ codes "end") front

-- the same, and then comes the line `end`
pub record PassesEnd (c d : Cursor ℕ) : Type 0 where
  pub front : List (List ℕ)
  pub lines : lines_of c.rest ≡ front ++ codes "end" ∷ lines_of d.rest
  pub others : All (λ line. line ≢ codes "end") front

abbrev pub ReadsOthers : {A : Type 0} → (Cursor ℕ → Result (A × Cursor ℕ) TextFault) → Type 0
ReadsOthers {A} step = (c : Cursor ℕ) (x : A) (d : Cursor ℕ) → step c ≡ Ok (x, d) → PassesOthers c d

abbrev pub ReadsToEnd : {A : Type 0} → (Cursor ℕ → Result (A × Cursor ℕ) TextFault) → Type 0
ReadsToEnd {A} step = (c : Cursor ℕ) (x : A) (d : Cursor ℕ) → step c ≡ Ok (x, d) → PassesEnd c d

passes_none : (c : Cursor ℕ) → PassesOthers c c
passes_none c = record { front = []; lines = refl; others = All-nil (λ line. line ≢ codes "end") }

passes_both : (a b c : Cursor ℕ) → PassesOthers a b → PassesOthers b c → PassesOthers a c
passes_both a b c p q = record {
  front = p.front ++ q.front;
  lines = p.lines ∙ (ap (λ (ls : List (List ℕ)). p.front ++ ls) q.lines
      ∙ sym (append_assoc p.front q.front (lines_of c.rest)));
  others = All-append (λ line. line ≢ codes "end") p.front q.front p.others q.others;
}

passes_then_end : (a b c : Cursor ℕ) → PassesOthers a b → PassesEnd b c → PassesEnd a c
passes_then_end a b c p q = record {
  front = p.front ++ q.front;
  lines = p.lines ∙ (ap (λ (ls : List (List ℕ)). p.front ++ ls) q.lines
      ∙ sym (append_assoc p.front q.front (codes "end" ∷ lines_of c.rest)));
  others = All-append (λ line. line ≢ codes "end") p.front q.front p.others q.others;
}

-- ---- a line

-- a word that doesn't begin as `end` does
abbrev pub is_other : List ℕ → Bool
is_other [] = false
is_other (a ∷ []) = false
is_other (a ∷ (b ∷ w)) = not ((a == 101) && (b == 110))

no_end : (word rest : List ℕ) → is_other word ≡ true → word ++ rest ≢ codes "end"
no_end [] rest h e = absurd cc
no_end (a ∷ []) rest h e = absurd cc
no_end (a ∷ (b ∷ w)) rest h e =
    let first : a ≡ 101 = cc in
    let second : b ≡ 110 = cc in
    let both : false ≡ true =
    subst (λ (x : ℕ). not ((x == 101) && (110 == 110)) ≡ true) first
    (subst (λ (y : ℕ). not ((a == 101) && (y == 110)) ≡ true) second h) in
    absurd cc

-- a line that begins with the keyword
first_word : (word : List ℕ) (n : Place) (ws : List (List ℕ)) (l : Cursor (List ℕ)) → keyword_in word n ws ≡ Ok l →
    ws ≡ word ∷ l.rest
first_word word n [] l e = absurd cc
first_word word n (w ∷ ws) l e =
    let g = test_ok (bytes_eq w word) (record { line = n.line; kind = WrongKeyword }) (record { place = n; rest = ws })
    l e in
    let is : w ≡ word = (bytes_eq-Decides w word).0 g.0 in
    ap₂ (λ (v : List ℕ) (vs : List (List ℕ)). v ∷ vs) is (ap (λ (t : Cursor (List ℕ)). t.rest) g.1)

-- what a line that was read is
module _ {A : Type 0} (word : List ℕ) (body : Cursor (List ℕ) → Result (A × Cursor (List ℕ)) TextFault) (c : Cursor ℕ)
    (x : A) (d : Cursor ℕ) (read : line word body c ≡ Ok (x, d)) where
  line_is : (ws : List (List ℕ)) × (lines_of c.rest ≡ (word ++ spaced_words ws) ∷ lines_of d.rest)
  unfolding line
  line_is =
      let parts = bind_ok (next_line c)
      (λ parts. keyword word parts.0 >>= λ ws. body ws >>= λ y. finish y.1 >>= λ done. Ok (y.0, parts.1))
      (x, d) read in
      let key = bind_ok (keyword word parts.0.0) (λ ws. body ws >>= λ y. finish y.1 >>= λ done. Ok (y.0, parts.0.1))
      (x, d) parts.2 in
      let y = bind_ok (body key.0) (λ y. finish y.1 >>= λ done. Ok (y.0, parts.0.1)) (x, d) key.2 in
      let done = bind_ok (finish y.0.1) (λ done. Ok (y.0.0, parts.0.1)) (x, d) y.2 in
      let behind : parts.0.1 ≡ d = ap (λ (p : A × Cursor ℕ). p.1) (ok_is (y.0.0, parts.0.1) (x, d) done.2) in
      let a = line_cut_ok c.place (cut 10 c.rest) parts.0.0 parts.0.1 parts.1 in
      let words_are : words (cut 10 c.rest).0 ≡ word ∷ key.0.rest = sym (ap (λ (t : Cursor (List ℕ)). t.rest) a.1)
      ∙ first_word word parts.0.0.place parts.0.0.rest key.0 key.1 in
      let bytes : (cut 10 c.rest).0 ≡ word ++ spaced_words key.0.rest =
      words_takes (cut 10 c.rest).0 word key.0.rest words_are in
      let rest : (cut 10 c.rest).1 ≡ Some parts.0.1.rest = ap (λ (p : List ℕ × Option (List ℕ)). p.1) a.0 in (
        key.0.rest,
        lines_cut c.rest parts.0.1.rest rest
            ∙ (ap (λ (l : List ℕ). l ∷ lines_of parts.0.1.rest) bytes
            ∙ ap (λ (t : Cursor ℕ). (word ++ spaced_words key.0.rest) ∷ lines_of t.rest) behind),
      )

pub line_others : {A : Type 0} (word : List ℕ) (body : Cursor (List ℕ) → Result (A × Cursor (List ℕ)) TextFault) →
    is_other word ≡ true → ReadsOthers (line word body)
line_others word body other c x d read =
    let p = line_is word body c x d read in
    record {
      front = (word ++ spaced_words p.0) ∷ [];
      lines = p.1;
      others = All-cons (λ line. line ≢ codes "end") (word ++ spaced_words p.0) []
          (no_end word (spaced_words p.0) other) (All-nil (λ line. line ≢ codes "end"));
    }

-- ---- steps one behind the other

module _ {A B : Type 0} (step : Cursor ℕ → Result (A × Cursor ℕ) TextFault)
    (then : A → Cursor ℕ → Result (B × Cursor ℕ) TextFault) where
  pub after_others : ReadsOthers step → ((x : A) → ReadsOthers (then x)) → ReadsOthers (after step then)
  after_others one more c x d read =
      let a = bind_ok (step c) (λ y. then y.0 y.1) (x, d) read in
      passes_both c a.0.1 d (one c a.0.0 a.0.1 a.1) (more a.0.0 a.0.1 x d a.2)

  pub after_to_end : ReadsOthers step → ((x : A) → ReadsToEnd (then x)) → ReadsToEnd (after step then)
  after_to_end one more c x d read =
      let a = bind_ok (step c) (λ y. then y.0 y.1) (x, d) read in
      passes_then_end c a.0.1 d (one c a.0.0 a.0.1 a.1) (more a.0.0 a.0.1 x d a.2)

pub give_others : {B : Type 0} (b : B) → ReadsOthers (give b)
give_others {B = B} b c x d read =
    let stays : c ≡ d = ap (λ (p : B × Cursor ℕ). p.1) (ok_is (b, c) (x, d) read) in
    subst (λ (t : Cursor ℕ). PassesOthers c t) stays (passes_none c)

pub cond_others : {A : Type 0} (t : Bool) (r s : Cursor ℕ → Result (A × Cursor ℕ) TextFault) → ReadsOthers r →
    ReadsOthers s → ReadsOthers (cond t r s)
cond_others true r s one other = one
cond_others false r s one other = other

module _ {A S : Type 0} (step : S → Cursor ℕ → Result (A × Cursor ℕ) TextFault) (next : A → S → S)
    (each : (s : S) → ReadsOthers (step s)) where
  pub chain_others : (n : ℕ) (s : S) → ReadsOthers (chain step next n s)
  unfolding chain
  chain_others zero s c xs d read =
      let stays : c ≡ d = ap (λ (p : List A × Cursor ℕ). p.1) (ok_is ([], c) (xs, d) read) in
      subst (λ (t : Cursor ℕ). PassesOthers c t) stays (passes_none c)
  chain_others (suc n) s c xs d read =
      let a = bind_ok (step s c) (λ x. chain step next n (next x.0 s) x.1 >>= λ y. Ok (x.0 ∷ y.0, y.1)) (xs, d) read in
      let b = bind_ok (chain step next n (next a.0.0 s) a.0.1) (λ y. Ok (a.0.0 ∷ y.0, y.1)) (xs, d) a.2 in
      let behind : b.0.1 ≡ d = ap (λ (p : List A × Cursor ℕ). p.1) (ok_is (a.0.0 ∷ b.0.0, b.0.1) (xs, d) b.2) in
      subst (λ (t : Cursor ℕ). PassesOthers c t) behind
      (passes_both c a.0.1 b.0.1 (each s c a.0.0 a.0.1 a.1) (chain_others n (next a.0.0 s) a.0.1 b.0.0 b.0.1 b.1))

end_is : (c : Cursor ℕ) (x : Unit {0}) (d : Cursor ℕ) → line (codes "end") nothing c ≡ Ok (x, d) →
    lines_of c.rest ≡ codes "end" ∷ lines_of d.rest
unfolding lines_of
end_is c x d read =
    ap lines_of ((line_pair (codes "end") nothing (λ x. []) (λ x. Unit {0}) (search rules) nothing_pair).takes c x d
    read).1

-- the line `end`, and a value behind it
pub end_to_end : {B : Type 0} (b : B) → ReadsToEnd (after (line (codes "end") nothing) (λ last. give b))
end_to_end {B = B} b c x d read =
    let a = bind_ok (line (codes "end") nothing c) (λ y. Ok (b, y.1)) (x, d) read in
    let stays : a.0.1 ≡ d = ap (λ (p : B × Cursor ℕ). p.1) (ok_is (b, a.0.1) (x, d) a.2) in
    let bare = end_is c a.0.0 a.0.1 a.1 in
    record {
      front = [];
      lines = bare ∙ ap (λ (t : Cursor ℕ). codes "end" ∷ lines_of t.rest) stays;
      others = All-nil (λ line. line ≢ codes "end");
    }

-- ---- whole texts

module _ {A : Type 0} (step : Cursor ℕ → Result (A × Cursor ℕ) TextFault) (text : A → List ℕ) (fits : A → Type 0)
    (one : Pair IsAny step text fits) where
  -- the reading of a text ends where it ends
  text_read : (x : A) (rest : List ℕ) → fits x → (d : Cursor ℕ) × (step (text_start (text x ++ rest)) ≡ Ok (x, d)) ×
      (d.rest ≡ rest)
  text_read x rest h = let p = one.again x first_place rest h in (record { place = p.0; rest = rest }, p.1, refl)

  pub none_begins : (x y : A) → fits x → fits y → (rest : List ℕ) → text y ≡ text x ++ rest → rest ≡ []
  none_begins x y of_x of_y rest e =
      let a = text_read x rest of_x in
      let b = text_read y [] of_y in
      let same : step (text_start (text x ++ rest)) ≡ step (text_start (text y ++ [])) =
      ap (λ (bytes : List ℕ). step (text_start bytes)) (sym e ∙ sym (append-nil (text y))) in
      let ends : a.0 ≡ b.0 = ap (λ (p : A × Cursor ℕ). p.1) (ok_is (x, a.0) (y, b.0) (sym a.1 ∙ (same ∙ b.1))) in
      sym a.2 ∙ (ap (λ (t : Cursor ℕ). t.rest) ends ∙ b.2)

  pub ends_once : ReadsToEnd step → (x : A) → fits x → EndsOnce (text x)
  unfolding lines_of
  ends_once to_end x h =
      let a = text_read x [] h in
      let p = to_end (text_start (text x ++ [])) x a.0 a.1 in
      record {
        before = p.front;
        lines = ap lines_of (sym (append-nil (text x)))
            ∙ (p.lines ∙ ap (λ (r : List ℕ). p.front ++ codes "end" ∷ lines_of r) a.2);
        others = p.others;
      }
