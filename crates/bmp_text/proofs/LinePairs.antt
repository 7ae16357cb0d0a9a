-- Lines, numbers and counts as pairs of a reader and a printed form.
use Rattle.std.proofs.Common.{◌≡◌, ℕ, ℤ, pos, negsuc, unsigned_abs, ◌+◌, ◌-◌, ◌^◌, ◌<◌, ◌≤◌, ◌&&◌, Bool, true, false, List, [], ◌∷◌, ◌++◌, length, Option, Some, None, Result, Ok, refl, sym, ap, ap₂, subst, ◌∙◌, append_assoc, arith, rules}
use Rattle.std.specs.List.{AllByRecursion, list_any}
use Rattle.std.proofs.lemmas.List.{append-nil, length-append}
use Rattle.std.specs.Str.{bytes_eq}
use Rattle.std.specs.Fmt.{decimal, signed_decimal}
use Rattle.std.proofs.lemmas.Slice.Eq.{bytes_eq-Decides}
use Rattle.bmp_text.specs.declared.fault.TextFault.{TextFault}
use Rattle.bmp_text.specs.declared.fault.TextKind.TheVariants.{WrongKeyword, OutOfRange, NotAscii}
use Rattle.bmp_text.proofs.CutLemmas.{cut_takes, cut_again}
use Rattle.bmp_text.proofs.NumeralLemmas.{spelled_takes, spelled_again, plain_decimal, plain_signed}
use Rattle.bmp_text.proofs.Pairs.{Pair, bind_ok, ok_is, guard_ok, test_ok, chain_pair}
use Rattle.bmp_text.proofs.WordLemmas.{IsPlainWord, words_takes, words_again, printed_line, no_feeds, all_printable}
use Rattle.bmp_text.specs.Cursor.{Cursor, Place, line_place, place_behind, ◌>>=◌, line_cut, next_line, keyword_in, keyword, number_in_range, number_in, number, natural, finish_in, finish}
use Rattle.bmp_text.specs.Numerals.{numeral_value, within, fits_i64, InRange}
use Rattle.bmp_text.specs.Printing.{single_text, spaced_words, line_text, chain_text, counted_text, CountedFits}
use Rattle.bmp_text.specs.Readers.{nothing, single, chain, counted_chain, line}
use Rattle.bmp_text.specs.Words.{cut, words, is_unprintable}

-- ---- a number

ranged_ok : (low high : ℤ) (n : Place) (ws : List (List ℕ)) (o : Option ℤ) (x : ℤ) (d : Cursor (List ℕ)) →
    number_in_range low high n ws o ≡ Ok (x, d) → (o ≡ Some x) × (fits_i64 x && within low high x ≡ true) ×
    (ws ≡ d.rest)
ranged_ok low high n ws None x d e = absurd cc
ranged_ok low high n ws (Some z) x d e =
    let g = test_ok (fits_i64 z && within low high z) (record { line = n.line; kind = OutOfRange })
    (z, record { place = n; rest = ws }) (x, d) e in
    let is : z ≡ x = ap (λ (p : ℤ × Cursor (List ℕ)). p.0) g.1 in (
      ap Some is,
      subst (λ (t : ℤ). fits_i64 t && within low high t ≡ true) is g.0,
      ap (λ (p : ℤ × Cursor (List ℕ)). p.1.rest) g.1,
    )

both_true : (a b : Bool) → (a && b) ≡ true → (a ≡ true) × (b ≡ true)
both_true true b e = (refl, e)
both_true false b e = absurd cc

number_takes : (low high : ℤ) (n : Place) (ws : List (List ℕ)) (x : ℤ) (d : Cursor (List ℕ)) →
    number_in low high n ws ≡ Ok (x, d) → InRange low high x × (ws ≡ signed_decimal x ∷ d.rest)
number_takes low high n [] x d e = absurd cc
number_takes low high n (w ∷ ws) x d e =
    let r = ranged_ok low high n ws (numeral_value w) x d e in
    let b = both_true (fits_i64 x) (within low high x) r.1 in
    (b, ap₂ (λ (v : List ℕ) (vs : List (List ℕ)). v ∷ vs) (sym (spelled_takes w x r.0 b.0)) r.2)

number_again : (low high x : ℤ) (n : Place) (r : List (List ℕ)) → InRange low high x →
    number low high (record { place = n; rest = signed_decimal x ∷ r }) ≡ Ok (x, record { place = n; rest = r })
number_again low high x n r h = rw (spelled_again x h.0, h.0, h.1) refl

pub number_pair : (low high : ℤ) → Pair IsPlainWord (number low high) (λ z. signed_decimal z ∷ []) (InRange low high)
number_pair low high = record {
  takes = λ c x d e. number_takes low high c.place c.rest x d e;
  again = λ x n r h. (n, number_again low high x n r h);
  plain = λ x h. (plain_signed x h.0, tt);
}

-- ---- a number that isn't negative

natural_range : (low high : ℕ) (z : ℤ) → InRange (pos low) (pos high) z → (z ≡ pos (unsigned_abs z)) ×
    (low ≤ unsigned_abs z) × (unsigned_abs z ≤ high)
natural_range low high (pos n) h =
    let a : low ≤ n = search rules in
    let b : n ≤ high = search rules in
    (refl, a, b)
natural_range low high (negsuc n) h = absurd (search rules)

range_natural : (low high n : ℕ) → high < 2 ^ 63 → (low ≤ n) × (n ≤ high) → InRange (pos low) (pos high) (pos n)
range_natural low high n small h =
    let a = h.0 in
    let b = h.1 in
    let c : n ≤ 9223372036854775807 = omega arith in
    (search rules, search rules)

abbrev pub IsFrom : ℕ → ℕ → ℕ → Type 0
IsFrom low high n = (low ≤ n) × (n ≤ high)

pub natural_pair : (low high : ℕ) → high < 2 ^ 63 →
    Pair IsPlainWord (natural low high) (λ n. decimal n ∷ []) (IsFrom low high)
natural_pair low high small = record {
  takes = λ c x d e.
      let a = bind_ok (number (pos low) (pos high) c) (λ z. Ok (unsigned_abs z.0, z.1)) (x, d) e in
      let p = number_takes (pos low) (pos high) c.place c.rest a.0.0 a.0.1 a.1 in
      let r = natural_range low high a.0.0 p.0 in
      subst (λ (t : ℕ × Cursor (List ℕ)). IsFrom low high t.0 × (c.rest ≡ decimal t.0 ∷ t.1.rest))
      (ok_is (unsigned_abs a.0.0, a.0.1) (x, d) a.2)
      ((r.1, r.2), p.1 ∙ ap (λ (t : ℤ). signed_decimal t ∷ a.0.1.rest) r.0);
  again = λ x n r h. (
    n,
    ap (λ (t : Result (ℤ × Cursor (List ℕ)) TextFault). t >>= λ z. Ok (unsigned_abs z.0, z.1))
        (number_again (pos low) (pos high) (pos x) n r (range_natural low high x small h)),
  );
  plain = λ x h. (let b = h.1 in plain_decimal x (omega arith), tt);
}

pub natural_exact : (low high n : ℕ) (k : Place) (ws : List (List ℕ)) → high < 2 ^ 63 → low ≤ n → n ≤ high →
    natural low high (record { place = k; rest = decimal n ∷ ws }) ≡ Ok (n, record { place = k; rest = ws })
natural_exact low high n k ws small a b =
    ap (λ (t : Result (ℤ × Cursor (List ℕ)) TextFault). t >>= λ z. Ok (unsigned_abs z.0, z.1))
    (number_again (pos low) (pos high) (pos n) k ws (range_natural low high n small (a, b)))

pub natural_at : (low high n : ℕ) (k : Place) (words ws : List (List ℕ)) → high < 2 ^ 63 → low ≤ n → n ≤ high →
    words ≡ decimal n ∷ ws → natural low high (record { place = k; rest = words })
    ≡ Ok (n, record { place = k; rest = ws })
natural_at low high n k words ws small a b e =
    ap (λ (t : List (List ℕ)). natural low high (record { place = k; rest = t })) e
    ∙ natural_exact low high n k ws small a b

-- ---- a count, and as many items

module _ {A S : Type 0} (most : ℕ) (step : S → Cursor (List ℕ) → Result (A × Cursor (List ℕ)) TextFault)
    (text : S → A → List (List ℕ)) (fits : S → A → Type 0) (next : A → S → S) (small : most < 2 ^ 63)
    (each : (s : S) → Pair IsPlainWord (step s) (text s) (fits s)) where
  pub counted_pair : (s : S) → Pair IsPlainWord (counted_chain most step next s) (counted_text text next s)
      (CountedFits most fits next s)
  unfolding counted_chain
  counted_pair s = record {
    takes = λ c xs d e.
        let a = bind_ok (natural 0 most c)
        (λ count. chain step next count.0 s count.1 >>= λ items. Ok (items.0, items.1)) (xs, d) e in
        let b = bind_ok (chain step next a.0.0 s a.0.1) (λ items. Ok (items.0, items.1)) (xs, d) a.2 in
        let p = (natural_pair 0 most small).takes c a.0.0 a.0.1 a.1 in
        let q = (chain_pair IsPlainWord step text fits next each a.0.0 s).takes a.0.1 b.0.0 b.0.1 b.1 in
        subst (λ (t : List A × Cursor (List ℕ)). CountedFits most fits next s t.0 ×
        (c.rest ≡ counted_text text next s t.0 ++ t.1.rest)) (ok_is (b.0.0, b.0.1) (xs, d) b.2) (
          (subst (λ (t : ℕ). t ≤ most) (sym q.0.0) p.0.1, q.0.1),
          p.1 ∙ ap₂ (λ (t : ℕ) (r : List (List ℕ)). decimal t ∷ r) (sym q.0.0) q.1,
        );
    again = λ xs n r h.
        let p = (natural_pair 0 most small).again (length xs) n (chain_text text next s xs ++ r) (omega arith, h.0) in
        let q = (chain_pair IsPlainWord step text fits next each (length xs) s).again xs p.0 r (refl, h.1) in (
          q.0,
          ap (λ (t : Result (ℕ × Cursor (List ℕ)) TextFault). t >>= λ count. chain step next count.0 s count.1 >>= λ
              items. Ok (items.0, items.1)) p.1
              ∙ ap (λ (t : Result (List A × Cursor (List ℕ)) TextFault). t >>= λ items. Ok (items.0, items.1)) q.1,
        );
    plain = λ xs h. (
      let b = h.0 in plain_decimal (length xs) (omega arith),
      (chain_pair IsPlainWord step text fits next each (length xs) s).plain xs (refl, h.1),
    );
  }

-- ---- a line

pub line_cut_ok : (n : Place) (parts : List ℕ × Option (List ℕ)) (l : Cursor (List ℕ)) (d : Cursor ℕ) →
    line_cut n parts ≡ Ok (l, d) → (parts ≡ (parts.0, Some d.rest)) ×
    (l ≡ record { place = line_place n (length parts.0); rest = words parts.0 }) ×
    (d ≡ record { place = place_behind n (length parts.0); rest = d.rest })
line_cut_ok n (bytes, None) l d e = absurd cc
line_cut_ok n (bytes, Some rest) l d e =
    let g = guard_ok (list_any is_unprintable bytes) (record { line = n.line; kind = NotAscii }) (
      record { place = line_place n (length bytes); rest = words bytes },
      record { place = place_behind n (length bytes); rest = rest },
    ) (l, d) e in
    let back : record { place = place_behind n (length bytes); rest = rest } ≡ d =
    ap (λ (p : Cursor (List ℕ) × Cursor ℕ). p.1) g.1 in
    let left : rest ≡ d.rest = ap (λ (c : Cursor ℕ). c.rest) back in (
      ap (λ (r : List ℕ). (bytes, Some r)) left,
      sym (ap (λ (p : Cursor (List ℕ) × Cursor ℕ). p.0) g.1),
      sym back ∙ ap (λ (r : List ℕ). record { place = place_behind n (length bytes); rest = r }) left,
    )

keyword_ok : (word : List ℕ) (n : Place) (ws : List (List ℕ)) (l : Cursor (List ℕ)) → keyword_in word n ws ≡ Ok l →
    ws ≡ word ∷ l.rest
keyword_ok word n [] l e = absurd cc
keyword_ok word n (w ∷ ws) l e =
    let g = test_ok (bytes_eq w word) (record { line = n.line; kind = WrongKeyword }) (record { place = n; rest = ws })
    l e in
    let is : w ≡ word = (bytes_eq-Decides w word).0 g.0 in
    ap₂ (λ (v : List ℕ) (vs : List (List ℕ)). v ∷ vs) is (ap (λ (t : Cursor (List ℕ)). t.rest) g.1)

finish_ok : (n : Place) (ws : List (List ℕ)) (x : Unit {0}) → finish_in n ws ≡ Ok x → ws ≡ []
finish_ok n [] x e = refl
finish_ok n (w ∷ ws) x e = absurd cc

line_bytes : (w : List ℕ) (ws : List (List ℕ)) (r : List ℕ) → line_text w ws ++ r ≡ (w ++ spaced_words ws) ++ 10 ∷ r
line_bytes w ws r = append_assoc (w ++ spaced_words ws) (10 ∷ []) r

next_line_takes : (c : Cursor ℕ) (l : Cursor (List ℕ)) (d : Cursor ℕ) (w : List ℕ) (ws : List (List ℕ)) →
    next_line c ≡ Ok (l, d) → l.rest ≡ w ∷ ws → c.rest ≡ line_text w ws ++ d.rest
next_line_takes c l d w ws e is =
    let a = line_cut_ok c.place (cut 10 c.rest) l d e in
    let b = cut_takes 10 c.rest (cut 10 c.rest).0 d.rest a.0 in
    let f = words_takes (cut 10 c.rest).0 w ws (sym (ap (λ (t : Cursor (List ℕ)). t.rest) a.1) ∙ is) in
    b ∙ (ap (λ (t : List ℕ). t ++ 10 ∷ d.rest) f ∙ sym (line_bytes w ws d.rest))

next_line_again : (n : Place) (w : List ℕ) (ws : List (List ℕ)) (r : List ℕ) → IsPlainWord w →
    AllByRecursion IsPlainWord ws → next_line (record { place = n; rest = line_text w ws ++ r })
    ≡ Ok (
      record { place = line_place n (length (w ++ spaced_words ws)); rest = w ∷ ws },
      record { place = place_behind n (length (w ++ spaced_words ws)); rest = r },
    )
next_line_again n w ws r h hs =
    let all = printed_line w ws h hs in
    ap (line_cut n) (ap (cut 10) (line_bytes w ws r)
    ∙ cut_again 10 (w ++ spaced_words ws) r (no_feeds (w ++ spaced_words ws) all))
    ∙ rw (all_printable (w ++ spaced_words ws) all, words_again w ws h hs) refl

-- any byte
abbrev pub IsAny : ℕ → Type 0
IsAny b = Unit {0}

pub any_bytes : (bs : List ℕ) → AllByRecursion IsAny bs
any_bytes [] = tt
any_bytes (b ∷ bs) = (tt, any_bytes bs)

abbrev done_of : {B : Type 0} → B → Result B TextFault
done_of b = Ok b

module _ {A : Type 0} (word : List ℕ) (body : Cursor (List ℕ) → Result (A × Cursor (List ℕ)) TextFault)
    (text : A → List (List ℕ)) (fits : A → Type 0) (keyed : IsPlainWord word) (one : Pair IsPlainWord body text fits)
  where
    -- a printed line is read again, and the place behind it is known
    pub line_again : (x : A) (n : Place) (r : List ℕ) → fits x →
        line word body (record { place = n; rest = line_text word (text x) ++ r })
        ≡ Ok (x, record { place = place_behind n (length (word ++ spaced_words (text x))); rest = r })
    unfolding line
    line_again x n r h =
        let size = length (word ++ spaced_words (text x)) in
        let p = one.again x (line_place n size) [] h in
        let rest = λ (parts : Cursor (List ℕ) × Cursor ℕ). keyword word parts.0 >>= λ ws. body ws >>= λ y. finish y.1
        >>=
        λ done. done_of (y.0, parts.1) in
        let keyed_again : bytes_eq word word ≡ true = (bytes_eq-Decides word word).1 refl in
        ap (λ (t : Result (Cursor (List ℕ) × Cursor ℕ) TextFault). t >>= rest)
        (next_line_again n word (text x) r keyed (one.plain x h))
        ∙ (rw keyed_again
        (ap (λ (t : List (List ℕ)). body (record { place = line_place n size; rest = t }) >>= λ y. finish y.1 >>= λ
        done. done_of (y.0, record { place = place_behind n size; rest = r })) (sym (append-nil (text x))))
        ∙ ap (λ (t : Result (A × Cursor (List ℕ)) TextFault). t >>= λ y. finish y.1 >>= λ done. done_of
        (y.0, record { place = place_behind n size; rest = r })) p.1)

    -- the same from a text whose next line is known byte by byte
    pub line_found : (x : A) (c : Cursor ℕ) (r : List ℕ) → fits x → c.rest ≡ (word ++ spaced_words (text x)) ++ 10 ∷ r →
        line word body c ≡ Ok (x, record { place = place_behind c.place (length c.rest - length r - 1); rest = r })
    line_found x c r h is =
        let front = word ++ spaced_words (text x) in
        let size : length (front ++ 10 ∷ r) ≡ length front + length (10 ∷ r) = length-append front (10 ∷ r) in
        let same : length front ≡ length c.rest - length r - 1 = omega (arith, ap length is) in
        ap (λ (t : List ℕ). line word body (record { place = c.place; rest = t }))
        (is ∙ sym (line_bytes word (text x) r))
        ∙ (line_again x c.place r h ∙ ap (λ (t : ℕ). Ok (x, record { place = place_behind c.place t; rest = r })) same)

    -- and what is left behind that line
    pub found_cut : (x : A) (c : Cursor ℕ) (r : List ℕ) → fits x → c.rest ≡ (word ++ spaced_words (text x)) ++ 10 ∷ r →
        (cut 10 c.rest).1 ≡ Some r
    found_cut x c r h is =
        let front = word ++ spaced_words (text x) in
        ap (λ (t : List ℕ). (cut 10 t).1) is
        ∙ ap (λ (p : List ℕ × Option (List ℕ)). p.1)
        (cut_again 10 front r (no_feeds front (printed_line word (text x) keyed (one.plain x h))))

    pub line_pair : Pair IsAny (line word body) (λ x. line_text word (text x)) fits
    unfolding line
    line_pair = record {
      takes = λ c x d e.
          let a = bind_ok (next_line c)
          (λ parts. keyword word parts.0 >>= λ ws. body ws >>= λ y. finish y.1 >>= λ done. Ok (y.0, parts.1))
          (x, d) e in
          let b = bind_ok (keyword word a.0.0) (λ ws. body ws >>= λ y. finish y.1 >>= λ done. Ok (y.0, a.0.1))
          (x, d) a.2 in
          let f = bind_ok (body b.0) (λ y. finish y.1 >>= λ done. Ok (y.0, a.0.1)) (x, d) b.2 in
          let g = bind_ok (finish f.0.1) (λ done. Ok (f.0.0, a.0.1)) (x, d) f.2 in
          let p = one.takes b.0 f.0.0 f.0.1 f.1 in
          let none = finish_ok f.0.1.place f.0.1.rest g.0 g.1 in
          let all : b.0.rest ≡ text f.0.0 =
          p.1 ∙ (ap (λ (t : List (List ℕ)). text f.0.0 ++ t) none ∙ append-nil (text f.0.0)) in
          let parts = next_line_takes c a.0.0 a.0.1 word b.0.rest a.1
          (keyword_ok word a.0.0.place a.0.0.rest b.0 b.1) in
          subst (λ (t : A × Cursor ℕ). fits t.0 × (c.rest ≡ line_text word (text t.0) ++ t.1.rest))
          (ok_is (f.0.0, a.0.1) (x, d) g.2)
          (p.0, parts ∙ ap (λ (t : List (List ℕ)). line_text word t ++ a.0.1.rest) all);
      again = λ x n r h. (place_behind n (length (word ++ spaced_words (text x))), line_again x n r h);
      plain = λ x h. any_bytes (line_text word (text x));
    }

-- ---- nothing, and one number

pub nothing_pair : Pair IsPlainWord nothing (λ x. []) (λ x. Unit {0})
nothing_pair = record {
  takes = λ c x d e. (
    tt,
    ap (λ (t : Cursor (List ℕ)). t.rest) (let p : (tt, c) ≡ (x, d) = cc in
        ap (λ (q : Unit {0} × Cursor (List ℕ)). q.1) p),
  );
  again = λ x n r h. (n, refl);
  plain = λ x h. tt;
}

pub single_pair : (word : List ℕ) (low high : ℕ) → IsPlainWord word → high < 2 ^ 63 →
    Pair IsAny (single word low high) (single_text word) (IsFrom low high)
single_pair word low high keyed small =
    line_pair word (natural low high) (λ n. decimal n ∷ []) (IsFrom low high) keyed (natural_pair low high small)
