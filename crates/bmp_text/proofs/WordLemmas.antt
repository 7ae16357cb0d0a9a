-- The words of a line, and the line that they make.
use Rattle.std.proofs.Common.{◌≡◌, ℕ, ◌<◌, ◌==◌, Bool, true, false, cond, eqb, List, [], ◌∷◌, ◌++◌, Some, refl, sym, ap, ap₂, ◌∙◌, rules, arith}
use Rattle.std.proofs.lemmas.Bool.{eqb-true}
use Rattle.std.specs.List.{AllByRecursion, list_any, list_all}
use Rattle.std.specs.Char.{is_ascii_graphic}
use Rattle.bmp_text.specs.Printing.{spaced_words, joined_words}
use Rattle.bmp_text.specs.Words.{cut, cut_with, words, words_of, words_with, is_unprintable}

-- ---- by cuts

cut_case : (t : Bool) (b : ℕ) (bs : List ℕ) → words bs ≡ (cut 32 bs).0 ∷ words_of (cut 32 bs).1 →
    cond t ([] ∷ words bs) (words_with b (words bs)) ≡ (cond t ([], Some bs) (cut_with b (cut 32 bs))).0 ∷ words_of
    (cond t ([], Some bs) (cut_with b (cut 32 bs))).1
cut_case true b bs so_far = refl
cut_case false b bs so_far = ap (words_with b) so_far

pub words_cut : (bs : List ℕ) → words bs ≡ (cut 32 bs).0 ∷ words_of (cut 32 bs).1
unfolding words cut
words_cut [] = refl
words_cut (b ∷ bs) = cut_case (eqb b 32) b bs (words_cut bs)

-- ---- the line that words make

longer_joined : (b : ℕ) (ws : List (List ℕ)) → joined_words (words_with b ws) ≡ b ∷ joined_words ws
longer_joined b [] = refl
longer_joined b (w ∷ ws) = refl

spaced-words : (bs : List ℕ) → spaced_words (words bs) ≡ 32 ∷ joined_words (words bs)
spaced-words bs = rw (words_cut bs) refl

joined_case : (t : Bool) (b : ℕ) (bs : List ℕ) → eqb b 32 ≡ t → joined_words (words bs) ≡ bs →
    joined_words (cond t ([] ∷ words bs) (words_with b (words bs))) ≡ b ∷ bs
joined_case true b bs h so_far = spaced-words bs ∙ ap₂ (λ (x : ℕ) (y : List ℕ). x ∷ y) (sym (eqb-true b 32 h)) so_far
joined_case false b bs h so_far = longer_joined b (words bs) ∙ ap (λ y. b ∷ y) so_far

pub words_joined : (bs : List ℕ) → joined_words (words bs) ≡ bs
unfolding words
words_joined [] = refl
words_joined (b ∷ bs) = joined_case (eqb b 32) b bs refl (words_joined bs)

pub words_takes : (bs w : List ℕ) (ws : List (List ℕ)) → words bs ≡ w ∷ ws → bs ≡ w ++ spaced_words ws
words_takes bs w ws e = sym (words_joined bs) ∙ ap joined_words e

-- ---- plain words

-- a printable byte that is no space
abbrev pub IsPlain : ℕ → Type 0
IsPlain b = (32 < b) × (b < 127)

abbrev pub IsPlainWord : List ℕ → Type 0
IsPlainWord w = AllByRecursion IsPlain w

pub plain_word : (w : List ℕ) → list_all is_ascii_graphic w ≡ true → IsPlainWord w
plain_word [] h = tt
plain_word (b ∷ w) h =
    let low : 32 < b = search rules in
    let high : b < 127 = search rules in
    let others : list_all is_ascii_graphic w ≡ true = search rules in
    ((low, high), plain_word w others)

no_space : (b : ℕ) → IsPlain b → eqb b 32 ≡ false
no_space b h = search rules

pub plain_front : (w s : List ℕ) (ws : List (List ℕ)) → IsPlainWord w → words s ≡ [] ∷ ws → words (w ++ s) ≡ w ∷ ws
unfolding words
plain_front [] s ws h e = e
plain_front (b ∷ w) s ws h e = rw (no_space b h.0) (ap (words_with b) (plain_front w s ws h.1 e))

words_spaced : (ws : List (List ℕ)) → AllByRecursion IsPlainWord ws → words (spaced_words ws) ≡ [] ∷ ws
unfolding words
words_spaced [] h = refl
words_spaced (w ∷ ws) h =
    ap (λ (t : List (List ℕ)). [] ∷ t) (plain_front w (spaced_words ws) ws h.0 (words_spaced ws h.1))

pub words_again : (w : List ℕ) (ws : List (List ℕ)) → IsPlainWord w → AllByRecursion IsPlainWord ws →
    words (w ++ spaced_words ws) ≡ w ∷ ws
words_again w ws h hs = plain_front w (spaced_words ws) ws h (words_spaced ws hs)

-- ---- printable bytes

abbrev pub IsPrinted : ℕ → Type 0
IsPrinted b = (31 < b) × (b < 127)

pub all_append : {A : Type 0} (P : A → Type 0) (xs ys : List A) → AllByRecursion P xs → AllByRecursion P ys →
    AllByRecursion P (xs ++ ys)
all_append P [] ys h k = k
all_append P (x ∷ xs) ys h k = (h.0, all_append P xs ys h.1 k)

printed_word : (w : List ℕ) → IsPlainWord w → AllByRecursion IsPrinted w
printed_word [] h = tt
printed_word (b ∷ w) h = ((omega arith, h.0.1), printed_word w h.1)

printed_spaced : (ws : List (List ℕ)) → AllByRecursion IsPlainWord ws → AllByRecursion IsPrinted (spaced_words ws)
printed_spaced [] h = tt
printed_spaced (w ∷ ws) h =
    ((omega arith, omega arith), all_append IsPrinted w (spaced_words ws) (printed_word w h.0) (printed_spaced ws h.1))

pub printed_line : (w : List ℕ) (ws : List (List ℕ)) → IsPlainWord w → AllByRecursion IsPlainWord ws →
    AllByRecursion IsPrinted (w ++ spaced_words ws)
printed_line w ws h hs = all_append IsPrinted w (spaced_words ws) (printed_word w h) (printed_spaced ws hs)

no_feed : (b : ℕ) → IsPrinted b → (b == 10) ≡ false
no_feed b h = search rules

pub no_feeds : (bs : List ℕ) → AllByRecursion IsPrinted bs → AllByRecursion (λ b. (b == 10) ≡ false) bs
no_feeds [] h = tt
no_feeds (b ∷ bs) h = (no_feed b h.0, no_feeds bs h.1)

is_printable : (b : ℕ) → IsPrinted b → is_unprintable b ≡ false
is_printable b h = search rules

pub all_printable : (bs : List ℕ) → AllByRecursion IsPrinted bs → list_any is_unprintable bs ≡ false
all_printable [] h = refl
all_printable (b ∷ bs) h = rw (is_printable b h.0) (all_printable bs h.1)
