-- Digits read in one pass, and the word that they are.
use Rattle.std.proofs.Common.{◌≡◌, ℕ, ◌+◌, ◌^◌, ◌<◌, ◌≤◌, true, List, [], ◌∷◌, ◌++◌, length, take, drop, get_or, sym, ap, ◌∙◌, arith, refl}
use Rattle.std.specs.List.{list_all}
use Rattle.std.specs.Char.{is_ascii_digit}
use Rattle.std.specs.Int.{IsInRange}
use Rattle.std.specs.Fmt.{decimal}
use Rattle.std.specs.Str.Parse.{digits_value}
use Rattle.std.proofs.lemmas.List.{get_or-take, length-take, take_more, take-append-drop, append-nil}
use Rattle.std.proofs.lemmas.Fmt.{decimal-digits_value}
use Rattle.bmp_text.proofs.NumeralLemmas.{own, tells, plain_decimal}
use Rattle.bmp_text.proofs.WordLemmas.{plain_front}
use Rattle.bmp_text.specs.Words.{words}

digits_push : (ds : List ℕ) (d : ℕ) → list_all is_ascii_digit ds ≡ true → IsInRange 48 57 d →
    list_all is_ascii_digit (ds ++ d ∷ []) ≡ true
digits_push [] d h k = tells.more d [] k refl
digits_push (e ∷ ds) d h k = let p = tells.parts e ds h in tells.more e (ds ++ d ∷ []) p.0 (digits_push ds d p.1 k)

pub digits_on : (bs : List ℕ) (i : ℕ) → i < length bs → list_all is_ascii_digit (take i bs) ≡ true →
    IsInRange 48 57 (get_or bs i 0) → list_all is_ascii_digit (take (i + 1) bs) ≡ true
digits_on bs i lt h k = rw (take_more bs i 0 lt) (digits_push (take i bs) (get_or bs i 0) h k)

pub digits_first : (bs : List ℕ) (i n : ℕ) → 0 < i → i ≤ length bs → list_all is_ascii_digit (take i bs) ≡ true →
    n ≡ digits_value 10 (take i bs) → n < 2 ^ 63 → (get_or bs 0 0 ≡ 48 → i ≤ 1) → bs ≡ decimal n ++ drop i bs
digits_first bs i n some le digits value small lead =
    let len : length (take i bs) ≡ i = omega (arith, length-take i bs) in
    let head : get_or (take i bs) 0 0 ≡ get_or bs 0 0 = get_or-take i bs 0 0 some in
    let front : decimal n ≡ take i bs =
    ap decimal value ∙ decimal-digits_value own (take i bs) digits (omega arith)
    (λ e. omega (arith, lead (sym head ∙ e))) (omega arith) in
    sym (take-append-drop i bs) ∙ ap (λ t. t ++ drop i bs) (sym front)

-- ---- a number and what is behind it on a line

nothing_behind : words [] ≡ [] ∷ []
unfolding words
nothing_behind = refl

space_behind : (rest : List ℕ) → words (32 ∷ rest) ≡ [] ∷ words rest
unfolding words
space_behind rest = refl

pub last_word : (bs : List ℕ) (n : ℕ) → n < 2 ^ 63 → bs ≡ decimal n ++ [] → words bs ≡ decimal n ∷ []
last_word bs n small e = ap words e ∙ plain_front (decimal n) [] [] (plain_decimal n (omega arith)) nothing_behind

pub next_word : (bs rest : List ℕ) (n : ℕ) → n < 2 ^ 63 → bs ≡ decimal n ++ (32 ∷ rest) →
    words bs ≡ decimal n ∷ words rest
next_word bs rest n small e =
    ap words e ∙ plain_front (decimal n) (32 ∷ rest) (words rest) (plain_decimal n (omega arith)) (space_behind rest)
