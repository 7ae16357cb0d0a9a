-- A number that is read is spelled so, and its spelling is read again: a number has one canonical form.
use Rattle.std.proofs.Common.{◌≡◌, ℕ, ℤ, pos, negsuc, zero, suc, ◌-◌, ◌^◌, ◌<◌, ◌≤◌, Bool, true, false, cond, eqb, List, [], ◌∷◌, length, get_or, Some, None, refl, sym, ap, subst, ◌∙◌, arith, rules}
use Rattle.std.proofs.lemmas.Bool.{eqb-true}
use Rattle.std.specs.List.{list_all}
use Rattle.std.specs.Char.{is_ascii_digit}
use Rattle.std.specs.Fmt.{decimal, signed_decimal}
use Rattle.std.specs.Str.Parse.{digits_value}
use Rattle.std.proofs.lemmas.Str.Parse.{IsDigitsTest, IsNumeralModel, numerals_by_value}
use Rattle.std.proofs.lemmas.Fmt.{decimal-digits_value, digits_decimal, digits_value-decimal, first_decimal, decimal_nonempty, decimal_digit}
use Rattle.bmp_text.proofs.DigitLemmas.{nonzero_value}
use Rattle.bmp_text.proofs.WordLemmas.{IsPlainWord}
use Rattle.bmp_text.specs.Numerals.{is_positive_numeral, signed_value, numeral_value, fits_i64}

AreDigits : List ℕ → Type 0
AreDigits ds = list_all is_ascii_digit ds ≡ true

pub tells : IsDigitsTest (λ ds. list_all is_ascii_digit ds ≡ true)
tells = search rules

pub own : IsNumeralModel (λ ds. list_all is_ascii_digit ds ≡ true) (digits_value 10)
own = numerals_by_value (λ ds. list_all is_ascii_digit ds ≡ true) tells

-- ---- numbers from 1 on

nonzero_digits : (ds : List ℕ) → is_positive_numeral ds ≡ true → list_all is_ascii_digit ds ≡ true
nonzero_digits [] h = absurd cc
nonzero_digits (d ∷ ds) h =
    let low : 49 ≤ d = search rules in
    let high : d ≤ 57 = search rules in
    let others : list_all is_ascii_digit ds ≡ true = search rules in
    tells.more d ds (omega arith, omega arith) others

nonzero_first : (ds : List ℕ) → is_positive_numeral ds ≡ true → 48 < get_or ds 0 0
nonzero_first [] h = absurd cc
nonzero_first (d ∷ ds) h = let low : 49 ≤ d = search rules in omega arith

nonzero_long : (ds : List ℕ) → is_positive_numeral ds ≡ true → 0 < length ds
nonzero_long [] h = absurd cc
nonzero_long (d ∷ ds) h = omega arith

pub nonzero_takes : (ds : List ℕ) → is_positive_numeral ds ≡ true → digits_value 10 ds < 2 ^ 64 →
    decimal (digits_value 10 ds) ≡ ds
nonzero_takes ds h lt =
    decimal-digits_value own ds (nonzero_digits ds h) (nonzero_long ds h)
    (λ e. absurd (omega (arith, nonzero_first ds h))) lt

nonzero_from : (ds : List ℕ) → list_all is_ascii_digit ds ≡ true → 0 < length ds → 48 < get_or ds 0 0 →
    is_positive_numeral ds ≡ true
nonzero_from [] h long first = absurd (omega arith)
nonzero_from (d ∷ ds) h long first =
    let p = tells.parts d ds h in
    let low : 49 ≤ d = omega arith in
    let high : d ≤ 57 = p.0.1 in
    let others : list_all is_ascii_digit ds ≡ true = p.1 in
    search rules

pub nonzero_again : (n : ℕ) → 0 < n → n < 2 ^ 64 → is_positive_numeral (decimal n) ≡ true
nonzero_again n more lt =
    nonzero_from (decimal n) (digits_decimal own n lt) (decimal_nonempty n lt) (first_decimal n more lt)

-- ---- words

fits_pos : (n : ℕ) → fits_i64 (pos n) ≡ true → n < 2 ^ 63
fits_pos n h = search rules

fits_neg : (n : ℕ) → fits_i64 (negsuc n) ≡ true → n < 2 ^ 63
fits_neg n h = search rules

some_is : {A : Type 0} (x y : A) → Some x ≡ Some y → x ≡ y
some_is x y e = cc

signed_takes : (minus : Bool) (ds : List ℕ) (z : ℤ) → signed_value minus ds ≡ Some z → fits_i64 z ≡ true →
    signed_decimal z ≡ cond minus (45 ∷ ds) ds
signed_takes minus ds z e fits = go minus (is_positive_numeral ds) refl e
  where
    go : (m t : Bool) → is_positive_numeral ds ≡ t →
        cond t (Some (cond m (negsuc (digits_value 10 ds - 1)) (pos (digits_value 10 ds)))) None ≡ Some z →
        signed_decimal z ≡ cond m (45 ∷ ds) ds
    go true true h e =
        let is : negsuc (digits_value 10 ds - 1) ≡ z = some_is _ _ e in
        let low = nonzero_value ds h in
        let back : suc (digits_value 10 ds - 1) ≡ digits_value 10 ds = omega arith in
        let small = fits_neg (digits_value 10 ds - 1) (subst (λ (t : ℤ). fits_i64 t ≡ true) (sym is) fits) in
        ap signed_decimal (sym is) ∙ ap (λ (t : List ℕ). 45 ∷ t) (ap decimal back ∙ nonzero_takes ds h (omega arith))
    go false true h e =
        let is : pos (digits_value 10 ds) ≡ z = some_is _ _ e in
        let small = fits_pos (digits_value 10 ds) (subst (λ (t : ℤ). fits_i64 t ≡ true) (sym is) fits) in
        ap signed_decimal (sym is) ∙ nonzero_takes ds h (omega arith)
    go m false h e = absurd cc

pub spelled_takes : (w : List ℕ) (z : ℤ) → numeral_value w ≡ Some z → fits_i64 z ≡ true → signed_decimal z ≡ w
unfolding numeral_value
spelled_takes [] z e fits = absurd cc
spelled_takes (b ∷ bs) z e fits = go (eqb b 48) (eqb b 45) refl refl e
  where
    zero_only : (ds : List ℕ) → b ≡ 48 → cond (eqb (length ds) 0) (Some (pos 0)) None ≡ Some z →
        signed_decimal z ≡ b ∷ ds
    zero_only [] same e = let is : pos 0 ≡ z = some_is _ _ e in ap signed_decimal (sym is)
        ∙ (decimal_digit 0 (omega arith) ∙ ap (λ (t : ℕ). t ∷ []) (sym same))
    zero_only (d ∷ ds) same e = let k : eqb (length (d ∷ ds)) 0 ≡ false = search rules in let f = rw k at e in absurd cc

    go : (t u : Bool) → eqb b 48 ≡ t → eqb b 45 ≡ u →
        cond t (cond (eqb (length bs) 0) (Some (pos 0)) None)
        (cond u (signed_value true bs) (signed_value false (b ∷ bs))) ≡ Some z → signed_decimal z ≡ b ∷ bs
    go true u h k e = zero_only bs (eqb-true b 48 h) e
    go false true h k e = signed_takes true bs z e fits ∙ ap (λ (t : ℕ). t ∷ bs) (sym (eqb-true b 45 k))
    go false false h k e = signed_takes false (b ∷ bs) z e fits

positive_case : (w : List ℕ) → is_positive_numeral w ≡ true → numeral_value w ≡ Some (pos (digits_value 10 w))
unfolding numeral_value
positive_case [] h = absurd cc
positive_case (d ∷ ds) h =
    let low : 49 ≤ d = search rules in
    let a : eqb d 48 ≡ false = search rules in
    let b : eqb d 45 ≡ false = search rules in
    rw (a, b, h) refl

negative_case : (w : List ℕ) → is_positive_numeral w ≡ true →
    numeral_value (45 ∷ w) ≡ Some (negsuc (digits_value 10 w - 1))
unfolding numeral_value
negative_case w h = rw h refl

zero_case : numeral_value (48 ∷ []) ≡ Some (pos 0)
unfolding numeral_value
zero_case = refl

pub spelled_again : (z : ℤ) → fits_i64 z ≡ true → numeral_value (signed_decimal z) ≡ Some z
spelled_again (pos zero) fits = ap numeral_value (decimal_digit 0 (omega arith)) ∙ zero_case
spelled_again (pos (suc n)) fits =
    let small = fits_pos (suc n) fits in
    positive_case (decimal (suc n)) (nonzero_again (suc n) (omega arith) (omega arith))
    ∙ ap (λ (t : ℕ). Some (pos t)) (digits_value-decimal own (suc n) (omega arith))
spelled_again (negsuc n) fits =
    let small = fits_neg n fits in
    let back : suc n - 1 ≡ n = omega arith in
    negative_case (decimal (suc n)) (nonzero_again (suc n) (omega arith) (omega arith))
    ∙ ap (λ (t : ℕ). Some (negsuc t)) (ap (λ (t : ℕ). t - 1) (digits_value-decimal own (suc n) (omega arith))
    ∙ back)

-- ---- plain words

plain_digits : (ds : List ℕ) → list_all is_ascii_digit ds ≡ true → IsPlainWord ds
plain_digits [] h = tt
plain_digits (d ∷ ds) h = let p = tells.parts d ds h in ((omega arith, omega arith), plain_digits ds p.1)

pub plain_decimal : (n : ℕ) → n < 2 ^ 64 → IsPlainWord (decimal n)
plain_decimal n lt = plain_digits (decimal n) (digits_decimal own n lt)

pub plain_signed : (z : ℤ) → fits_i64 z ≡ true → IsPlainWord (signed_decimal z)
plain_signed (pos n) fits = let small = fits_pos n fits in plain_decimal n (omega arith)
plain_signed (negsuc n) fits = let small = fits_neg n fits in
    ((omega arith, omega arith), plain_decimal (suc n) (omega arith))
