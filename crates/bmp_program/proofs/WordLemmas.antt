-- The words of the command line: the number of a sample, and the command.
use Rattle.std.proofs.Common.{◌≡◌, ◌<◌, ◌^◌, ◌∙◌, ℕ, Bool, true, false, List, [], ◌∷◌, length, Option, Some, None, refl, ap, codes}
use Rattle.std.specs.Prelude.{◌&&◌, if◌then◌else◌, nat_lt, is_some, option_map, option_and_then}
use Rattle.std.specs.Borrow.{Bor}
use Rattle.std.specs.List.{list_all}
use Rattle.std.specs.Char.{digit_value}
use Rattle.std.specs.Str.Parse.{AllDigits, IsNumeral, digits_value, without_leading_plus}
use Rattle.std.proofs.lemmas.Bool.{ltb-true, lt-ltb}
use Rattle.clap.specs.ValueTests.{is_numeral}
use Rattle.clap.specs.Walk.{Row, first_of}
use Rattle.bmp_program.specs.CommandLine.{named, allowed, command_in, seed_named}
use Rattle.bmp_program.specs.declared.words.CommandWord.{CommandWord}

both : (a b : Bool) → (a && b) ≡ true → (a ≡ true) × (b ≡ true)
both true b e = (refl, e)
both false b e = cc

-- ---- the number of a sample

digits_test : (ds : List ℕ) → AllDigits 10 ds → list_all (λ d. nat_lt (digit_value d) 10) ds ≡ true
digits_test [] h = refl
digits_test (d ∷ ds) h = rw (lt-ltb (digit_value d) 10 h.0) (digits_test ds h.1)

digits_from : (ds : List ℕ) → list_all (λ d. nat_lt (digit_value d) 10) ds ≡ true → AllDigits 10 ds
digits_from [] e = tt
digits_from (d ∷ ds) e =
    let parts = both (nat_lt (digit_value d) 10) (list_all (λ d. nat_lt (digit_value d) 10) ds) e in
    (ltb-true (digit_value d) 10 parts.0, digits_from ds parts.1)

numeral_test : (ds : List ℕ) → IsNumeral 10 ds → is_numeral ds ≡ true
numeral_test ds h = rw (lt-ltb 0 (length ds) h.0) (digits_test ds h.1)

numeral_from : (ds : List ℕ) → is_numeral ds ≡ true → IsNumeral 10 ds
numeral_from ds e =
    let parts = both (nat_lt 0 (length ds)) (list_all (λ d. nat_lt (digit_value d) 10) ds) e in
    (ltb-true 0 (length ds) parts.0, digits_from ds parts.1)

Writes : List ℕ → Type 0
Writes ds = IsNumeral 10 ds × (digits_value 10 ds < 2 ^ 32)

pub seed_read : (text : List ℕ) (seed : ℕ) →
    (IsNumeral 10 (without_leading_plus text) × (digits_value 10 (without_leading_plus text) < 2 ^ 32))
    × (seed ≡ digits_value 10 (without_leading_plus text)) → seed ≡ seed_named (Some text)
seed_read text seed (writes, is) =
    let ds = without_leading_plus text in
    let test : (is_numeral ds && nat_lt (digits_value 10 ds) (2 ^ 32)) ≡ true =
    rw (numeral_test ds writes.0) (lt-ltb (digits_value 10 ds) (2 ^ 32) writes.1) in
    rw test is

pub no_seed : (text : List ℕ) →
    ((IsNumeral 10 (without_leading_plus text) × (digits_value 10 (without_leading_plus text) < 2 ^ 32)) → ⊥) →
    0 ≡ seed_named (Some text)
no_seed text none = by_test (is_numeral ds && nat_lt (digits_value 10 ds) (2 ^ 32)) refl
  where
    ds : List ℕ
    ds = without_leading_plus text

    by_test : (b : Bool) → (is_numeral ds && nat_lt (digits_value 10 ds) (2 ^ 32)) ≡ b →
        0 ≡ (if b then digits_value 10 ds else 0)
    by_test false e = refl
    by_test true e =
        let parts = both (is_numeral ds) (nat_lt (digits_value 10 ds) (2 ^ 32)) e in
        absurd (none (numeral_from ds parts.0, ltb-true (digits_value 10 ds) (2 ^ 32) parts.1))

-- ---- the command

some_now : (o : Option (Bor (List ℕ))) → is_some o ≡ is_some (option_map (λ t. t.now) o)
some_now None = refl
some_now (Some t) = refl

pub command_of : (rows : List Row) (seeded : Bool) (s w : Option (Bor (List ℕ))) (r : Option CommandWord) →
    seeded ≡ is_some s → option_map (λ t. t.now) s ≡ first_of (codes "seed") rows →
    option_map (λ t. t.now) w ≡ first_of (codes "COMMAND") rows →
    r ≡ option_and_then (λ text. option_and_then (allowed seeded) (named text)) (option_map (λ t. t.now) w) →
    r ≡ command_in rows
command_of rows seeded s w r has of_seed of_command is =
    is
    ∙ ap (λ (o : Option (List ℕ)). option_and_then (λ text. option_and_then (allowed seeded) (named text)) o) of_command
    ∙ ap (λ (b : Bool). option_and_then (λ text. option_and_then (allowed b) (named text))
    (first_of (codes "COMMAND") rows)) (has ∙ (some_now s ∙ ap is_some of_seed))
