-- Horner's scheme on a row of coefficients.
use Rattle.std.proofs.Common.{◌≡◌, ℕ, zero, suc, ◌+◌, ◌-◌, ◌*◌, ◌^◌, ◌<◌, ◌≤◌, arith, refl, sym, ap, ap₂, ◌∙◌, subst, inl, inr, ◌⊎◌, Bool, true, false, List, length, get_or, ℤ, pos, ◌+ℤ◌, ◌-ℤ◌}
use Rattle.std.specs.Prelude.{nat_le, nat_lt, if◌then◌else◌}
use Rattle.std.specs.Int.RustNames.{unsigned_abs}
use Rattle.std.proofs.Math.ListN.{set, length-set}
use Rattle.std.proofs.Math.Nat.{pow-le-pow_right}
use Rattle.std.proofs.lemmas.Bool.{cases_eq}
use Rattle.std.proofs.lemmas.Bool.Decides.{nat_tests}
use Rattle.std.proofs.lemmas.Int.{ints}
use Rattle.std.proofs.lemmas.Grind.{get_or-set_at}
use Rattle.std.proofs.lemmas.List.{get_or-set_other, get_or_past}
use Rattle.bmp_math.specs.Integers.{IsWithin}
use Rattle.bmp_hecke.specs.Laurents.{Laurent, times_difference, HasSpan}
use Rattle.bmp_hecke.specs.Combinations.{value_in}
use Rattle.bmp_kl.specs.Powers.{horner}
use Rattle.bmp_kl.specs.HornerRows.{before, after, IsMultiplied, steps_sum}
use Rattle.bmp_kl.proofs.PowerLemmas.{horner_size}
use Rattle.bmp_kl.proofs.FillLemmas.{horner_same, horner_span}

-- ---- one product
pub multiplied_none : (part : Laurent) (old : List ℤ) → IsMultiplied part 0 old old
multiplied_none part old = record { as_long = refl; done = λ i l. absurd (omega arith); kept = λ i l. refl }

pub multiplied_next : (part : Laurent) (n : ℕ) (old first second : List ℤ) (p b a v : ℤ) → IsMultiplied part n old first
    → second ≡ set first n v → n < length old → p ≡ part (pos n -ℤ pos 72) → b ≡ before old n → a ≡ after first n →
    v ≡ p +ℤ (b -ℤ a)
    → IsMultiplied part (n + 1) old second
multiplied_next part n old first second p b a v so_far is inside own lower upper value = record {
  as_long = ap length is ∙ length-set first n v ∙ so_far.as_long;
  done = λ i l.
      elim (cases_eq i n) [
        | inl last ↦
            ap (λ xs. get_or xs i (pos 0)) is
            ∙ get_or-set_at first n i v (pos 0) last (omega (arith, so_far.as_long))
            ∙ grouped v p b a _ _ _ value own lower (upper ∙ after_same n refl)
            ∙ ap (λ k. part (pos k -ℤ pos 72) +ℤ (before old k -ℤ after old k)) (sym last)
        | inr other ↦
            ap (λ xs. get_or xs i (pos 0)) is ∙ get_or-set_other first n i v (pos 0) other ∙ so_far.done i (omega arith)
      ];
  kept = λ i l.
      ap (λ xs. get_or xs i (pos 0)) is
      ∙ get_or-set_other first n i v (pos 0) (λ e. absurd (omega arith)) ∙ so_far.kept i (omega arith);
}
  where
    after_same : (k : ℕ) → k ≡ n → after first k ≡ after old k
    after_same k at = by (nat_lt k 144)
      where
        by : (b : Bool) → (if b then get_or first (k + 1) (pos 0) else pos 0)
            ≡ (if b then get_or old (k + 1) (pos 0) else pos 0)
        by true = so_far.kept (k + 1) (omega arith)
        by false = refl

    grouped : (v p b a q c d : ℤ) → v ≡ p +ℤ (b -ℤ a) → p ≡ q → b ≡ c → a ≡ d → v ≡ q +ℤ (c -ℤ d)
    grouped v p b a q c d e f g h = omega (arith, ints, e, f, g, h)

pub before_next : (part : Laurent) (n : ℕ) (old first : List ℤ) (v : ℤ) → IsMultiplied part n old first →
    v ≡ get_or first n (pos 0)
    → v ≡ before old (n + 1)
before_next part n old first v so_far is =
    let next : n + 1 ≡ suc n = omega arith in
    is ∙ so_far.kept n (omega arith) ∙ sym (ap (before old) next)

-- the values that the code combines are small
pub before_within : (part : Laurent) (n : ℕ) (old first : List ℤ) (w : ℕ) →
    ((i : ℕ) → IsWithin w (get_or old i (pos 0)))
    → IsWithin w (before old n)
before_within part zero old first w small = (omega (arith, ints), omega (arith, ints))
before_within part (suc n) old first w small = small n

pub after_within : (part : Laurent) (n : ℕ) (old first : List ℤ) (w : ℕ) → ((i : ℕ) → IsWithin w (get_or old i (pos 0)))
    → IsMultiplied part n old first → IsWithin w (after first n)
after_within part n old first w small so_far = by (nat_lt n 144)
  where
    by : (b : Bool) → IsWithin w (if b then get_or first (n + 1) (pos 0) else pos 0)
    by true = subst (λ v. IsWithin w v) (sym (so_far.kept (n + 1) (omega arith))) (small (n + 1))
    by false = (omega (arith, ints), omega (arith, ints))

-- ---- a row as a Laurent polynomial
pub value_near : (cs : List ℤ) (e : ℤ) → unsigned_abs e ≤ 72 →
    value_in cs 0 e ≡ get_or cs (unsigned_abs (e +ℤ pos 72)) (pos 0)
value_near cs e near =
    let on : nat_le (unsigned_abs e) 72 ≡ true = grind (arith, nat_tests) in
    rw on (ap (λ i. get_or cs i (pos 0)) (plus_none (unsigned_abs (e +ℤ pos 72))))
  where
    plus_none : (a : ℕ) → 0 * 145 + a ≡ a
    plus_none a = omega arith

value_far : (cs : List ℤ) (e : ℤ) → 72 < unsigned_abs e → value_in cs 0 e ≡ pos 0
value_far cs e far = let off : nat_le (unsigned_abs e) 72 ≡ false = grind (arith, nat_tests) in rw off refl

near_or_far : (e : ℤ) → (unsigned_abs e ≤ 72) ⊎ (72 < unsigned_abs e)
near_or_far e = grind arith

before_value : (cs : List ℤ) (e : ℤ) → unsigned_abs e ≤ 72 → before cs (unsigned_abs (e +ℤ pos 72))
    ≡ value_in cs 0 (e -ℤ pos 1)
before_value cs e near =
    elim (cases_eq (unsigned_abs (e +ℤ pos 72)) 0) [
      | inl first ↦ ap (before cs) first ∙ sym (value_far cs (e -ℤ pos 1) (omega (arith, ints)))
      | inr later ↦
          let back : unsigned_abs (e +ℤ pos 72) ≡ suc (unsigned_abs ((e -ℤ pos 1) +ℤ pos 72)) = omega (arith, ints) in
          ap (before cs) back ∙ sym (value_near cs (e -ℤ pos 1) (omega (arith, ints)))
    ]

after_value : (cs : List ℤ) (e : ℤ) → unsigned_abs e ≤ 72 → after cs (unsigned_abs (e +ℤ pos 72))
    ≡ value_in cs 0 (e +ℤ pos 1)
after_value cs e near =
    elim (cases_eq (unsigned_abs (e +ℤ pos 72)) 144) [
      | inl last ↦
          let off : nat_lt (unsigned_abs (e +ℤ pos 72)) 144 ≡ false = grind (arith, nat_tests) in
          ap (λ b. if b then get_or cs (unsigned_abs (e +ℤ pos 72) + 1) (pos 0) else pos 0) off
          ∙ sym (value_far cs (e +ℤ pos 1) (omega (arith, ints)))
      | inr earlier ↦
          let below : unsigned_abs (e +ℤ pos 72) < 144 = omega (arith, ints) in
          let on : nat_lt (unsigned_abs (e +ℤ pos 72)) 144 ≡ true = grind (arith, nat_tests) in
          let next : unsigned_abs (e +ℤ pos 72) + 1 ≡ unsigned_abs ((e +ℤ pos 1) +ℤ pos 72) = omega (arith, ints) in
          ap (λ b. if b then get_or cs (unsigned_abs (e +ℤ pos 72) + 1) (pos 0) else pos 0) on
          ∙ ap (λ i. get_or cs i (pos 0)) next ∙ sym (value_near cs (e +ℤ pos 1) (omega (arith, ints)))
    ]

-- the product on the row is the product, where nothing stands further out
pub multiplied_value : (part : Laurent) (old new : List ℤ) → IsMultiplied part 145 old new
    → (f : Laurent) → ((e : ℤ) → value_in old 0 e ≡ f e)
    → HasSpan 72 (λ e. part e +ℤ times_difference f e)
    → (e : ℤ) → value_in new 0 e ≡ part e +ℤ times_difference f e
multiplied_value part old new product f same span e =
    elim (near_or_far e) [
      | inl near ↦
          let i : ℕ = unsigned_abs (e +ℤ pos 72) in
          let back : pos i -ℤ pos 72 ≡ e = omega (arith, ints) in
          value_near new e near ∙ product.done i (omega (arith, ints))
          ∙ ap₂ (λ a b. a +ℤ b) (ap part back)
          (ap₂ (λ a b. a -ℤ b) (before_value old e near ∙ same (e -ℤ pos 1))
          (after_value old e near ∙ same (e +ℤ pos 1)))
      | inr far ↦ value_far new e far ∙ sym (span e far)
    ]

-- ---- all products
pub steps_horner : (m : ℕ) (parts : ℕ → Laurent) (j : ℕ) → j ≤ m → (e : ℤ)
    → steps_sum m parts (suc j) e ≡ horner j (λ i. parts ((m - j) + i)) e
unfolding steps_sum horner
steps_horner m parts zero few e =
    plus_none (parts (m - 0) e) _ (ap (λ d. parts d e) (let same : m - 0 ≡ (m - 0) + 0 = omega arith in same))
  where
    plus_none : (s t : ℤ) → s ≡ t → s +ℤ (pos 0 -ℤ pos 0) ≡ t
    plus_none s t h = omega (arith, ints, h)
steps_horner m parts (suc j) few e =
    ap₂ (λ a b. a +ℤ b) (ap (λ d. parts d e) (let same : m - suc j ≡ (m - suc j) + 0 = omega arith in same))
    (ap₂ (λ a b. a -ℤ b)
    (steps_horner m parts j (omega arith) (e -ℤ pos 1) ∙ horner_same j _ _ (λ d a l. ap (λ i. parts i a) (moved d))
    (e -ℤ pos 1))
    (steps_horner m parts j (omega arith) (e +ℤ pos 1) ∙ horner_same j _ _ (λ d a l. ap (λ i. parts i a) (moved d))
    (e +ℤ pos 1)))
  where
    moved : (d : ℕ) → (m - j) + d ≡ (m - suc j) + suc d
    moved d = omega (arith, few)

-- after j products, from those before
pub steps_next : (parts : ℕ → Laurent) (j : ℕ) (e : ℤ)
    → parts (36 - j) e +ℤ times_difference (steps_sum 36 parts j) e ≡ steps_sum 36 parts (j + 1) e
unfolding steps_sum
steps_next parts j e = let next : j + 1 ≡ suc j = omega arith in sym (ap (λ i. steps_sum 36 parts i e) next)

pub steps_none : (parts : ℕ → Laurent) (e : ℤ) → steps_sum 36 parts 0 e ≡ pos 0
unfolding steps_sum
steps_none parts e = refl

pub steps_span : (parts : ℕ → Laurent) → ((d : ℕ) → HasSpan 36 (parts d)) → (j : ℕ) → j < 37 →
    HasSpan 72 (steps_sum 36 parts (suc j))
steps_span parts span j few e far =
    steps_horner 36 parts j (omega arith) e
    ∙ horner_span j (λ i. parts ((36 - j) + i)) (λ d. span ((36 - j) + d)) e (omega (arith, far))

pub steps_size : (parts : ℕ → Laurent) → ((d : ℕ) (a : ℤ) → d ≤ 36 → unsigned_abs (parts d a) ≤ 2 ^ 69) →
    (j : ℕ) → j < 37 → (e : ℤ)
    → unsigned_abs (steps_sum 36 parts (suc j) e) ≤ 2 ^ 106
steps_size parts small j few e =
    at_most _ _ _ (ap unsigned_abs same)
    (capped _ (2 ^ suc j) (horner_size j (λ i. cut ((36 - j) + i)) (2 ^ 69) (λ d a. cut_small ((36 - j) + d) a) e)
    (pow-le-pow_right (omega arith) (let l : suc j ≤ 37 = omega arith in l)))
  where
    cut : ℕ → Laurent
    cut d a = if nat_le d 36 then parts d a else pos 0

    cut_same : (d : ℕ) (a : ℤ) → d ≤ 36 → parts d a ≡ cut d a
    cut_same d a near = let on : nat_le d 36 ≡ true = grind (arith, nat_tests) in
        sym (ap (λ b. if b then parts d a else pos 0) on)

    cut_small : (d : ℕ) (a : ℤ) → unsigned_abs (cut d a) ≤ 2 ^ 69
    cut_small d a = by (nat_le d 36) refl
      where
        by : (b : Bool) → nat_le d 36 ≡ b → unsigned_abs (if b then parts d a else pos 0) ≤ 2 ^ 69
        by true e = small d a (grind (arith, nat_tests))
        by false e = omega arith

    same : steps_sum 36 parts (suc j) e ≡ horner j (λ i. cut ((36 - j) + i)) e
    same =
        steps_horner 36 parts j (omega arith) e
        ∙ horner_same j _ _ (λ d a l. cut_same ((36 - j) + d) a (omega arith)) e

    at_most : (a b c : ℕ) → a ≡ b → b ≤ c → a ≤ c
    at_most a b c e h = omega arith

    capped : (a p : ℕ) → a + 2 ^ 69 ≤ p * 2 ^ 69 → p ≤ 2 ^ 37 → a ≤ 2 ^ 106
    capped a p h k = omega (arith, h, k)

-- ---- the row of the sums
pub value_within : (row : List ℤ) (f : Laurent) (w : ℕ) → length row ≡ 145 → ((e : ℤ) → value_in row 0 e ≡ f e)
    → ((e : ℤ) → unsigned_abs (f e) ≤ w) → (i : ℕ) → IsWithin w (get_or row i (pos 0))
value_within row f w long same small i =
    elim (below_or i 145) [
      | inl inside ↦
          let place : unsigned_abs ((pos i -ℤ pos 72) +ℤ pos 72) ≡ i = omega (arith, ints) in
          let at : get_or row i (pos 0) ≡ f (pos i -ℤ pos 72) =
          ap (λ k. get_or row k (pos 0)) (sym place) ∙ sym (value_near row (pos i -ℤ pos 72) (omega (arith, ints)))
          ∙ same (pos i -ℤ pos 72) in
          within (get_or row i (pos 0)) (at_most _ _ (ap unsigned_abs at) (small (pos i -ℤ pos 72)))
      | inr out ↦
          subst (λ v. IsWithin w v) (sym (get_or_past row i (pos 0) (omega (arith, long))))
          (omega (arith, ints), omega (arith, ints))
    ]
  where
    below_or : (a b : ℕ) → (a < b) ⊎ (b ≤ a)
    below_or a b = grind arith

    at_most : (a b : ℕ) → a ≡ b → b ≤ w → a ≤ w
    at_most a b e h = omega arith

    within : (v : ℤ) → unsigned_abs v ≤ w → IsWithin w v
    within v h = (omega (arith, ints, h), omega (arith, ints, h))

pub value_zeros : (row : List ℤ) → ((k : ℕ) → k < 145 → get_or row k (pos 0) ≡ pos 0) →
    (e : ℤ) → value_in row 0 e ≡ pos 0
value_zeros row zeros e =
    elim (near_or_far e) [
      | inl near ↦ value_near row e near ∙ zeros (unsigned_abs (e +ℤ pos 72)) (omega (arith, ints))
      | inr far ↦ value_far row e far
    ]

-- every tail is small, that of no parts too
pub tail_size : (parts : ℕ → Laurent) → ((d : ℕ) (a : ℤ) → d ≤ 36 → unsigned_abs (parts d a) ≤ 2 ^ 69) →
    (j : ℕ) → j ≤ 37 → (e : ℤ)
    → unsigned_abs (steps_sum 36 parts j e) ≤ 2 ^ 106
tail_size parts small zero few e = none _ (steps_none parts e)
  where
    none : (v : ℤ) → v ≡ pos 0 → unsigned_abs v ≤ 2 ^ 106
    none v h = omega (arith, ints, h)
tail_size parts small (suc j) few e = steps_size parts small j (omega arith) e
