-- Parts that grow: what is added in a row, in the rows of all lower vertices, and at all exponents.
use Rattle.std.proofs.Common.{◌≡◌, ◌≢◌, ℕ, zero, suc, ◌+◌, ◌-◌, ◌*◌, ◌/◌, ◌<◌, ◌≤◌, arith, refl, sym, ap, ap₂, ◌∙◌, subst, inl, inr, ◌⊎◌, List, length, get_or, ℤ, pos, negsuc, neg_ℤ, ◌+ℤ◌, ◌*ℤ◌}
use Rattle.std.specs.Prelude.{nat_le, if◌then◌else◌, Bool, true, false}
use Rattle.std.proofs.lemmas.Bool.Decides.{nat_tests}
use Rattle.std.proofs.Math.ListN.{set, length-set}
use Rattle.std.proofs.Math.IntN.{*ℤ_comm}
use Rattle.std.proofs.lemmas.Bool.{cases_eq}
use Rattle.std.proofs.lemmas.Int.{ints}
use Rattle.std.proofs.lemmas.Grind.{get_or-set_at}
use Rattle.std.proofs.lemmas.List.{get_or-set_other}
use Rattle.bmp_math.proofs.IntegerLemmas.{mul-zero, zero-mul}
use Rattle.bmp_hecke.specs.Laurents.{Laurent}
use Rattle.bmp_kl.specs.PartLists.{part_place, part_at, lower_value, part_value, IsRowAdded, IsTermAdded, IsBarAdded}

below_or : (a b : ℕ) → (a < b) ⊎ (b ≤ a)
below_or a b = grind arith

add_nothing : (s t c : ℤ) → t ≡ pos 0 → s ≡ s +ℤ t *ℤ c
add_nothing s t c none = plus_none s (t *ℤ c) (ap (λ z. z *ℤ c) none ∙ zero-mul c)
  where
    plus_none : (a b : ℤ) → b ≡ pos 0 → a ≡ a +ℤ b
    plus_none a b e = omega (arith, ints)

-- ---- a row
pub row_none : (start gap : ℕ) (c : ℤ) (row : ℕ → ℕ) (old : List ℤ) → IsRowAdded start gap 0 c row old old
row_none start gap c row old = record {
  as_long = refl;
  added = λ j i l e. absurd (omega arith);
  kept = λ i off. refl;
}

pub row_next : (start gap n place : ℕ) (c : ℤ) (row : ℕ → ℕ) (old first second : List ℤ) (v : ℤ) →
    IsRowAdded start gap n c row old first
    → second ≡ set first place v → place + 2 * n ≡ start + gap → place < length old
    → v ≡ get_or first place (pos 0) +ℤ pos (row n) *ℤ c → IsRowAdded start gap (n + 1) c row old second
row_next start gap n place c row old first second v before is at inside value = record {
  as_long = ap length is ∙ length-set first place v ∙ before.as_long;
  added = λ j i l e.
      elim (cases_eq j n) [
        | inl last ↦
            let here : i ≡ place = omega arith in
            ap (λ xs. get_or xs i (pos 0)) is
            ∙ get_or-set_at first place i v (pos 0) here (omega (arith, before.as_long)) ∙ value
            ∙ ap₂ (λ s k. s +ℤ pos (row k) *ℤ c)
            (before.kept place (λ k m f. absurd (omega arith)) ∙ ap (λ k. get_or old k (pos 0)) (sym here)) (sym last)
        | inr other ↦
            ap (λ xs. get_or xs i (pos 0)) is
            ∙ get_or-set_other first place i v (pos 0) (λ same. other (omega arith)) ∙ before.added j i (omega arith) e
      ];
  kept = λ i off.
      ap (λ xs. get_or xs i (pos 0)) is
      ∙ get_or-set_other first place i v (pos 0) (λ same. off n (omega arith) (omega arith))
      ∙ before.kept i (λ j l. off j (omega arith));
}

-- a row of zeros adds nothing
pub row_dead : (start gap n : ℕ) (c : ℤ) (row : ℕ → ℕ) (old : List ℤ) → ((j : ℕ) → j < n → row j ≡ 0) →
    IsRowAdded start gap n c row old old
row_dead start gap n c row old none = record {
  as_long = refl;
  added = λ j i l e. add_nothing (get_or old i (pos 0)) (pos (row j)) c (ap pos (none j l));
  kept = λ i off. refl;
}

-- ---- the rows of all lower vertices
pub term_none : (a : ℕ) (c : ℤ) (counts : ℕ → ℕ → ℕ) (old : List ℤ) → IsTermAdded a 0 c counts old old
term_none a c counts old = record {
  as_long = refl;
  added = λ x d l m. absurd (omega arith);
  kept = λ x b d l m off. refl;
}

-- with the coefficient 0 nothing is added
pub term_dead : (a n : ℕ) (c : ℤ) (counts : ℕ → ℕ → ℕ) (old : List ℤ) → c ≡ pos 0 → IsTermAdded a n c counts old old
term_dead a n c counts old none = record {
  as_long = refl;
  added = λ x d l m.
      plus_none (part_at old x d a) (pos (counts x d) *ℤ c) (ap (λ z. pos (counts x d) *ℤ z) none
      ∙ mul-zero (pos (counts x d)));
  kept = λ x b d l m off. refl;
}
  where
    plus_none : (s t : ℤ) → t ≡ pos 0 → s ≡ s +ℤ t
    plus_none s t e = omega (arith, ints)

-- two places of parts, one of them in the row of x at the exponent -a
place_apart : (x b d n a gap j : ℕ) → b < 37 → d < 37 → a < 37 → gap < 37 → 2 * j ≤ gap → (b ≢ a) ⊎ (x ≢ n)
    → part_place x b d + 2 * j ≡ n * 1369 + a * 37 + gap → ⊥
place_apart x b d n a gap j lb ld la lg small off e =
    let rest : ℕ = gap - 2 * j in
    let short : rest < 37 = omega arith in
    let places : x * 1369 + b * 37 + d ≡ n * 1369 + a * 37 + rest = omega arith in
    let rows : x ≡ n = omega arith in
    let columns : b ≡ a = omega arith in
    by off rows columns
  where
    by : (b ≢ a) ⊎ (x ≢ n) → x ≡ n → b ≡ a → ⊥
    by (inl apart) rows columns = apart columns
    by (inr apart) rows columns = apart rows

pub term_next : (a n gap : ℕ) (c : ℤ) (counts : ℕ → ℕ → ℕ) (row : ℕ → ℕ) (old first second : List ℤ) →
    IsTermAdded a n c counts old first
    → IsRowAdded (n * 1369 + a * 37) gap (gap / 2 + 1) c row first second → a < 37 → gap < 37
    → ((d j : ℕ) → d + 2 * j ≡ gap → counts n d ≡ row j) → ((d : ℕ) → ((j : ℕ) → d + 2 * j ≢ gap) → counts n d ≡ 0)
    → IsTermAdded a (n + 1) c counts old second
term_next a n gap c counts row old first second before rows la lg at off = record {
  as_long = rows.as_long ∙ before.as_long;
  added = λ x d l m.
      elim (cases_eq x n) [
        | inl last ↦
            subst (λ y. part_at second y d a ≡ part_at old y d a +ℤ pos (counts y d) *ℤ c) (sym last) (own d m)
        | inr other ↦ apart x a d la m (inr other) ∙ before.added x d (omega arith) m
      ];
  kept = λ x b d l m away. apart x b d l m (turned x b away) ∙ before.kept x b d l m (less x b away);
}
  where
    turned : (x b : ℕ) → (b ≢ a) ⊎ (n + 1 ≤ x) → (b ≢ a) ⊎ (x ≢ n)
    turned x b (inl h) = inl h
    turned x b (inr h) = inr (λ e. absurd (omega arith))

    less : (x b : ℕ) → (b ≢ a) ⊎ (n + 1 ≤ x) → (b ≢ a) ⊎ (n ≤ x)
    less x b (inl h) = inl h
    less x b (inr h) = inr (omega arith)

    apart : (x b d : ℕ) → b < 37 → d < 37 → (b ≢ a) ⊎ (x ≢ n) → part_at second x d b ≡ part_at first x d b
    apart x b d l m away =
        rows.kept (part_place x b d) (λ j k e. place_apart x b d n a gap j l m la lg (omega arith) away e)

    own : (d : ℕ) → d < 37 → part_at second n d a ≡ part_at old n d a +ℤ pos (counts n d) *ℤ c
    own d m =
        let same : part_at first n d a ≡ part_at old n d a = before.kept n a d la m (inr (omega arith)) in
        elim (cases_eq (d + 2 * ((gap - d) / 2)) gap) [
          | inl is ↦
              rows.added ((gap - d) / 2) (part_place n a d) (omega arith) (omega arith)
              ∙ ap₂ (λ s k. s +ℤ pos k *ℤ c) same (sym (at d ((gap - d) / 2) is))
          | inr none ↦
              rows.kept (part_place n a d) (λ j l e. none (halved d j gap (omega arith))) ∙ same
              ∙ add_nothing (part_at old n d a) (pos (counts n d)) c (ap pos (off d (λ j e. none (halved d j gap e))))
        ]
      where
        halved : (d j gap : ℕ) → d + 2 * j ≡ gap → d + 2 * ((gap - d) / 2) ≡ gap
        halved d j gap e = let half : (gap - d) / 2 ≡ j = omega arith in omega arith

-- ---- all exponents
pub bar_none : (y : ℕ) (tops : List ℤ) (counts : ℕ → ℕ → ℕ) (old : List ℤ) → IsBarAdded 0 y tops counts old old
bar_none y tops counts old = record {
  as_long = refl;
  added = λ x a d l m k. absurd (omega arith);
  kept = λ x a d l m k h. refl;
}

pub bar_next : (n y : ℕ) (tops : List ℤ) (c : ℤ) (counts : ℕ → ℕ → ℕ) (old first second : List ℤ) →
    IsBarAdded n y tops counts old first
    → IsTermAdded n y c counts first second → c ≡ get_or tops n (pos 0) → n < 37 →
    IsBarAdded (n + 1) y tops counts old second
bar_next n y tops c counts old first second before term same few = record {
  as_long = term.as_long ∙ before.as_long;
  added = λ x a d l m k.
      elim (cases_eq a n) [
        | inl last ↦
            subst (λ b. part_at second x d b ≡ part_at old x d b +ℤ pos (counts x d) *ℤ get_or tops b (pos 0))
            (sym last)
            (term.added x d l k ∙ ap₂ (λ s t. s +ℤ pos (counts x d) *ℤ t) (before.kept x n d l (omega arith) few k)
            same)
        | inr other ↦ term.kept x a d (omega arith) k (inl other) ∙ before.added x a d l (omega arith) k
      ];
  kept = λ x a d l m k h. term.kept x a d k h (inl (λ e. absurd (omega arith))) ∙ before.kept x a d l (omega arith) k h;
}

-- ---- what is added to the part, as a Laurent polynomial
pub value_added : (y : ℕ) (tops : List ℤ) (counts : ℕ → ℕ → ℕ) (old new : List ℤ) → IsBarAdded 37 y tops counts old new
    → (x d : ℕ) (e : ℤ) → x < y → d < 37
    → part_value new x d e ≡ part_value old x d e +ℤ lower_value (λ a. get_or tops a (pos 0)) e *ℤ pos (counts x d)
value_added y tops counts old new added x d (pos zero) l m =
    added.added x 0 d l (omega arith) m
    ∙ ap (λ z. part_at old x d 0 +ℤ z) (*ℤ_comm (pos (counts x d)) (get_or tops 0 (pos 0)))
value_added y tops counts old new added x d (pos (suc e)) l m = none_added (pos (counts x d))
  where
    none_added : (k : ℤ) → pos 0 ≡ pos 0 +ℤ pos 0 *ℤ k
    none_added k = let none : pos 0 *ℤ k ≡ pos 0 = zero-mul k in omega (arith, ints, none)
value_added y tops counts old new added x d (negsuc a) l m =
    by (nat_le (suc a) 36) refl
  where
    none_added : (k : ℤ) → pos 0 ≡ pos 0 +ℤ pos 0 *ℤ k
    none_added k = let none : pos 0 *ℤ k ≡ pos 0 = zero-mul k in omega (arith, ints, none)

    by : (b : Bool) → nat_le (suc a) 36 ≡ b
        → (if b then part_at new x d (suc a) else pos 0)
        ≡ (if b then part_at old x d (suc a) else pos 0) +ℤ (if b then get_or tops (suc a) (pos 0) else pos 0) *ℤ pos
        (counts x d)
    by true near =
        let few : suc a < 37 = grind (arith, nat_tests) in
        added.added x (suc a) d l few m
        ∙ ap (λ z. part_at old x d (suc a) +ℤ z) (*ℤ_comm (pos (counts x d)) (get_or tops (suc a) (pos 0)))
    by false far = none_added (pos (counts x d))
