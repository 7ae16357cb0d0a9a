-- Steps on rows.
use Rattle.std.proofs.Common.{◌≡◌, ◌≢◌, ℕ, zero, suc, ◌+◌, ◌*◌, ◌<◌, ◌≤◌, arith, refl, sym, ap, ap₂, ◌∙◌, subst, inl, inr, ◌⊎◌, List, [], ◌∷◌, length, get_or, Option, Some, None, Bool, true, false}
use Rattle.std.proofs.Math.ListN.{set, length-set}
use Rattle.std.proofs.lemmas.Bool.{cases_eq, false≢true}
use Rattle.std.proofs.lemmas.Bool.Decides.{nat_tests}
use Rattle.std.proofs.lemmas.Grind.{get_or-set_at}
use Rattle.std.proofs.lemmas.List.{get_or-set_other}
use Rattle.std.specs.Prelude.{nat_lt, if◌then◌else◌, ◌==◌}
use Rattle.bmp_hecke.specs.DifferenceBars.{previous, one_at_zero}
use Rattle.bmp_kl.specs.BarRows.{behind, row_value, HasLiveRows, stepped_row, IsPairStepped, IsRowsStepped, IsMatch, IsMatched, HasPartnerBelow, IsSteppedTo}

-- the default of a read does not matter inside the list
pub read : {X : Type 0} (xs : List X) (i : ℕ) (v d : X) → v ≡ get_or xs i v → i < length xs → v ≡ get_or xs i d
read xs i v d is inside = is ∙ same xs i v d inside
  where
    same : {X : Type 0} (xs : List X) (i : ℕ) (c d : X) → i < length xs → get_or xs i c ≡ get_or xs i d
    same [] i c d l = absurd (omega arith)
    same (x ∷ xs) zero c d l = refl
    same (x ∷ xs) (suc i) c d l = same xs i c d (omega arith)

pub pair_none : (low high : ℕ) (old : List ℕ) → IsPairStepped low high 0 old old
pair_none low high old = record {
  as_long = refl;
  lower = λ j l. absurd (omega arith);
  upper = λ j l. absurd (omega arith);
  kept = λ i a b. refl;
}

-- a place written at two places
set_two : (xs : List ℕ) (a b i v w : ℕ) → i ≢ a → i ≢ b → get_or (set (set xs a v) b w) i 0 ≡ get_or xs i 0
set_two xs a b i v w off away = get_or-set_other (set xs a v) b i w 0 away ∙ get_or-set_other xs a i v 0 off

pub pair_next : (low high n : ℕ) (old first second : List ℕ) (v w : ℕ) → IsPairStepped low high n old first
    → second ≡ set (set first (low + n) v) (high + n) w → low + 19 ≤ high → n < 19 → high + 19 ≤ length old
    → v ≡ get_or first (low + n) 0 + previous (behind old high) n → w ≡ get_or first (low + n) 0
    → IsPairStepped low high (n + 1) old second
pair_next low high n old first second v w before is apart near inside value other =
    let here : get_or first (low + n) 0 ≡ get_or old (low + n) 0 =
    before.kept (low + n) (λ j l e. absurd (omega arith)) (λ j l e. absurd (omega arith)) in
    let long : length (set first (low + n) v) ≡ length old = length-set first (low + n) v ∙ before.as_long in
    record {
      as_long = ap length is ∙ length-set (set first (low + n) v) (high + n) w ∙ long;
      lower = λ j l.
          elim (cases_eq j n) [
            | inl last ↦
                ap (λ xs. get_or xs (low + j) 0) is
                ∙ get_or-set_other (set first (low + n) v) (high + n) (low + j) w 0 (λ e. absurd (omega arith))
                ∙ get_or-set_at first (low + n) (low + j) v 0 (omega arith) (omega (arith, before.as_long))
                ∙ value ∙ ap (λ s. s + previous (behind old high) n) here
                ∙ ap (λ i. get_or old (low + i) 0 + previous (behind old high) i) (sym last)
            | inr early ↦
                ap (λ xs. get_or xs (low + j) 0) is
                ∙ set_two first (low + n) (high + n) (low + j) v w (λ e. early (omega arith))
                (λ e. absurd (omega arith))
                ∙ before.lower j (omega arith)
          ];
      upper = λ j l.
          elim (cases_eq j n) [
            | inl last ↦
                ap (λ xs. get_or xs (high + j) 0) is
                ∙ get_or-set_at (set first (low + n) v) (high + n) (high + j) w 0 (omega arith) (omega (arith, long))
                ∙ other ∙ here ∙ ap (λ i. get_or old (low + i) 0) (sym last)
            | inr early ↦
                ap (λ xs. get_or xs (high + j) 0) is
                ∙ set_two first (low + n) (high + n) (high + j) v w (λ e. absurd (omega arith))
                (λ e. early (omega arith))
                ∙ before.upper j (omega arith)
          ];
      kept = λ i off away.
          ap (λ xs. get_or xs i 0) is
          ∙ set_two first (low + n) (high + n) i v w (off n (omega arith)) (away n (omega arith))
          ∙ before.kept i (λ j l. off j (omega arith)) (λ j l. away j (omega arith));
    }

pub pair_carried : (low high n : ℕ) (old first : List ℕ) (v : ℕ) → IsPairStepped low high n old first
    → v ≡ get_or first (high + n) 0 → low + 19 ≤ high → n < 19 → v ≡ previous (behind old high) (n + 1)
pair_carried low high n old first v before is apart near =
    let next : n + 1 ≡ suc n = omega arith in
    is ∙ before.kept (high + n) (λ j l e. absurd (omega arith)) (λ j l e. absurd (omega arith))
    ∙ sym (ap (λ j. previous (behind old high) j) next)

-- the whole rows, where no number stands past the width
pub rows_stepped : (x z width : ℕ) (old new : List ℕ) → x < z → width ≤ 19 →
    IsPairStepped (x * 19) (z * 19) width old new
    → ((j : ℕ) → width ≤ j → j < 19 → row_value old x j ≡ 0) →
    ((j : ℕ) → width ≤ suc j → j < 19 → row_value old z j ≡ 0)
    → IsRowsStepped x z old new
rows_stepped x z width old new order few pair here there = record {
  as_long = pair.as_long;
  lower = λ j l.
      elim (below_or j width) [
        | inl near ↦ pair.lower j near
        | inr far ↦
            let none : row_value old x j ≡ 0 = here j far l in
            pair.kept (x * 19 + j) (λ i k e. absurd (omega arith)) (λ i k e. absurd (omega arith))
            ∙ none_more (row_value old x j) (previous (row_value old z) j) none (carried_none j far l)
      ];
  upper = λ j l.
      elim (below_or j width) [
        | inl near ↦ pair.upper j near
        | inr far ↦
            pair.kept (z * 19 + j) (λ i k e. absurd (omega arith)) (λ i k e. absurd (omega arith))
            ∙ there j (omega arith) l ∙ sym (here j far l)
      ];
  kept = λ v j l off away.
      pair.kept (v * 19 + j) (λ i k e. apart_rows v x j i l (omega arith) off e)
      (λ i k e. apart_rows v z j i l (omega arith) away e);
}
  where
    below_or : (a b : ℕ) → (a < b) ⊎ (b ≤ a)
    below_or a b = grind arith

    none_more : (a b : ℕ) → a ≡ 0 → b ≡ 0 → a ≡ a + b
    none_more a b e f = omega arith

    carried_none : (j : ℕ) → width ≤ j → j < 19 → previous (row_value old z) j ≡ 0
    carried_none zero far l = refl
    carried_none (suc j) far l = there j far (omega arith)

    apart_rows : (v x j i : ℕ) → j < 19 → i < 19 → v ≢ x → v * 19 + j ≡ x * 19 + i → ⊥
    apart_rows v x j i l k off e = off (omega arith)

-- rows without numbers are stepped as they are
pub rows_dead : (x z : ℕ) (old : List ℕ) → ((j : ℕ) → j < 19 → row_value old x j ≡ 0) →
    ((j : ℕ) → j < 19 → row_value old z j ≡ 0)
    → IsRowsStepped x z old old
rows_dead x z old here there = record {
  as_long = refl;
  lower = λ j l. none_more (row_value old x j) (previous (row_value old z) j) (here j l) (carried_none j l);
  upper = λ j l. there j l ∙ sym (here j l);
  kept = λ v j l off away. refl;
}
  where
    none_more : (a b : ℕ) → a ≡ 0 → b ≡ 0 → a ≡ a + b
    none_more a b e f = omega arith

    carried_none : (j : ℕ) → j < 19 → previous (row_value old z) j ≡ 0
    carried_none zero l = refl
    carried_none (suc j) l = there j (omega arith)

-- the two rows are live after it
pub lively : (n x z : ℕ) (old new : List ℕ) (live next : List Bool) → HasLiveRows n old live → x < n → z < n →
    IsRowsStepped x z old new
    → next ≡ set (set live x true) z true → HasLiveRows n new next
lively n x z old new live next rows inside within stepped is = record {
  places = stepped.as_long ∙ rows.places;
  as_many = ap length is ∙ length-set (set live x true) z true ∙ length-set live x true ∙ rows.as_many;
  dead = λ v j l k off.
      elim (cases_eq v z) [
        | inl at ↦
            absurd (false≢true (sym off ∙ ap (λ ls. get_or ls v false) is
            ∙ get_or-set_at (set live x true) z v true false at (omega (arith, length-set live x true, rows.as_many))))
        | inr away ↦
            elim (cases_eq v x) [
              | inl here ↦
                  absurd (false≢true (sym off ∙ ap (λ ls. get_or ls v false) is
                  ∙ get_or-set_other (set live x true) z v true false away
                  ∙ get_or-set_at live x v true false here (omega (arith, rows.as_many))))
              | inr other ↦
                  stepped.kept v j k other away
                  ∙ rows.dead v j l k
                  (sym (get_or-set_other live x v true false other)
                  ∙ sym (get_or-set_other (set live x true) z v true false away)
                  ∙ sym (ap (λ ls. get_or ls v false) is) ∙ off)
            ]
      ];
}

-- ---- all pairs, one after another
pub stepped_none : (partners : ℕ → Option ℕ) (n : ℕ) (old : List ℕ) → IsSteppedTo partners n 0 old old
stepped_none partners n old = record {
  as_long = refl;
  done = λ v j l k below. absurd (none v below);
  kept = λ v j l k low off. refl;
}
  where
    none : (v : ℕ) → (v < 0) ⊎ HasPartnerBelow partners v 0 → ⊥
    none v (inl l) = omega arith
    none v (inr (z, e, l)) = omega arith

some_same : (a b : ℕ) → (Some a) ≡ (Some b) → a ≡ b
some_same a b e = cc

-- the rows of a pair that is still to come are the old ones
pub fresh : (partners : ℕ → Option ℕ) (lengths : List ℕ) (n x : ℕ) (old first : List ℕ) → IsMatched partners lengths n →
    x < n
    → IsSteppedTo partners n x old first → (z : ℕ) → partners x ≡ Some z → x < z → (j : ℕ) → j < 19
    → (row_value first x j ≡ row_value old x j) × (row_value first z j ≡ row_value old z j)
fresh partners lengths n x old first matched inside before z e order j k =
    let match : IsMatch partners lengths n x z = matched x z inside e in (
      before.kept x j inside k (omega arith)
          (λ (u, f, below). absurd (let same : u ≡ z = some_same u z (sym f ∙ e) in omega arith)),
      before.kept z j match.inside k (omega arith)
          (λ (u, f, below). absurd (let same : u ≡ x = some_same u x (sym f ∙ match.back) in omega arith)),
    )

module _ (partners : ℕ → Option ℕ) (lengths : List ℕ) (n x : ℕ) (old first second : List ℕ)
    (matched : IsMatched partners lengths n)
    (inside : x < n) (before : IsSteppedTo partners n x old first) where
  -- x has no longer product: all stays
  stays : ((v : ℕ) → v < n → partners v ≡ Some x → v < x) → (partners x ≡ None) ⊎
      ((z : ℕ) × (partners x ≡ Some z) × (z < x))
      → second ≡ first → IsSteppedTo partners n (x + 1) old second
  stays lower own is = record {
    as_long = ap length is ∙ before.as_long;
    done = λ v j l k below. ap (λ vs. row_value vs v j) is ∙ done v j l k below;
    kept = λ v j l k low off. ap (λ vs. row_value vs v j) is
        ∙ before.kept v j l k (omega arith) (λ (z, e, below). off (z, e, omega arith));
  }
    where
      own_done : (j : ℕ) → j < 19 → (partners x ≡ None) ⊎ ((z : ℕ) × (partners x ≡ Some z) × (z < x))
          → row_value first x j ≡ stepped_row (partners x) (row_value old) x j
      own_done j k (inl none) =
          before.kept x j inside k (omega arith) (λ (z, e, below). absurd (none_some z (sym none ∙ e)))
          ∙ ap (λ p. stepped_row p (row_value old) x j) (sym none)
        where
          none_some : (z : ℕ) → None ≡ Some z → ⊥
          none_some z e = cc
      own_done j k (inr (z, e, below)) = before.done x j inside k (inr (z, e, below))

      done : (v j : ℕ) → v < n → j < 19 → (v < x + 1) ⊎ HasPartnerBelow partners v (x + 1)
          → row_value first v j ≡ stepped_row (partners v) (row_value old) v j
      done v j l k (inl below) =
          elim (cases_eq v x) [
            | inl at ↦ subst (λ u. row_value first u j ≡ stepped_row (partners u) (row_value old) u j) (sym at)
                (own_done j k own)
            | inr other ↦ before.done v j l k (inl (omega arith))
          ]
      done v j l k (inr (z, e, below)) =
          elim (cases_eq z x) [
            | inl at ↦ before.done v j l k (inl (lower v l (e ∙ ap Some at)))
            | inr other ↦ before.done v j l k (inr (z, e, omega arith))
          ]

  -- x and its longer product are stepped
  turns : (z : ℕ) → partners x ≡ Some z → x < z → IsRowsStepped x z first second →
      IsSteppedTo partners n (x + 1) old second
  turns z e order rows = record {
    as_long = rows.as_long ∙ before.as_long;
    done = λ v j l k below. done v j l k below;
    kept = λ v j l k low off.
        rows.kept v j k (λ at. absurd (omega arith)) (λ at. off (x, ap partners at ∙ back, omega arith))
        ∙ before.kept v j l k (omega arith) (λ (u, f, below). off (u, f, omega arith));
  }
    where
      back : partners z ≡ Some x
      back = (matched x z inside e).back

      here : (j : ℕ) → j < 19 → row_value first x j ≡ row_value old x j
      here j k = (fresh partners lengths n x old first matched inside before z e order j k).0

      there : (j : ℕ) → j < 19 → row_value first z j ≡ row_value old z j
      there j k = (fresh partners lengths n x old first matched inside before z e order j k).1

      carried : (j : ℕ) → j < 19 → previous (row_value first z) j ≡ previous (row_value old z) j
      carried zero k = refl
      carried (suc j) k = there j (omega arith)

      own : (j : ℕ) → j < 19 → row_value second x j ≡ stepped_row (partners x) (row_value old) x j
      own j k =
          let less : nat_lt x z ≡ true = grind (arith, nat_tests) in
          rows.lower j k ∙ ap₂ (λ a b. a + b) (here j k) (carried j k)
          ∙ sym (ap (λ b. if b then row_value old x j + previous (row_value old z) j else row_value old z j) less)
          ∙ ap (λ p. stepped_row p (row_value old) x j) (sym e)

      other_own : (j : ℕ) → j < 19 → row_value second z j ≡ stepped_row (partners z) (row_value old) z j
      other_own j k =
          let not_less : nat_lt z x ≡ false = grind (arith, nat_tests) in
          rows.upper j k ∙ here j k
          ∙ sym (ap (λ b. if b then row_value old z j + previous (row_value old x) j else row_value old x j) not_less)
          ∙ ap (λ p. stepped_row p (row_value old) z j) (sym back)

      outside : (v j : ℕ) → j < 19 → v ≢ x → v ≢ z → row_value first v j ≡ stepped_row (partners v) (row_value old) v j
          → row_value second v j ≡ stepped_row (partners v) (row_value old) v j
      outside v j k off away is = rows.kept v j k off away ∙ is

      done : (v j : ℕ) → v < n → j < 19 → (v < x + 1) ⊎ HasPartnerBelow partners v (x + 1)
          → row_value second v j ≡ stepped_row (partners v) (row_value old) v j
      done v j l k (inl below) =
          elim (cases_eq v x) [
            | inl at ↦ subst (λ u. row_value second u j ≡ stepped_row (partners u) (row_value old) u j) (sym at)
                (own j k)
            | inr other ↦
                outside v j k other (λ at. absurd (omega arith)) (before.done v j l k (inl (omega arith)))
          ]
      done v j l k (inr (u, f, below)) =
          elim (cases_eq u x) [
            | inl at ↦
                let same : v ≡ z = some_same v z (sym (matched v x l (f ∙ ap Some at)).back ∙ e) in
                subst (λ w. row_value second w j ≡ stepped_row (partners w) (row_value old) w j) (sym same)
                (other_own j k)
            | inr other ↦
                outside v j k (λ same. absurd (let two : u ≡ z = some_same u z (sym f ∙ ap partners same ∙ e) in
                omega arith))
                (λ same. other (some_same u x (sym f ∙ ap partners same ∙ back)))
                (before.done v j l k (inr (u, f, omega arith)))
          ]

  pub step_next : ((z : ℕ) → partners x ≡ Some z → x < z → IsRowsStepped x z first second)
      → (((z : ℕ) → partners x ≡ Some z → x < z → ⊥) → second ≡ first) → IsSteppedTo partners n (x + 1) old second
  step_next stepped kept = by (partners x) refl
    where
      none_some : (z : ℕ) → None ≡ Some z → ⊥
      none_some z e = cc

      by : (p : Option ℕ) → partners x ≡ p → IsSteppedTo partners n (x + 1) old second
      by None e =
          stays (λ v l f. absurd (none_some v (sym e ∙ (matched v x l f).back))) (inl e)
          (kept (λ z f order. none_some z (sym e ∙ f)))
      by (Some z) e =
          elim (below_or x z) [
            | inl order ↦ turns z e order (stepped z e order)
            | inr late ↦
                let other : x ≢ z = (matched x z inside e).apart in
                stays (λ v l f. let same : v ≡ z = some_same v z (sym (matched v x l f).back ∙ e) in
                omega (arith, same, other, late))
                (inr (z, e, omega (arith, other, late)))
                (kept (λ u f order. absurd (let same : u ≡ z = some_same u z (sym f ∙ e) in omega arith)))
          ]
        where
          below_or : (a b : ℕ) → (a < b) ⊎ (b ≤ a)
          below_or a b = grind arith

-- the rows from the bound on have no numbers, so all are stepped
pub all_stepped : (partners : ℕ → Option ℕ) (n x : ℕ) (old new : List ℕ) → IsSteppedTo partners n x old new
    → ((v j : ℕ) → v < n → j < 19 → x ≤ v → row_value old v j ≡ 0) → ((v z : ℕ) → v < n → partners v ≡ Some z → z < n)
    → (v j : ℕ) → v < n → j < 19 → row_value new v j ≡ stepped_row (partners v) (row_value old) v j
all_stepped partners n x old new to none inside v j l k =
    elim (below_or v x) [ inl below ↦ to.done v j l k (inl below) | inr far ↦ by (partners v) refl far ]
  where
    below_or : (a b : ℕ) → (a < b) ⊎ (b ≤ a)
    below_or a b = grind arith

    none_some : (z : ℕ) → None ≡ Some z → ⊥
    none_some z e = cc

    carried_none : (z j : ℕ) → z < n → x ≤ z → j < 19 → previous (row_value old z) j ≡ 0
    carried_none z zero within far k = refl
    carried_none z (suc j) within far k = none z j within (omega arith) far

    both : (b : Bool) (s t u : ℕ) → s ≡ 0 → t ≡ 0 → u ≡ 0 → s ≡ (if b then s + t else u)
    both true s t u a b c = omega arith
    both false s t u a b c = omega arith

    by : (p : Option ℕ) → partners v ≡ p → x ≤ v → row_value new v j ≡ stepped_row (partners v) (row_value old) v j
    by None e far =
        to.kept v j l k far (λ (z, f, below). none_some z (sym e ∙ f))
        ∙ ap (λ p. stepped_row p (row_value old) v j) (sym e)
    by (Some z) e far =
        elim (below_or z x) [
          | inl below ↦ to.done v j l k (inr (z, e, below))
          | inr out ↦
              to.kept v j l k far
              (λ (u, f, below). absurd (let same : u ≡ z = some_same u z (sym f ∙ e) in omega arith))
              ∙ both (nat_lt v z) (row_value old v j) (previous (row_value old z) j) (row_value old z j)
              (none v j l k far)
              (carried_none z j (inside v z l e) out k) (none z j (inside v z l e) k out)
              ∙ ap (λ p. stepped_row p (row_value old) v j) (sym e)
        ]

-- ---- zeros
pub cleared_next : (start n : ℕ) (old first second : List ℕ) → second ≡ set first (start + n) 0 → start + n < length old
    → (length first ≡ length old) × ((j : ℕ) → j < n → behind first start j ≡ 0)
    × ((i : ℕ) → (i < start) ⊎ (start + n ≤ i) → get_or first i 0 ≡ get_or old i 0)
    → (length second ≡ length old) × ((j : ℕ) → j < n + 1 → behind second start j ≡ 0)
    × ((i : ℕ) → (i < start) ⊎ (start + (n + 1) ≤ i) → get_or second i 0 ≡ get_or old i 0)
cleared_next start n old first second is inside before = (
  ap length is ∙ length-set first (start + n) 0 ∙ before.0,
  (λ j l.
      elim (cases_eq j n) [
        | inl last ↦
            ap (λ xs. get_or xs (start + j) 0) is
            ∙ get_or-set_at first (start + n) (start + j) 0 0 (omega arith) (omega (arith, before.0))
        | inr other ↦
            ap (λ xs. get_or xs (start + j) 0) is
            ∙ get_or-set_other first (start + n) (start + j) 0 0 (λ e. other (omega arith)) ∙ before.1 j (omega arith)
      ]),
  (λ i off.
      ap (λ xs. get_or xs i 0) is ∙ get_or-set_other first (start + n) i 0 0 (apart i off) ∙ before.2 i (less i off)),
)
  where
    apart : (i : ℕ) → (i < start) ⊎ (start + (n + 1) ≤ i) → i ≡ start + n → ⊥
    apart i (inl low) e = omega arith
    apart i (inr high) e = omega arith

    less : (i : ℕ) → (i < start) ⊎ (start + (n + 1) ≤ i) → (i < start) ⊎ (start + n ≤ i)
    less i (inl low) = inl low
    less i (inr high) = inr (omega arith)

pub row_kept : (x v j : ℕ) (old new : List ℕ) →
    ((i : ℕ) → (i < x * 19) ⊎ (x * 19 + 19 ≤ i) → get_or new i 0 ≡ get_or old i 0)
    → j < 19 → v ≢ x → row_value new v j ≡ row_value old v j
row_kept x v j old new kept l off = kept (v * 19 + j) (away v x j l off)
  where
    away : (v x j : ℕ) → j < 19 → v ≢ x → (v * 19 + j < x * 19) ⊎ (x * 19 + 19 ≤ v * 19 + j)
    away v x j l off =
        elim (below_or v x) [ inl below ↦ inl (omega arith) | inr above ↦ inr (omega (arith, off, above)) ]
      where
        below_or : (a b : ℕ) → (a < b) ⊎ (b ≤ a)
        below_or a b = grind arith

-- a row of zeros is dead
pub deadened : (n x : ℕ) (old new : List ℕ) (live next : List Bool) → HasLiveRows n old live → x < n →
    length new ≡ length old
    → ((j : ℕ) → j < 19 → row_value new x j ≡ 0) → ((v j : ℕ) → j < 19 → v ≢ x → row_value new v j ≡ row_value old v j)
    → next ≡ set live x false → HasLiveRows n new next
deadened n x old new live next rows inside long zeros kept is = record {
  places = long ∙ rows.places;
  as_many = ap length is ∙ length-set live x false ∙ rows.as_many;
  dead = λ v j l k off.
      elim (cases_eq v x) [
        | inl at ↦ subst (λ u. row_value new u j ≡ 0) (sym at) (zeros j k)
        | inr other ↦
            kept v j k other
            ∙ rows.dead v j l k (sym (get_or-set_other live x v false false other)
            ∙ sym (ap (λ ls. get_or ls v false) is) ∙ off)
      ];
}

-- one at the identity, and zeros elsewhere
pub started : (n : ℕ) (first second : List ℕ) (live next : List Bool) → HasLiveRows n first live → 0 < n
    → ((v j : ℕ) → v < n → j < 19 → row_value first v j ≡ 0) → second ≡ set first 0 1 → next ≡ set live 0 true
    → HasLiveRows n second next ×
    ((v j : ℕ) → v < n → j < 19 → row_value second v j ≡ (if v == 0 then one_at_zero j else 0))
started n first second live next rows some zeros is lively = (
  record {
    places = ap length is ∙ length-set first 0 1 ∙ rows.places;
    as_many = ap length lively ∙ length-set live 0 true ∙ rows.as_many;
    dead = λ v j l k off.
        elim (cases_eq v 0) [
          | inl at ↦
              absurd (false≢true (sym off ∙ ap (λ ls. get_or ls v false) lively
              ∙ get_or-set_at live 0 v true false at (omega (arith, rows.as_many))))
          | inr other ↦ away v j other ∙ zeros v j l k
        ];
  },
  (λ v j l k.
      elim (cases_eq v 0) [
        | inl at ↦ subst (λ u. row_value second u j ≡ (if u == 0 then one_at_zero j else 0)) (sym at) (here j k)
        | inr other ↦ let off : (v == 0) ≡ false = grind (arith, nat_tests) in rw off (away v j other ∙ zeros v j l k)
      ]),
)
  where
    away : (v j : ℕ) → v ≢ 0 → row_value second v j ≡ row_value first v j
    away v j other = ap (λ xs. get_or xs (v * 19 + j) 0) is
        ∙ get_or-set_other first 0 (v * 19 + j) 1 0 (λ e. other (omega arith))

    here : (j : ℕ) → j < 19 → row_value second 0 j ≡ one_at_zero j
    here zero k =
        ap (λ xs. get_or xs (0 * 19 + 0) 0) is
        ∙ get_or-set_at first 0 (0 * 19 + 0) 1 0 (omega arith) (omega (arith, rows.places))
    here (suc j) k =
        ap (λ xs. get_or xs (0 * 19 + suc j) 0) is
        ∙ get_or-set_other first 0 (0 * 19 + suc j) 1 0 (λ e. absurd (omega arith)) ∙ zeros 0 (suc j) some k

-- rows are zeros up to the next one
pub zeros_next : (x : ℕ) (old new : List ℕ) → ((v j : ℕ) → v < x → j < 19 → row_value old v j ≡ 0)
    → ((j : ℕ) → j < 19 → row_value new x j ≡ 0) → ((v j : ℕ) → j < 19 → v ≢ x → row_value new v j ≡ row_value old v j)
    → (v j : ℕ) → v < x + 1 → j < 19 → row_value new v j ≡ 0
zeros_next x old new before here kept v j l k =
    elim (cases_eq v x) [
      | inl at ↦ subst (λ u. row_value new u j ≡ 0) (sym at) (here j k)
      | inr other ↦ kept v j k other ∙ before v j (omega arith) k
    ]
