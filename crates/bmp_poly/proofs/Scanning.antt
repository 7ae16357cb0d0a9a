-- Steps over the exponents of a monomial, and small counts by computation.
use Rattle.std.proofs.Common.{◌≡◌, ℕ, zero, suc, ◌+◌, ◌-◌, ◌*◌, ◌/◌, ◌%◌, ◌<◌, ◌≤◌, true, leb, eqb, leb-true, eqb-true, List, [], ◌∷◌, ◌++◌, length, get_or, take, drop, set, refl, sym, ap, ap₂, ◌∙◌, arith, append_assoc}
use Rattle.std.proofs.lemmas.Bool.{cond-true, cond-false, lt-leb, le-leb, agree_below_at}
use Rattle.std.proofs.lemmas.List.{take_more_set, drop-set-lt, drop-drop, take-append-drop}
use Rattle.std.proofs.Common.{length-set}
use Rattle.std.proofs.Math.Seq.{drop-cons}
use Rattle.std.specs.List.{sum}
use Rattle.bmp_math.specs.Sums.{sum_below}
use Rattle.bmp_poly.specs.Exponents.{IsMonomial, count, place, level, zeros, exponents}
use Rattle.bmp_poly.proofs.PlaceLemmas.{sum-cons, tail_monomial, IsLevel, level_is, length-zeros}

abbrev table : List ℕ
table = 0 ∷ 1 ∷ 1 ∷ 1 ∷ 1 ∷ 1 ∷ 1 ∷ 1 ∷ 0 ∷ 1 ∷ 2 ∷ 3 ∷ 4 ∷ 5 ∷ 6 ∷ 7 ∷ 0 ∷ 1 ∷ 3 ∷ 6 ∷ 10 ∷ 15 ∷ 21 ∷ 28 ∷ 0 ∷ 1 ∷ 4 ∷
    10 ∷ 20 ∷ 35 ∷ 56 ∷ 84 ∷ 0 ∷ 1 ∷ 5 ∷ 15 ∷ 35 ∷ 70 ∷ 126 ∷ 210 ∷ 0 ∷ 1 ∷ 6 ∷ 21 ∷ 56 ∷ 126 ∷ 252 ∷ 462 ∷ []

pub table_is : (n s : ℕ) → n < 6 → s < 8 → get_or table (n * 8 + s) 0 ≡ sum_below (count n) s
unfolding sum_below count
table_is n s below small =
    let row : (n * 8 + s) / 8 ≡ n = omega arith in
    let col : (n * 8 + s) % 8 ≡ s = omega arith in
    eqb-true (get_or table (n * 8 + s) 0) (sum_below (count n) s)
    (ap₂ (λ a b. eqb (get_or table (n * 8 + s) 0) (sum_below (count a) b)) (sym row) (sym col)
    ∙ agree_below_at (λ i. eqb (get_or table i 0) (sum_below (count (i / 8)) (i % 8))) (λ i. true) 48 (n * 8 + s) refl
    (omega arith))

pub count_small : (r d : ℕ) → r ≤ 6 → d ≤ 6 → count r d ≤ 462
unfolding sum_below count
count_small r d le small =
    let row : (r * 7 + d) / 7 ≡ r = omega arith in
    let col : (r * 7 + d) % 7 ≡ d = omega arith in
    leb-true (count r d) 462
    (ap₂ (λ a b. leb (count a b) 462) (sym row) (sym col)
    ∙ agree_below_at (λ i. leb (count (i / 7) (i % 7)) 462) (λ i. true) 49 (r * 7 + d) refl (omega arith))

pub count_is_before : (r d : ℕ) → 0 < r → sum_below (count (r - 1)) (d + 1) ≡ count r d
unfolding count
count_is_before zero d some = absurd (omega arith)
count_is_before (suc r) d some = let a : suc r - 1 ≡ r = omega arith in let b : d + 1 ≡ suc d = omega arith in
    rw (a, b) refl

-- one exponent of a monomial is passed
pub record Passed (w r rest acc total x : ℕ) (m : List ℕ) : Type 0 where
  pub le : x ≤ rest
  pub monomial : IsMonomial w r (rest - x) m
  pub total_is : total ≡ (acc + sum_below (count r) (rest - x)) + place r m

passed_cons : (w r rest acc total x : ℕ) (m : List ℕ) → IsMonomial (suc w) (suc r) rest (x ∷ m) →
    total ≡ acc + place (suc r) (x ∷ m) → Passed w r rest acc total x m
unfolding place
passed_cons w r rest acc total x m h e =
    let size : x + sum m ≡ rest = sym (sum-cons x m) ∙ h.size in
    let less : rest - x ≡ sum m = omega arith in
    record { le = omega arith; monomial = rw less (tail_monomial w r rest x m h); total_is = rw less (omega arith) }

pub passed : (w r k rest acc total : ℕ) (m : List ℕ) → k < r → k < w → length m ≡ w →
    IsMonomial (w - k) (r - k) rest (drop k m) → total ≡ acc + place (r - k) (drop k m) →
    Passed (w - (k + 1)) (r - (k + 1)) rest acc total (get_or m k 0) (drop (k + 1) m)
passed w r k rest acc total m below wide long h e =
    let a : w - k ≡ suc (w - (k + 1)) = omega arith in
    let b : r - k ≡ suc (r - (k + 1)) = omega arith in
    let next : k + 1 ≡ suc k = omega arith in
    let split : drop k m ≡ get_or m k 0 ∷ drop (k + 1) m =
    drop-cons m k 0 (omega arith) ∙ ap (λ j. get_or m k 0 ∷ drop j m) (sym next) in
    passed_cons (w - (k + 1)) (r - (k + 1)) rest acc total (get_or m k 0) (drop (k + 1) m) (rw (a, b, split) at h)
    (rw (b, split) at e)

-- levels, as a loop going down finds them
pub level_down : (f : ℕ → ℕ) (i j : ℕ) → 0 < j → i < sum_below f j → level f i j ≡ level f i (j - 1)
unfolding level
level_down f i zero some h = absurd (omega arith)
level_down f i (suc j) some h = let e : suc j - 1 ≡ j = omega arith in
    rw e (cond-false {A = ℕ} (leb (sum_below f (suc j)) i) (suc j) (level f i j) (lt-leb (sum_below f (suc j)) i h))

pub level_here : (f : ℕ → ℕ) (i j : ℕ) → sum_below f j ≤ i → level f i j ≡ j
unfolding level
level_here f i zero h = refl
level_here f i (suc j) h =
    cond-true {A = ℕ} (leb (sum_below f (suc j)) i) (suc j) (level f i j) (le-leb (sum_below f (suc j)) i h)

pub level_zero : (f : ℕ → ℕ) (i : ℕ) → level f i 0 ≡ 0
unfolding level
level_zero f i = refl

-- the exponents of a place, one after another
pub record Unfolded (w r d i : ℕ) (m : List ℕ) (k : ℕ) (rest later : ℕ) : Type 0 where
  pub so_far : exponents w r d i ≡ take k m ++ exponents (w - k) (r - k) rest later
  pub below : later < count (r - k) rest
  pub small : rest ≤ d
  pub long : length m ≡ w
  pub empty : drop k m ≡ zeros (w - k)

exponents-suc : (w r d i : ℕ) → exponents (suc w) (suc r) d i ≡ (d - level (count r) i d) ∷ exponents w r
    (level (count r) i d) (i - sum_below (count r) (level (count r) i d))
unfolding exponents
exponents-suc w r d i = refl

exponents-zero : (w d i : ℕ) → exponents w 0 d i ≡ zeros w
unfolding exponents
exponents-zero w d i = refl

drop_zeros : (w : ℕ) (m : List ℕ) → m ≡ zeros (suc w) → drop 1 m ≡ zeros w
unfolding zeros
drop_zeros w m e = ap (drop 1) e

level_of : (r d i : ℕ) → i < count (suc r) d → IsLevel (count r) d i (level (count r) i d)
unfolding count
level_of r d i h = level_is (count r) d i h

pub place_end : (r k acc total : ℕ) (m : List ℕ) → r - k ≡ 0 → total ≡ acc + place (r - k) m → acc ≡ total
unfolding place
place_end r k acc total m none e = let last : total ≡ acc + place 0 m = rw none at e in omega arith

-- one more of the exponents of a place
unfolded_cons : (w r rest later : ℕ) → later < count (suc r) rest → (j : ℕ) → j ≡ level (count r) later rest →
    (exponents (suc w) (suc r) rest later ≡ (rest - j) ∷ exponents w r j (later - sum_below (count r) j)) ×
    (IsLevel (count r) rest later j)
unfolded_cons w r rest later h j e = rw e (exponents-suc w r rest later, level_of r rest later h)

pub record Unfolding (w r d i : ℕ) (m : List ℕ) (k rest later j : ℕ) : Type 0 where
  pub le : j ≤ rest
  pub from : sum_below (count (r - (k + 1))) j ≤ later
  pub next : Unfolded w r d i (set m k (rest - j)) (k + 1) j (later - sum_below (count (r - (k + 1))) j)

pub unfolded : (w r d i k rest later j : ℕ) (m : List ℕ) → k < r → k < w → Unfolded w r d i m k rest later →
    j ≡ level (count (r - (k + 1))) later rest → Unfolding w r d i m k rest later j
unfolded w r d i k rest later j m below wide u e =
    let a : w - k ≡ suc (w - (k + 1)) = omega arith in
    let b : r - k ≡ suc (r - (k + 1)) = omega arith in
    let long : length m ≡ w = u.long in
    let small : rest ≤ d = u.small in
    let one = unfolded_cons (w - (k + 1)) (r - (k + 1)) rest later (rw b at u.below) j e in
    let at : IsLevel (count (r - (k + 1))) rest later j = one.1 in
    let so_far : exponents w r d i ≡ take k m ++ exponents (suc (w - (k + 1))) (suc (r - (k + 1))) rest later =
    rw (a, b) at u.so_far in
    let emptied : drop k m ≡ zeros (suc (w - (k + 1))) = rw a at u.empty in
    record {
      le = at.most;
      from = at.from;
      next = record {
        so_far = so_far ∙ ap (λ z. take k m ++ z) one.0
            ∙ sym (append_assoc (take k m) ((rest - j) ∷ [])
            (exponents (w - (k + 1)) (r - (k + 1)) j (later - sum_below (count (r - (k + 1))) j)))
            ∙ ap (λ z. z ++ exponents (w - (k + 1)) (r - (k + 1)) j (later - sum_below (count (r - (k + 1))) j))
            (sym (take_more_set m k (rest - j) (omega arith)));
        below = omega (arith, at.to, at.from);
        small = omega (arith, at.most);
        long = length-set m k (rest - j) ∙ u.long;
        empty = drop-set-lt (k + 1) m k (rest - j) (omega arith) ∙ sym (drop-drop 1 k m)
            ∙ drop_zeros (w - (k + 1)) (drop k m) emptied;
      };
    }

pub unfolded_end : (w r d i rest later : ℕ) (m : List ℕ) (k : ℕ) → r ≤ k → Unfolded w r d i m k rest later →
    m ≡ exponents w r d i
unfolded_end w r d i rest later m k past u =
    let none : r - k ≡ 0 = omega arith in
    sym (take-append-drop k m)
    ∙ ap (λ z. take k m ++ z) (u.empty ∙ sym (exponents-zero (w - k) rest later)
    ∙ ap (λ z. exponents (w - k) z rest later) (sym none)) ∙ sym u.so_far

pub unfolded_start : (w r d i : ℕ) (m : List ℕ) → m ≡ zeros w → i < count r d → Unfolded w r d i m 0 d i
unfolded_start w r d i m e h =
    let a : w - 0 ≡ w = omega arith in
    let b : r - 0 ≡ r = omega arith in
    record {
      so_far = rw (a, b) refl;
      below = rw b h;
      small = omega arith;
      long = ap length e ∙ length-zeros w;
      empty = rw a e;
    }
