-- A monomial is divided by another, one exponent after another.
use Rattle.std.proofs.Common.{◌≡◌, ℕ, zero, suc, ◌-◌, ◌<◌, ◌≤◌, Bool, true, false, leb, ◌&&◌, List, [], ◌∷◌, length, get_or, refl, sym, ap, ◌∙◌, arith}
use Rattle.std.proofs.lemmas.Bool.{and_from, le-leb, lt-leb}
use Rattle.std.proofs.lemmas.Grind.{same_number_lists}
use Rattle.bmp_poly.specs.Shifts.{contains, less}

-- a quotient has as many exponents
length-less : (e m : List ℕ) → length (less e m) ≡ length e
unfolding less
length-less [] [] = refl
length-less [] (y ∷ m) = refl
length-less (x ∷ e) [] = refl
length-less (x ∷ e) (y ∷ m) = ap suc (length-less e m)

contains_each : (e m : List ℕ) → length e ≡ length m → ((k : ℕ) → k < length m → get_or m k 0 ≤ get_or e k 0) →
    contains e m ≡ true
unfolding contains
contains_each [] [] l h = refl
contains_each [] (y ∷ m) l h = absurd (let a : 0 ≡ suc (length m) = l in omega arith)
contains_each (x ∷ e) [] l h = absurd (let a : suc (length e) ≡ 0 = l in omega arith)
contains_each (x ∷ e) (y ∷ m) l h =
    let sizes : suc (length e) ≡ suc (length m) = l in
    let first : 0 < suc (length m) = omega arith in
    and_from (leb y x) (contains e m) (le-leb y x (h 0 first))
    (contains_each e m (omega arith) (λ k b. let deeper : suc k < suc (length m) = omega arith in h (suc k) deeper))

and_left_false : (s t : Bool) → s ≡ false → (s && t) ≡ false
and_left_false s t h = rw h refl

and_right_false : (s t : Bool) → t ≡ false → (s && t) ≡ false
and_right_false s t h = rw h (elim s as (λ s. (s && false) ≡ false) [ true ↦ refl | false ↦ refl ])

contains_fails : (e m : List ℕ) (k : ℕ) → length e ≡ length m → k < length m → get_or e k 0 < get_or m k 0 →
    contains e m ≡ false
unfolding contains
contains_fails e [] k l inside h = absurd (let none : k < 0 = inside in omega arith)
contains_fails [] (y ∷ m) k l inside h = absurd (let a : 0 ≡ suc (length m) = l in omega arith)
contains_fails (x ∷ e) (y ∷ m) zero l inside h = and_left_false (leb y x) (contains e m) (lt-leb y x h)
contains_fails (x ∷ e) (y ∷ m) (suc k) l inside h =
    let sizes : suc (length e) ≡ suc (length m) = l in
    let below : suc k < suc (length m) = inside in
    and_right_false (leb y x) (contains e m) (contains_fails e m k (omega arith) (omega arith) h)

less_read : (e m : List ℕ) (k : ℕ) → length e ≡ length m → get_or (less e m) k 0 ≡ get_or e k 0 - get_or m k 0
unfolding less
less_read [] [] k l = omega arith
less_read [] (y ∷ m) k l = absurd (let a : 0 ≡ suc (length m) = l in omega arith)
less_read (x ∷ e) [] k l = absurd (let a : suc (length e) ≡ 0 = l in omega arith)
less_read (x ∷ e) (y ∷ m) zero l = refl
less_read (x ∷ e) (y ∷ m) (suc k) l = let sizes : suc (length e) ≡ suc (length m) = l in less_read e m k (omega arith)

-- the first k exponents of m are taken away
pub record DividedBelow (e m rest : List ℕ) (k : ℕ) : Type 0 where
  pub sized : length rest ≡ 6
  pub held : (j : ℕ) → j < k → get_or m j 0 ≤ get_or e j 0
  pub done : (j : ℕ) → j < k → get_or rest j 0 ≡ get_or e j 0 - get_or m j 0
  pub left : (j : ℕ) → k ≤ j → get_or rest j 0 ≡ get_or e j 0

pub divided_fails : (e m rest : List ℕ) (k : ℕ) → length e ≡ 6 → length m ≡ 6 → k < 6 → get_or rest k 0 < get_or m k 0 →
    DividedBelow e m rest k → contains e m ≡ false
divided_fails e m rest k long_e long_m inside short h =
    contains_fails e m k (long_e ∙ sym long_m) (omega arith) (let here = h.left k (omega arith) in omega arith)

pub divided_end : (e m rest : List ℕ) → length e ≡ 6 → length m ≡ 6 → DividedBelow e m rest 6 → (contains e m ≡ true) ×
    (rest ≡ less e m)
divided_end e m rest long_e long_m h =
    let same : length e ≡ length m = long_e ∙ sym long_m in
    let sized : length rest ≡ 6 = h.sized in (
      contains_each e m same (λ k b. h.held k (omega arith)),
      same_number_lists rest (less e m) (sized ∙ sym long_e ∙ sym (length-less e m))
          (λ k b. h.done k (omega arith) ∙ sym (less_read e m k same)),
    )
