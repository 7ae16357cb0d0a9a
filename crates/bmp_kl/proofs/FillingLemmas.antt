-- One more vertex of the table: its sum, the limit, and what is left in the parts of the lower ones.
use Rattle.std.proofs.Common.{◌≡◌, ◌≢◌, ℕ, zero, suc, ◌+◌, ◌-◌, ◌*◌, ◌^◌, ◌<◌, ◌≤◌, arith, refl, sym, ap, ap₂, ◌∙◌, subst, inl, inr, ◌⊎◌, Bool, true, false, List, length, get_or, ℤ, pos, negsuc, neg_ℤ, ◌+ℤ◌, ◌-ℤ◌, ◌*ℤ◌}
use Rattle.std.specs.Prelude.{if◌then◌else◌, nat_le, nat_lt, ◌==◌}
use Rattle.std.specs.Int.RustNames.{unsigned_abs}
use Rattle.std.proofs.Math.Nat.{mul-le-mul, pow-le-pow_right}
use Rattle.std.proofs.lemmas.Bool.{cases_eq}
use Rattle.std.proofs.lemmas.Bool.Decides.{nat_tests}
use Rattle.std.proofs.lemmas.Int.{ints}
use Rattle.std.proofs.lemmas.List.{get_or_past}
use Rattle.bmp_math.specs.Integers.{IsWithin}
use Rattle.bmp_roots.specs.RootSystems.{matrix_of, positive_roots_of}
use Rattle.bmp_roots.specs.declared.root_system.Roots.{Roots}
use Rattle.bmp_weyl.specs.Elements.{element_length}
use Rattle.bmp_weyl.specs.declared.elem.Elem.{Elem}
use Rattle.bmp_weyl.proofs.CallLemmas.{root_system}
use Rattle.bmp_interval.specs.Intervals.{IsInterval}
use Rattle.bmp_hecke.specs.Laurents.{Laurent, constant_one, flip, HasSpan}
use Rattle.bmp_hecke.specs.Combinations.{value_in}
use Rattle.bmp_hecke.specs.DifferenceBars.{difference_sum}
use Rattle.bmp_hecke.specs.WeylGroups.{weyl_group}
use Rattle.bmp_hecke.proofs.DifferenceLemmas.{difference_size}
use Rattle.bmp_kl.specs.Tables.{Bars, sum_above, positive_part, IsTableFrom, IsTriangular}
use Rattle.bmp_kl.specs.SumTables.{sum_value, HasSmallSums}
use Rattle.bmp_kl.specs.Powers.{part_of, horner}
use Rattle.bmp_kl.specs.IntervalBars.{vertex_at, bars_of, counts_of, counts_below}
use Rattle.bmp_kl.specs.PartLists.{part_at, lower_value, part_value, IsBarAdded}
use Rattle.bmp_kl.specs.Filled.{top_value, IsFilled, HasTooBig}
use Rattle.bmp_kl.proofs.TableLemmas.{table_span, positive_zero, above_greatest}
use Rattle.bmp_kl.proofs.PowerLemmas.{part_size}
use Rattle.bmp_kl.proofs.IntervalLemmas.{interval_triangular}
use Rattle.bmp_kl.proofs.PartLemmas.{value_added}
use Rattle.bmp_kl.proofs.HornerLemmas.{value_near}
use Rattle.bmp_kl.proofs.FillLemmas.{bars_in_powers, part_next, part_same, part_none, horner_same, table_next, sum_by_horner}

pub lower_span : (f : ℕ → ℤ) → HasSpan 36 (lower_value f)
lower_span f (pos zero) far = absurd (omega arith)
lower_span f (pos (suc e)) far = refl
lower_span f (negsuc a) far = let off : nat_le (suc a) 36 ≡ false = grind (arith, nat_tests) in rw off refl

positive_same : (f g : Laurent) → ((a : ℤ) → f a ≡ g a) → (e : ℤ) → positive_part f e ≡ positive_part g e
positive_same f g same (pos zero) = refl
positive_same f g same (pos (suc e)) = same (pos (suc e))
positive_same f g same (negsuc e) = refl

chosen : {X : Type 0} (b : Bool) (s t : X) → b ≡ true → (if b then s else t) ≡ s
chosen true s t e = refl
chosen false s t e = absurd (cc)

other : {X : Type 0} (b : Bool) (s t : X) → b ≡ false → (if b then s else t) ≡ t
other true s t e = absurd (cc)
other false s t e = refl

same_test : (a b : ℕ) → a ≡ b → (a == b) ≡ true
same_test a b h = grind (arith, nat_tests)

apart_test : (a b : ℕ) → a ≢ b → (a == b) ≡ false
apart_test a b h = grind (arith, nat_tests)

last_or_not : (x n : ℕ) → x < n → (x + 1 ≡ n) ⊎ (x + 1 < n)
last_or_not x n below = elim (cases_eq (x + 1) n) [ inl last ↦ inl last | inr more ↦ inr (omega arith) ]

-- ---- h and q with one more sum
abbrev pub q_with : ℕ → Laurent → (ℕ → Laurent) → ℕ → Laurent
q_with x row q y e = if y == x then row e else q y e

abbrev pub h_with : ℕ → (ℕ → Laurent) → ℕ → Laurent
h_with n q y e = if y + 1 == n then constant_one e else positive_part (q y) e

h_same : (n : ℕ) (q p : ℕ → Laurent) (y : ℕ) → ((a : ℤ) → q y a ≡ p y a) → (e : ℤ) → h_with n q y e ≡ h_with n p y e
h_same n q p y same e = ap (λ z. if y + 1 == n then constant_one e else z) (positive_same (q y) (p y) same e)

module _ (roots : Roots) (word : List ℕ) (list : List Elem)
    (interval : IsInterval (matrix_of roots) (positive_roots_of roots) word list) where
  abbrev pub n : ℕ
  n = length list

  abbrev r : Bars
  r = bars_of (matrix_of roots) (positive_roots_of roots) list

  abbrev c : ℕ → ℕ → ℕ → ℕ
  c = counts_of (matrix_of roots) (positive_roots_of roots) list

  abbrev level : ℕ → ℕ
  level x = element_length (positive_roots_of roots) (vertex_at (matrix_of roots) list x)

  triangle : IsTriangular (length list)
      (λ x. element_length (positive_roots_of roots) (vertex_at (matrix_of roots) list x))
      (bars_of (matrix_of roots) (positive_roots_of roots) list)
  triangle = interval_triangular (root_system roots) interval

  counts_few : (x y d : ℕ) → y < n → c x y d ≤ 2 ^ 36
  counts_few x y d inside =
      small _ (level y)
      (difference_size (weyl_group (matrix_of roots) (positive_roots_of roots)) (level y)
      (vertex_at (matrix_of roots) list y)
      (vertex_at (matrix_of roots) list x) d) (triangle.few y inside)
    where
      small : (a k : ℕ) → a ≤ 2 ^ k → k ≤ 36 → a ≤ 2 ^ 36
      small a k h few = let power : 2 ^ k ≤ 2 ^ 36 = pow-le-pow_right (omega arith) few in omega (arith, power)

  module _ (limit low : ℕ) (sums parts : List ℤ)
      (filled : IsFilled (matrix_of roots) (positive_roots_of roots) list limit low sums parts) (few : limit ≤ 1000000)
    where
      pub parts_size : (x d : ℕ) (e : ℤ) → x < low → d ≤ 36 → unsigned_abs (part_value parts x d e) ≤ 2 ^ 69
      parts_size x d e below near =
          small _ _ (ap unsigned_abs (filled.partial x d e below near))
          (part_size n (low - 1) (top_value n sums) (c x) limit (2 ^ 36)
          (λ y a above inside. filled.within y a (omega (arith, above)) inside) (λ y k inside. counts_few x y k inside)
          d
          e)
          (mul-le-mul interval.few (mul-le-mul few (let r : 2 ^ 36 ≤ 2 ^ 36 = omega arith in r)))
        where
          small : (a b : ℕ) → a ≡ b → b ≤ n * (limit * 2 ^ 36) → n * (limit * 2 ^ 36) ≤ 4096 * (1000000 * 2 ^ 36) →
              a ≤ 2 ^ 69
          small a b e h k = omega (arith, e, h, k)

      pub parts_within : (x d : ℕ) (e : ℤ) → x < low → d ≤ 36 → IsWithin (2 ^ 69) (part_value parts x d e)
      parts_within x d e below near = within (part_value parts x d e) (parts_size x d e below near)
        where
          within : (v : ℤ) → unsigned_abs v ≤ 2 ^ 69 → IsWithin (2 ^ 69) v
          within v h = (omega (arith, ints, h), omega (arith, ints, h))

      pub places_within : (x a d : ℕ) → x < low → a < 37 → d < 37 → IsWithin (2 ^ 69) (part_at parts x d a)
      places_within x zero d below l m = parts_within x d (pos 0) below (omega arith)
      places_within x (suc a) d below l m =
          let on : nat_le (suc a) 36 ≡ true = grind (arith, nat_tests) in
          subst (λ v. IsWithin (2 ^ 69) v) (chosen (nat_le (suc a) 36) (part_at parts x d (suc a)) (pos 0) on)
          (parts_within x d (negsuc a) below (omega arith))

  module _ (limit x : ℕ) (inside : x < length list) (sums parts row : List ℤ)
      (filled : IsFilled (matrix_of roots) (positive_roots_of roots) list limit (x + 1) sums parts)
      (value : (e : ℤ) → value_in row 0 e ≡ horner 36 (part_value parts x) e) where
    own_parts : (d : ℕ) (a : ℤ) → d ≤ 36 → part_value parts x d a ≡ part_of x n (top_value n sums) (c x) d a
    own_parts d a near =
        filled.partial x d a (omega arith) near
        ∙ ap (λ i. part_of i n (top_value n sums) (c x) d a) (let back : (x + 1) - 1 ≡ x = omega arith in back)

    row_is : (e : ℤ) → value_in row 0 e ≡ sum_above n r (top_value n sums) x e
    row_is e =
        value e ∙ horner_same 36 (part_value parts x) (part_of x n (top_value n sums) (c x)) own_parts e
        ∙ sym (sum_by_horner n x r (c x) (top_value n sums)
        (λ y above below a. bars_in_powers (matrix_of roots) (positive_roots_of roots) list x y a
        (triangle.few y below))
        (λ d near a far. sym (own_parts d a near) ∙ lower_span (part_at parts x d) a far) e)

    abbrev qs : ℕ → Laurent
    qs = q_with x (value_in row 0) (sum_value sums)

    abbrev hs : ℕ → Laurent
    hs = h_with n qs

    q_here : (e : ℤ) → qs x e ≡ value_in row 0 e
    q_here e = chosen (x == x) (value_in row 0 e) (sum_value sums x e) (same_test x x refl)

    q_above : (y : ℕ) (e : ℤ) → x < y → sum_value sums y e ≡ qs y e
    q_above y e above =
        sym (other (y == x) (value_in row 0 e) (sum_value sums y e) (apart_test y x (λ same. absurd (omega arith))))

    h_above : (y : ℕ) (e : ℤ) → x < y → top_value n sums y e ≡ hs y e
    h_above y e above = h_same n (sum_value sums) qs y (λ a. q_above y a above) e

    before : IsTableFrom n r (suc x) (top_value n sums) (sum_value sums)
    before = subst (λ i. IsTableFrom n r i (top_value n sums) (sum_value sums))
        (let next : x + 1 ≡ suc x = omega arith in next) filled.table

    exact : IsTableFrom n r x hs qs
    exact =
        table_next n r x (top_value n sums) (sum_value sums) hs qs before
        (λ y a above below. h_above y a above) (λ y a above below. q_above y a above)
        (λ e. q_here e ∙ row_is e)
        (λ last e. chosen (x + 1 == n) (constant_one e) (positive_part (qs x) e) (same_test (x + 1) n last))
        (λ more e. other (x + 1 == n) (constant_one e) (positive_part (qs x) e)
        (apart_test (x + 1) n (λ same. absurd (omega arith))))

    row_far : (e : ℤ) → 36 < unsigned_abs e → value_in row 0 e ≡ pos 0
    row_far e far =
        let w : ℕ = n - 1 in
        let top : w + 1 ≡ n = omega (arith, inside) in
        let short : level w ≤ 36 = triangle.few w (omega (arith, top)) in
        sym (q_here e)
        ∙ (table_span triangle x hs qs exact n x w top (omega arith) (omega arith) inside e
        (omega (arith, short, far))).1

    -- past the limit
    pub too_big : (e : ℕ) → 0 < e → e ≤ 36 → limit < unsigned_abs (get_or row (72 + e) (pos 0))
        → HasTooBig (matrix_of roots) (positive_roots_of roots) list limit x
    too_big e above near more = record {
      h = hs;
      q = qs;
      table = exact;
      vertex = inside;
      exponent = pos e;
      more = large (last_or_not x n inside);
      greatest = λ y a greater below. at_most _ _ _ (ap unsigned_abs (sym (h_above y a greater)))
          (filled.within y a (omega arith) below);
    }
      where
        at_most : (a b m : ℕ) → a ≡ b → b ≤ m → a ≤ m
        at_most a b m e h = omega arith

        large_as : (a b m : ℕ) → a ≡ b → m < b → m < a
        large_as a b m e h = omega arith

        at_row : value_in row 0 (pos e) ≡ get_or row (72 + e) (pos 0)
        at_row =
            value_near row (pos e) (omega (arith, ints))
            ∙ ap (λ i. get_or row i (pos 0))
            (let place : unsigned_abs (pos e +ℤ pos 72) ≡ 72 + e = omega (arith, ints) in place)

        positive_at : (f : Laurent) (e : ℕ) → 0 < e → positive_part f (pos e) ≡ f (pos e)
        positive_at f zero l = absurd (omega arith)
        positive_at f (suc e) l = refl

        large : (x + 1 ≡ n) ⊎ (x + 1 < n) → limit < unsigned_abs (hs x (pos e))
        large (inl last) =
            let none : value_in row 0 (pos e) ≡ pos 0 =
            row_is (pos e) ∙ above_greatest triangle (top_value n sums) x last (pos e) in
            absurd (no_more _ _ (sym at_row ∙ none) more)
          where
            no_more : (v : ℤ) (m : ℕ) → v ≡ pos 0 → m < unsigned_abs v → ⊥
            no_more v m e h = absurd (omega (arith, ints, e, h))
        large (inr further) =
            large_as _ _ _
            (ap unsigned_abs (other (x + 1 == n) (constant_one (pos e)) (positive_part (qs x) (pos e))
            (apart_test (x + 1) n (λ same. absurd (omega arith)))
            ∙ positive_at (qs x) e above ∙ q_here (pos e) ∙ at_row))
            more

    -- within the limit: the sum is stored
    module _ (next : List ℤ) (long : length next ≡ length sums) (some : 1 ≤ limit)
        (stored : (i : ℕ) → i < 73 → get_or next (x * 73 + i) (pos 0) ≡ get_or row (i + 36) (pos 0))
        (kept : (y i : ℕ) → i < 73 → y ≢ x → get_or next (y * 73 + i) (pos 0) ≡ get_or sums (y * 73 + i) (pos 0))
        (fits : (e : ℕ) → 0 < e → e ≤ 36 → unsigned_abs (get_or row (72 + e) (pos 0)) ≤ limit) where
      near_or_far : (e : ℤ) → (unsigned_abs e ≤ 36) ⊎ (36 < unsigned_abs e)
      near_or_far e = grind arith

      far_value : (cs : List ℤ) (y : ℕ) (e : ℤ) → 36 < unsigned_abs e → sum_value cs y e ≡ pos 0
      far_value cs y e far =
          other (nat_le (unsigned_abs e) 36) _ (pos 0)
          (let off : nat_le (unsigned_abs e) 36 ≡ false = grind (arith, nat_tests) in off)

      near_value : (cs : List ℤ) (y : ℕ) (e : ℤ) → unsigned_abs e ≤ 36 →
          sum_value cs y e ≡ get_or cs (y * 73 + unsigned_abs (e +ℤ pos 36)) (pos 0)
      near_value cs y e near =
          chosen (nat_le (unsigned_abs e) 36) _ (pos 0)
          (let on : nat_le (unsigned_abs e) 36 ≡ true = grind (arith, nat_tests) in on)

      next_here : (e : ℤ) → sum_value next x e ≡ value_in row 0 e
      next_here e =
          elim (near_or_far e) [
            | inl near ↦
                near_value next x e near ∙ stored (unsigned_abs (e +ℤ pos 36)) (omega (arith, ints))
                ∙ ap (λ i. get_or row i (pos 0))
                (let place : unsigned_abs (e +ℤ pos 36) + 36 ≡ unsigned_abs (e +ℤ pos 72) = omega (arith, ints) in
                place)
                ∙ sym (value_near row e (omega (arith, near)))
            | inr far ↦ far_value next x e far ∙ sym (row_far e far)
          ]

      next_other : (y : ℕ) (e : ℤ) → y ≢ x → sum_value sums y e ≡ sum_value next y e
      next_other y e apart =
          elim (near_or_far e) [
            | inl near ↦
                near_value sums y e near ∙ sym (kept y (unsigned_abs (e +ℤ pos 36)) (omega (arith, ints)) apart)
                ∙ sym (near_value next y e near)
            | inr far ↦ far_value sums y e far ∙ sym (far_value next y e far)
          ]

      top_other : (y : ℕ) (e : ℤ) → x < y → top_value n sums y e ≡ top_value n next y e
      top_other y e above =
          h_same n (sum_value sums) (sum_value next) y (λ a. next_other y a (λ same. absurd (omega arith))) e

      table_is : IsTableFrom n r x (top_value n next) (sum_value next)
      table_is =
          table_next n r x (top_value n sums) (sum_value sums) (top_value n next) (sum_value next) before
          (λ y a above below. top_other y a above) (λ y a above below. next_other y a (λ same. absurd (omega arith)))
          (λ e. next_here e ∙ row_is e)
          (λ last e. chosen (x + 1 == n) (constant_one e) (positive_part (sum_value next x) e)
          (same_test (x + 1) n last))
          (λ more e. other (x + 1 == n) (constant_one e) (positive_part (sum_value next x) e)
          (apart_test (x + 1) n (λ same. absurd (omega arith))))

      at_most : (a b m : ℕ) → a ≡ b → b ≤ m → a ≤ m
      at_most a b m e h = omega arith

      one_small : (e : ℤ) → unsigned_abs (constant_one e) ≤ limit
      one_small (pos zero) = some
      one_small (pos (suc e)) = omega arith
      one_small (negsuc e) = omega arith

      part_small : (e : ℤ) → unsigned_abs (positive_part (sum_value next x) e) ≤ limit
      part_small (pos zero) = omega arith
      part_small (negsuc e) = omega arith
      part_small (pos (suc e)) =
          elim (near_or_far (pos (suc e))) [
            | inl near ↦
                at_most _ _ _
                (ap unsigned_abs (next_here (pos (suc e)) ∙ value_near row (pos (suc e)) (omega (arith, ints, near))
                ∙ ap (λ i. get_or row i (pos 0))
                (let place : unsigned_abs (pos (suc e) +ℤ pos 72) ≡ 72 + suc e = omega (arith, ints) in place)))
                (fits (suc e) (omega arith) (omega (arith, ints, near)))
            | inr far ↦ at_most _ _ _ (ap unsigned_abs (far_value next x (pos (suc e)) far)) (omega arith)
          ]

      within_here : (b : Bool) (e : ℤ) → unsigned_abs (if b then constant_one e else positive_part (sum_value next x) e)
          ≤ limit
      within_here true e = one_small e
      within_here false e = part_small e

      pub within_is : (y : ℕ) (e : ℤ) → x ≤ y → y < n → unsigned_abs (top_value n next y e) ≤ limit
      within_is y e above below =
          elim (cases_eq y x) [
            | inl at ↦ subst (λ z. unsigned_abs (top_value n next z e) ≤ limit) (sym at) (within_here (x + 1 == n) e)
            | inr further ↦
                at_most _ _ _ (ap unsigned_abs (sym (top_other y e (omega arith))))
                (filled.within y e (omega arith) below)
          ]

      pub tops_within : (tops : List ℤ) → length tops ≡ 37
          → ((a : ℕ) → a < 37 → get_or tops a (pos 0) ≡ top_value n next x (pos a)) → limit ≤ 1000000
          → (a : ℕ) → IsWithin 1000000 (get_or tops a (pos 0))
      tops_within tops all is few a =
          elim (below_or a 37) [
            | inl under ↦
                within (get_or tops a (pos 0))
                (at_most _ _ _ (ap unsigned_abs (is a under)) (within_is x (pos a) (omega arith) inside))
            | inr out ↦
                subst (λ v. IsWithin 1000000 v) (sym (get_or_past tops a (pos 0) (omega (arith, all))))
                (omega (arith, ints), omega (arith, ints))
          ]
        where
          below_or : (a b : ℕ) → (a < b) ⊎ (b ≤ a)
          below_or a b = grind arith

          within : (v : ℤ) → unsigned_abs v ≤ limit → IsWithin 1000000 v
          within v h = (omega (arith, ints, h, few), omega (arith, ints, h, few))

      -- the coefficients at the exponents from 0 are h_x turned round
      tops_flipped : (tops : List ℤ) → ((a : ℕ) → a < 37 → get_or tops a (pos 0) ≡ top_value n next x (pos a))
          → (e : ℤ) → lower_value (λ a. get_or tops a (pos 0)) e ≡ flip (top_value n next x) e
      tops_flipped tops is (pos zero) = is 0 (omega arith)
      tops_flipped tops is (pos (suc e)) = sym (none (x + 1 == n))
        where
          none : (b : Bool) → (if b then constant_one (negsuc e) else positive_part (sum_value next x) (negsuc e))
              ≡ pos 0
          none true = refl
          none false = refl
      tops_flipped tops is (negsuc a) = by (nat_le (suc a) 36) refl
        where
          none : (b : Bool) → 36 < suc a →
              (if b then constant_one (pos (suc a)) else positive_part (sum_value next x) (pos (suc a))) ≡ pos 0
          none true far = refl
          none false far = far_value next x (pos (suc a)) far

          by : (b : Bool) → nat_le (suc a) 36 ≡ b
              → (if b then get_or tops (suc a) (pos 0) else pos 0) ≡ top_value n next x (pos (suc a))
          by true near = is (suc a) (grind (arith, nat_tests))
          by false far = sym (none (x + 1 == n) (grind (arith, nat_tests)))

      pub filled_next : (tops later : List ℤ) → ((a : ℕ) → a < 37 → get_or tops a (pos 0) ≡ top_value n next x (pos a))
          → IsBarAdded 37 x tops (counts_below (matrix_of roots) (positive_roots_of roots) list x) parts later
          → IsFilled (matrix_of roots) (positive_roots_of roots) list limit x next later
      filled_next tops later is added = record {
        table = table_is;
        within = within_is;
        partial = λ z d a below near. partial z d a below near;
        sums_long = long ∙ filled.sums_long;
        parts_long = added.as_long ∙ filled.parts_long;
      }
        where
          partial : (z d : ℕ) (a : ℤ) → z < x → d ≤ 36
              → part_value later z d a ≡ part_of (x - 1) n (top_value n next) (c z) d a
          partial z d a below near =
              value_added x tops (counts_below (matrix_of roots) (positive_roots_of roots) list x) parts later added z d
              a below (omega arith)
              ∙ ap₂ (λ s t. s +ℤ t *ℤ pos (c z x d))
              (filled.partial z d a (omega arith) near
              ∙ ap (λ i. part_of i n (top_value n sums) (c z) d a) (let back : (x + 1) - 1 ≡ x = omega arith in back)
              ∙ part_same x n (top_value n sums) (top_value n next) (c z) d a (λ y e above under. top_other y e above))
              (tops_flipped tops is a)
              ∙ sym (joined (x - 1) (let back : suc (x - 1) ≡ x = omega (arith, below) in back))
            where
              joined : (w : ℕ) → suc w ≡ x
                  → part_of w n (top_value n next) (c z) d a
                  ≡ part_of x n (top_value n next) (c z) d a +ℤ flip (top_value n next x) a *ℤ pos (c z x d)
              joined w e =
                  part_next w n (top_value n next) (c z) d a (omega (arith, e, inside))
                  ∙ ap (λ i. part_of i n (top_value n next) (c z) d a +ℤ flip (top_value n next i) a *ℤ pos (c z i d)) e

  -- nothing is filled at first
  pub filled_none : (limit : ℕ) (sums parts : List ℤ) → length sums ≡ n * 73 → length parts ≡ n * 1369
      → ((i : ℕ) → get_or parts i (pos 0) ≡ pos 0) →
      IsFilled (matrix_of roots) (positive_roots_of roots) list limit n sums parts
  filled_none limit sums parts long wide zeros = record {
    table = record {
      sums = λ x low below e. absurd (omega arith);
      greatest = λ x low last e. absurd (omega arith);
      others = λ x low more e. absurd (omega arith);
    };
    within = λ x e low below. absurd (omega arith);
    partial = λ x d a below near. no_value x d a ∙ sym (part_none (n - 1) n (top_value n sums) (c x) d a (omega arith));
    sums_long = long;
    parts_long = wide;
  }
    where
      no_value : (x d : ℕ) (a : ℤ) → part_value parts x d a ≡ pos 0
      no_value x d (pos zero) = zeros _
      no_value x d (pos (suc e)) = refl
      no_value x d (negsuc a) = by (nat_le (suc a) 36)
        where
          by : (b : Bool) → (if b then part_at parts x d (suc a) else pos 0) ≡ pos 0
          by true = zeros _
          by false = refl

  -- the coefficients of a table that is filled are small
  pub sums_small : (limit : ℕ) (sums parts : List ℤ) →
      IsFilled (matrix_of roots) (positive_roots_of roots) list limit 0 sums parts
      → limit ≤ 1000000 → HasSmallSums n sums
  sums_small limit sums parts filled few x zero more above = absurd (omega arith)
  sums_small limit sums parts filled few x (suc e) more above =
      within (sum_value sums x (pos (suc e)))
      (at_most _ _ _
      (ap unsigned_abs (sym
      (other (x + 1 == n) (constant_one (pos (suc e))) (positive_part (sum_value sums x) (pos (suc e)))
      (apart_test (x + 1) n (λ same. absurd (omega arith))))))
      (filled.within x (pos (suc e)) (omega arith) (omega arith)))
    where
      at_most : (a b m : ℕ) → a ≡ b → b ≤ m → a ≤ m
      at_most a b m e h = omega arith

      within : (v : ℤ) → unsigned_abs v ≤ limit → IsWithin 1000000 v
      within v h = (omega (arith, ints, h, few), omega (arith, ints, h, few))
