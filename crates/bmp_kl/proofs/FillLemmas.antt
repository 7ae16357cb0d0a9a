-- What the filling of the table rests on: bars and parts in powers of v - v^-1.
use Rattle.std.proofs.Common.{◌≡◌, ℕ, zero, suc, ◌+◌, ◌*◌, ◌^◌, ◌<◌, ◌≤◌, arith, refl, sym, ap, ap₂, ◌∙◌, inl, inr, Bool, true, false, ℤ, pos, negsuc, ◌+ℤ◌, ◌-ℤ◌, ◌*ℤ◌, ◌-◌, List, length}
use Rattle.std.specs.Prelude.{if◌then◌else◌, nat_lt}
use Rattle.std.specs.Int.RustNames.{unsigned_abs}
use Rattle.std.proofs.lemmas.Bool.{cases_eq}
use Rattle.std.proofs.lemmas.Bool.Decides.{nat_tests}
use Rattle.std.proofs.lemmas.Int.{ints}
use Rattle.bmp_math.specs.IntegerSums.{integer_sum}
use Rattle.bmp_math.proofs.IntegerLemmas.{zero-mul}
use Rattle.bmp_math.proofs.IntegerSumLemmas.{integer_sum_same, integer_sum-zeros}
use Rattle.bmp_roots.specs.RootPairs.{CartanMatrix, Vector}
use Rattle.bmp_weyl.specs.Elements.{element_length}
use Rattle.bmp_weyl.specs.declared.elem.Elem.{Elem}
use Rattle.bmp_hecke.specs.Laurents.{Laurent, flip, constant_one, times_difference, HasSpan}
use Rattle.bmp_hecke.specs.DifferenceBars.{difference_power, difference_sum, difference_steps}
use Rattle.bmp_hecke.specs.WeylGroups.{weyl_group}
use Rattle.bmp_hecke.proofs.DifferenceLemmas.{bar_differences, difference_degree}
use Rattle.bmp_kl.specs.Tables.{Bars, term, sum_above, positive_part, IsTableFrom}
use Rattle.bmp_kl.specs.Powers.{part_of, powers_sum, horner}
use Rattle.bmp_kl.specs.IntervalBars.{vertex_at, bars_of, counts_of}
use Rattle.bmp_kl.proofs.ProductLemmas.{chosen_same}
use Rattle.bmp_kl.proofs.PowerLemmas.{sum_in_powers_is, horner_is}

-- powers whose coefficients are 0 may be added
longer_sum : (m n : ℕ) (s : ℕ → ℕ) (e : ℤ) → n ≤ m → ((d : ℕ) → n < d → s d ≡ 0) →
    difference_sum m s e ≡ difference_sum n s e
unfolding integer_sum
longer_sum zero n s e low none = let same : 0 ≡ n = omega arith in ap (λ i. difference_sum i s e) same
longer_sum (suc m) n s e low none =
    elim (cases_eq n (suc m)) [
      | inl at ↦ ap (λ i. difference_sum i s e) (sym at)
      | inr other ↦
          let last : pos (s (suc m)) *ℤ difference_power (suc m) e ≡ pos 0 =
          ap (λ z. pos z *ℤ difference_power (suc m) e) (none (suc m) (omega arith))
          ∙ zero-mul (difference_power (suc m) e) in
          ap₂ (λ a b. a +ℤ b) (longer_sum m n s e (omega arith) none) last ∙ add_none _
    ]
  where
    add_none : (a : ℤ) → a +ℤ pos 0 ≡ a
    add_none a = omega (arith, ints)

-- the bars of an interval in the powers from 0 to 36
pub bars_in_powers : (m : CartanMatrix) (roots : List Vector) (list : List Elem) (x y : ℕ) (e : ℤ)
    → element_length roots (vertex_at m list y) ≤ 36
    → bars_of m roots list x y e ≡ difference_sum 36 (counts_of m roots list x y) e
bars_in_powers m roots list x y e short =
    let n : ℕ = element_length roots (vertex_at m list y) in
    bar_differences (weyl_group m roots) n (vertex_at m list y) (vertex_at m list x) e
    ∙ sym (longer_sum 36 n (counts_of m roots list x y) e short
    (λ d above. difference_degree (weyl_group m roots) n (vertex_at m list y) (vertex_at m list x) d above))

-- ---- sums over the vertices above one
chosen_none : (t : ℕ → ℤ) (x n : ℕ) → n ≤ suc x → integer_sum (λ z. if nat_lt x z then t z else pos 0) n ≡ pos 0
chosen_none t x n low =
    integer_sum-zeros _ n (λ z l. let off : nat_lt x z ≡ false = grind (arith, nat_tests) in rw off refl)

chosen_next : (t : ℕ → ℤ) (x n : ℕ) → suc x < n
    → integer_sum (λ z. if nat_lt x z then t z else pos 0) n
    ≡ integer_sum (λ z. if nat_lt (suc x) z then t z else pos 0) n +ℤ t (suc x)
unfolding integer_sum
chosen_next t x zero below = absurd (omega arith)
chosen_next t x (suc n) below =
    let here : nat_lt x n ≡ true = grind (arith, nat_tests) in
    elim (cases_eq n (suc x)) [
      | inl last ↦
          let off : nat_lt (suc x) n ≡ false = grind (arith, nat_tests) in
          added _ _ _ _ _ (chosen_none t x n (omega arith)) (chosen_none t (suc x) n (omega arith))
          (ap (λ b. if b then t n else pos 0) here ∙ ap t last) (ap (λ b. if b then t n else pos 0) off)
      | inr other ↦
          let more : nat_lt (suc x) n ≡ true = grind (arith, nat_tests) in
          moved _ _ _ _ _ _ (chosen_next t x n (omega arith)) (ap (λ b. if b then t n else pos 0) here)
          (ap (λ b. if b then t n else pos 0) more)
    ]
  where
    added : (s p u q v : ℤ) → s ≡ pos 0 → p ≡ pos 0 → u ≡ v → q ≡ pos 0 → s +ℤ u ≡ (p +ℤ q) +ℤ v
    added s p u q v a b c d = omega (arith, ints)

    moved : (s p u q v w : ℤ) → s ≡ p +ℤ v → u ≡ w → q ≡ w → s +ℤ u ≡ (p +ℤ q) +ℤ v
    moved s p u q v w a b c = omega (arith, ints)

-- one more vertex in a part
pub part_next : (x n : ℕ) (h : ℕ → Laurent) (c : ℕ → ℕ → ℕ) (d : ℕ) (a : ℤ) → suc x < n
    → part_of x n h c d a ≡ part_of (suc x) n h c d a +ℤ flip (h (suc x)) a *ℤ pos (c (suc x) d)
part_next x n h c d a below = chosen_next (λ y. flip (h y) a *ℤ pos (c y d)) x n below

pub part_same : (x n : ℕ) (h g : ℕ → Laurent) (c : ℕ → ℕ → ℕ) (d : ℕ) (a : ℤ)
    → ((y : ℕ) (e : ℤ) → x < y → y < n → h y e ≡ g y e) → part_of x n h c d a ≡ part_of x n g c d a
part_same x n h g c d a same =
    integer_sum_same _ _ n (λ y under. chosen_same x y _ _ (λ above. ap (λ z. z *ℤ pos (c y d)) (same y _ above under)))

pub part_none : (x n : ℕ) (h : ℕ → Laurent) (c : ℕ → ℕ → ℕ) (d : ℕ) (a : ℤ) → n ≤ suc x → part_of x n h c d a ≡ pos 0
part_none x n h c d a low = chosen_none (λ y. flip (h y) a *ℤ pos (c y d)) x n low

-- ---- Horner
pub horner_same : (m : ℕ) (f g : ℕ → Laurent) → ((d : ℕ) (a : ℤ) → d ≤ m → f d a ≡ g d a) →
    (e : ℤ) → horner m f e ≡ horner m g e
unfolding horner
horner_same zero f g same e = same 0 e (omega arith)
horner_same (suc m) f g same e =
    ap₂ (λ a b. a +ℤ b) (same 0 e (omega arith))
    (ap₂ (λ a b. a -ℤ b)
    (horner_same m (λ d. f (suc d)) (λ d. g (suc d)) (λ d a l. same (suc d) a (omega arith)) (e -ℤ pos 1))
    (horner_same m (λ d. f (suc d)) (λ d. g (suc d)) (λ d a l. same (suc d) a (omega arith)) (e +ℤ pos 1)))

pub horner_next : (m : ℕ) (parts : ℕ → Laurent) (e : ℤ)
    → horner (suc m) parts e ≡ parts 0 e +ℤ times_difference (horner m (λ d. parts (suc d))) e
unfolding horner
horner_next m parts e = refl

pub horner_span : (m : ℕ) (parts : ℕ → Laurent) → ((d : ℕ) → HasSpan 36 (parts d)) → HasSpan (36 + m) (horner m parts)
unfolding horner
horner_span zero parts span e far = span 0 e (omega arith)
horner_span (suc m) parts span e far =
    none _ _ _ (span 0 e (omega arith))
    (horner_span m (λ d. parts (suc d)) (λ d. span (suc d)) (e -ℤ pos 1) (omega (arith, ints, far)))
    (horner_span m (λ d. parts (suc d)) (λ d. span (suc d)) (e +ℤ pos 1) (omega (arith, ints, far)))
  where
    none : (s p q : ℤ) → s ≡ pos 0 → p ≡ pos 0 → q ≡ pos 0 → s +ℤ (p -ℤ q) ≡ pos 0
    none s p q a b c = omega (arith, ints)

-- ---- one more vertex of the table
sum_above_same : (n : ℕ) (r : Bars) (h g : ℕ → Laurent) (x : ℕ) (e : ℤ)
    → ((y : ℕ) (a : ℤ) → x < y → y < n → h y a ≡ g y a) → sum_above n r h x e ≡ sum_above n r g x e
sum_above_same n r h g x e same =
    integer_sum_same _ _ n (λ y under. chosen_same x y _ _ (λ above.
    integer_sum_same _ _ 145 (λ i l. ap (λ z. z *ℤ r x y (e -ℤ (pos i -ℤ pos 72))) (same y _ above under))))

pub table_next : (n : ℕ) (r : Bars) (x : ℕ) (h q g p : ℕ → Laurent) → IsTableFrom n r (suc x) h q
    → ((y : ℕ) (a : ℤ) → x < y → y < n → h y a ≡ g y a) → ((y : ℕ) (a : ℤ) → x < y → y < n → q y a ≡ p y a)
    → ((e : ℤ) → p x e ≡ sum_above n r h x e) → (x + 1 ≡ n → (e : ℤ) → g x e ≡ constant_one e)
    → (x + 1 < n → (e : ℤ) → g x e ≡ positive_part (p x) e) → IsTableFrom n r x g p
table_next n r x h q g p table same sames here last other = record {
  sums = λ y low under e.
      elim (cases_eq y x) [
        | inl at ↦ rw at (here e ∙ sum_above_same n r h g x e same)
        | inr above ↦
            sym (sames y e (omega arith) under) ∙ table.sums y (omega arith) under e
            ∙ sum_above_same n r h g y e (λ z a more few. same z a (omega arith) few)
      ];
  greatest = λ y low at e.
      elim (cases_eq y x) [
        | inl is ↦ rw is (last (omega arith) e)
        | inr above ↦ sym (same y e (omega arith) (omega arith)) ∙ table.greatest y (omega arith) at e
      ];
  others = λ y low under e.
      elim (cases_eq y x) [
        | inl is ↦ rw is (other (omega arith) e)
        | inr above ↦
            sym (same y e (omega arith) (omega arith)) ∙ table.others y (omega arith) under e
            ∙ positive_same (q y) (p y) (λ a. sames y a (omega arith) (omega arith)) e
      ];
}
  where
    positive_same : (f k : Laurent) → ((a : ℤ) → f a ≡ k a) → (e : ℤ) → positive_part f e ≡ positive_part k e
    positive_same f k is (pos zero) = refl
    positive_same f k is (pos (suc e)) = is (pos (suc e))
    positive_same f k is (negsuc e) = refl

-- q_x from the parts
pub sum_by_horner : (n x : ℕ) (r : Bars) (c : ℕ → ℕ → ℕ) (h : ℕ → Laurent)
    → ((y : ℕ) → x < y → y < n → (e : ℤ) → r x y e ≡ difference_sum 36 (c y) e)
    → ((d : ℕ) → d ≤ 36 → HasSpan 36 (part_of x n h c d))
    → (e : ℤ) → sum_above n r h x e ≡ horner 36 (part_of x n h c) e
sum_by_horner n x r c h bars span e =
    sum_in_powers_is n x 36 r c h bars e
    ∙ horner_is 36 (part_of x n h c) (λ d l a far. span d l a (omega (arith, far))) e
