-- A monomial times an element modulo a label, by a table of normal forms: one block, and the loops that make it.
use Rattle.std.proofs.Common.{◌≡◌, ◌≢◌, ℕ, suc, ◌+◌, ◌-◌, ◌*◌, ◌%◌, ◌<◌, ◌≤◌, eqb, List, [], ◌∷◌, ◌++◌, length, get_or, refl, sym, ap, ap₂, ◌∙◌, inl, inr, arith, eq-eqb, ne_eqb}
use Rattle.std.specs.List.{All, sum}
use Rattle.std.proofs.lemmas.Bool.{cases_eq, cond-true, cond-false}
use Rattle.std.proofs.lemmas.List.{get_or_push, get_or_append_left}
use Rattle.std.proofs.lemmas.List.Elements.{All-push}
use Rattle.std.proofs.Math.Nat.{mod-mod, zero-mod}
use Rattle.bmp_math.specs.Sums.{sum_below}
use Rattle.bmp_math.specs.Vectors.{SameVector, IsLinear, unit}
use Rattle.bmp_math.specs.Congruences.{SameMod}
use Rattle.bmp_math.proofs.UnitLemmas.{unit_same, unit_other, combination_unit}
use Rattle.bmp_math.proofs.CongruenceLemmas.{same_mul, reduced_add}
use Rattle.bmp_math.proofs.SumLemmas.{sum_below-zero, sum_below_more, sum_below_only, sum_same_mod}
use Rattle.bmp_poly.specs.Exponents.{IsMonomial, count, place, exponents}
use Rattle.bmp_poly.specs.Forms.{Form, unit_form}
use Rattle.bmp_poly.specs.Coordinates.{IsLeading}
use Rattle.bmp_poly.specs.Shifts.{shift, joined}
use Rattle.bmp_poly.specs.Coefficients.{coefficient}
use Rattle.bmp_poly.proofs.CoefficientLemmas.{coefficient_read}
use Rattle.bmp_poly.proofs.PlaceLemmas.{exponents_stand, exponents-place, place_below, StandsAt}
use Rattle.bmp_poly.proofs.ProductLemmas.{shift-sum}
use Rattle.bmp_poly.proofs.ShiftLemmas.{joined_monomial}
use Rattle.bmp_graded.specs.Graded.{Graded}
use Rattle.bmp_graded.specs.Modules.{moved}
use Rattle.bmp_graded.specs.NormalForms.{HasInverses, normal_by}
use Rattle.bmp_graded.specs.Quotients.{insert, remove, pure_form, reduced}
use Rattle.bmp_graded.proofs.CoordinateLemmas.{length_more}
use Rattle.bmp_graded.proofs.CopiesLemmas.{moved_dim, moved_act_from}
use Rattle.bmp_graded.proofs.ExtensionLaws.{linear_sum}
use Rattle.bmp_graded.proofs.PassLaws.{normal_respects, reduced_over}
use Rattle.bmp_graded.proofs.PureLemmas.{without_monomial}
use Rattle.bmp_graded.proofs.QuotientLemmas.{insert_at, insert_remove, remove_insert, remove_monomial}
use Rattle.bmp_graded.proofs.ReducedLaws.{reduced_dim}
use Rattle.bmp_graded.proofs.Totals.{none_times, one_times}
use Rattle.bmp_module.specs.Appended.{IsAppended}
use Rattle.bmp_module.specs.Tables.{normal_number, combined, IsNormalColumn, ArePlaces}
use Rattle.bmp_module.proofs.NormalColumns.{unit_sym}
use Rattle.bmp_module.proofs.Appending.{appended_more, appended_as}

-- the monomial at place j of those of degree d without the l-th of r variables
module _ (r l d j : ℕ) (here : l < r) (wide : r ≤ 6) (inside : j < count (r - 1) d) where
  abbrev x : List ℕ
  x = insert l (exponents 5 (r - 1) d j)

  -- and its place among all
  at_place : exponents 6 r d (place r x) ≡ x
  at_place = exponents-place 6 r d x wide (without_monomial r l d j here wide inside)

  long5 : length (exponents 5 (r - 1) d j) ≡ 5
  long5 = let narrow : r - 1 ≤ 5 = omega arith in (exponents_stand 5 (r - 1) d j narrow inside).monomial.long

  pure_here : pure_form (r - 1) l (unit j) x ≡ 1
  pure_here =
      let narrow : r - 1 ≤ 5 = omega arith in
      let back : remove l x ≡ exponents 5 (r - 1) d j =
      remove_insert l (exponents 5 (r - 1) d j) (omega (arith, long5)) in
      let stands : place (r - 1) (exponents 5 (r - 1) d j) ≡ j =
      (exponents_stand 5 (r - 1) d j narrow inside).place_is in
      cond-true {A = ℕ} (eqb (get_or x l 0) 0) (unit j (place (r - 1) (remove l x))) 0
      (eq-eqb (get_or x l 0) 0 (insert_at l (exponents 5 (r - 1) d j)))
      ∙ ap (λ z. unit j (place (r - 1) z)) back ∙ ap (unit j) stands ∙ unit_same j

  -- a monomial without the variable that stands at the same place is the same
  same_pure : (e : List ℕ) → IsMonomial 6 r d e → get_or e l 0 ≡ 0 → j ≡ place (r - 1) (remove l e) → e ≡ x
  same_pure e is none same =
      let narrow : r - 1 ≤ 5 = omega arith in
      let whole : suc (r - 1) ≡ r = omega arith in
      let size : length e ≡ 6 = is.long in
      let removed : IsMonomial 5 (r - 1) d (remove l e) =
      remove_monomial 5 (r - 1) d l e (omega arith) narrow none (rw whole is) in
      sym (insert_remove l e (omega arith) none)
      ∙ ap (insert l) (sym (exponents-place 5 (r - 1) d (remove l e) narrow removed)
      ∙ ap (exponents 5 (r - 1) d) (sym same))

  pure_elsewhere : (e : List ℕ) → IsMonomial 6 r d e → e ≢ x → pure_form (r - 1) l (unit j) e ≡ 0
  pure_elsewhere e is other = elim (cases_eq (get_or e l 0) 0) [
    | inl none ↦
        cond-true {A = ℕ} (eqb (get_or e l 0) 0) (unit j (place (r - 1) (remove l e))) 0 (eq-eqb (get_or e l 0) 0 none)
        ∙ unit_other j (place (r - 1) (remove l e)) (λ same. other (same_pure e is none same))
    | inr some ↦ cond-false {A = ℕ} (eqb (get_or e l 0) 0) (unit j (place (r - 1) (remove l e))) 0
        (ne_eqb (get_or e l 0) 0 some)
  ]

  -- m times the polynomial that has the one coordinate 1 is a monomial
  pub shift_unit : (k : ℕ) (m h : List ℕ) → IsMonomial 6 r k m → IsMonomial 6 r (k + d) h →
      shift m (pure_form (r - 1) l (unit j)) h ≡ unit_form r (joined m x) h
  shift_unit k m h is_m is_h =
      let here_below : place r x < count r d = place_below 6 r d x wide (without_monomial r l d j here wide inside) in
      sym (shift-sum r k d wide m h is_m is_h (pure_form (r - 1) l (unit j)))
      ∙ sum_below_only (λ i. pure_form (r - 1) l (unit j) (exponents 6 r d i) * unit_form r h
      (joined m (exponents 6 r d i))) (count r d) (place r x) here_below
      (λ i below other.
      let stands : StandsAt 6 r d i (exponents 6 r d i) = exponents_stand 6 r d i wide below in
      ap (λ z. z * unit_form r h (joined m (exponents 6 r d i)))
      (pure_elsewhere (exponents 6 r d i) stands.monomial (λ same. other (sym stands.place_is ∙ ap (place r) same)))
      ∙ none_times (unit_form r h (joined m (exponents 6 r d i))))
      ∙ ap (λ z. pure_form (r - 1) l (unit j) z * unit_form r h (joined m z)) at_place
      ∙ ap (λ z. z * unit_form r h (joined m x)) pure_here ∙ one_times (unit_form r h (joined m x))
      ∙ unit_sym (place r (joined m x)) (place r h)

-- what m does to an element of one component: a sum of normal forms of monomials
module _ (p r l : ℕ) (coords : List ℕ) (two : 2 ≤ p) (inverses : HasInverses p) (leads : IsLeading p r l coords)
    (k d : ℕ) (m : List ℕ) (is_m : IsMonomial 6 r k m) where
  abbrev Q : Graded
  Q = reduced (r - 1) l (normal_by p (suc (r - 1)) l (λ k. get_or coords k 0))

  act_is : (t : ℕ) (v : ℕ → ℕ) (i : ℕ) → Q.act m d t v i ≡ normal_by p r l (λ k. get_or coords k 0) t
      (shift m (pure_form (r - 1) l v)) (insert l (exponents 5 (r - 1) t i))
  unfolding reduced
  act_is t v i = let whole : suc (r - 1) ≡ r = (let below : l < r = leads.here in omega arith) in
      ap (λ z. normal_by p z l (λ k. get_or coords k 0) t (shift m (pure_form (r - 1) l v))
      (insert l (exponents 5 (r - 1) t i))) whole

  act_unit : (j i : ℕ) → j < count (r - 1) d → i < count (r - 1) (d + k) →
      SameMod p (Q.act m d (d + k) (unit j) i)
      (normal_number p r (λ k. get_or coords k 0) l (d + k)
      (unit_form r (joined m (insert l (exponents 5 (r - 1) d j)))) i)
  act_unit j i inside below =
      let order : k + d ≡ d + k = omega arith in
      ap (λ z. z % p) (act_is (d + k) (unit j) i)
      ∙ normal_respects p r l coords (d + k) (shift m (pure_form (r - 1) l (unit j)))
      (unit_form r (joined m (insert l (exponents 5 (r - 1) d j)))) two inverses leads
      (λ h is_h. ap (λ z. z % p) (shift_unit r l d j leads.here leads.rank inside k m h is_m (rw order is_h)))
      (insert l (exponents 5 (r - 1) (d + k) i)) (without_monomial r l (d + k) i leads.here leads.rank below)
      ∙ sym (mod-mod (normal_by p r l (λ k. get_or coords k 0) (d + k)
      (unit_form r (joined m (insert l (exponents 5 (r - 1) d j)))) (insert l (exponents 5 (r - 1) (d + k) i))) p)

  -- a vector as the sum of its coordinates times the units
  by_units : (n : ℕ) (v : ℕ → ℕ) → SameVector p n v (λ j. sum_below (λ i. v i * unit i j) n)
  by_units n v j below = ap (λ z. z % p) (sym (combination_unit n j v below))

  pub act_combined : (places : List ℕ) (v : ℕ → ℕ) (i : ℕ) → ArePlaces r l d m (count (r - 1) d) places →
      i < count (r - 1) (d + k) →
      SameMod p (combined p r (λ k. get_or coords k 0) l (d + k) (λ j. get_or places j 0) v (count (r - 1) d) i)
      (Q.act m d (d + k) v i)
  act_combined places v i are below =
      let order : k + d ≡ d + k = omega arith in
      let linear : IsLinear p (Q.dim d) (Q.dim (d + k)) (Q.act m d (d + k)) =
      (reduced_over p p r l coords refl two inverses leads).linear m k d (d + k) is_m refl in
      let lower : Q.dim d ≡ count (r - 1) d =
      reduced_dim (r - 1) l d (normal_by p (suc (r - 1)) l (λ k. get_or coords k 0)) in
      let upper : Q.dim (d + k) ≡ count (r - 1) (d + k) =
      reduced_dim (r - 1) l (d + k) (normal_by p (suc (r - 1)) l (λ k. get_or coords k 0)) in
      let linear' : IsLinear p (count (r - 1) d) (count (r - 1) (d + k)) (Q.act m d (d + k)) =
      rw (← lower, ← upper) linear in
      sum_same_mod p (λ j. v j * normal_number p r (λ k. get_or coords k 0) l (d + k)
      (unit_form r (exponents 6 r (d + k) (get_or places j 0))) i) (λ j. v j * Q.act m d (d + k) (unit j) i)
      (count (r - 1) d)
      (λ j inside.
      let product : IsMonomial 6 r (k + d) (joined m (insert l (exponents 5 (r - 1) d j))) =
      joined_monomial 6 r k d m (insert l (exponents 5 (r - 1) d j)) is_m
      (without_monomial r l d j leads.here leads.rank inside) in
      let stands : exponents 6 r (d + k) (get_or places j 0) ≡ joined m (insert l (exponents 5 (r - 1) d j)) =
      ap (exponents 6 r (d + k)) (are.each j inside)
      ∙ exponents-place 6 r (d + k) (joined m (insert l (exponents 5 (r - 1) d j))) leads.rank
      (rw order at product) in
      same_mul p (v j) (v j)
      (normal_number p r (λ k. get_or coords k 0) l (d + k)
      (unit_form r (exponents 6 r (d + k) (get_or places j 0))) i) (Q.act m d (d + k) (unit j) i) refl
      (ap (λ z. normal_number p r (λ k. get_or coords k 0) l (d + k) (unit_form r z) i % p) stands
      ∙ sym (act_unit j i inside below)))
      ∙ sym (linear_sum p (count (r - 1) d) (count (r - 1) (d + k)) (Q.act m d (d + k)) linear' v unit (count (r - 1) d)
      i below)
      ∙ sym (linear'.respects v (λ j. sum_below (λ i. v i * unit i j) (count (r - 1) d)) (by_units (count (r - 1) d) v)
      i below)

-- number i so far, by the first k values of the block
pub record IsNumberBelow {E : Type 0} (is_value : E → Type 0) (num : E → ℕ) (q p r l : ℕ) (coords : List ℕ) (s : ℕ)
    (places : List ℕ) (block : List E) (i k : ℕ) (total : E) : Type 0 where
  pub value : is_value total
  pub number : num total ≡ combined p r (λ k. get_or coords k 0) l s (λ k. get_or places k 0) (coefficient num block) k
      i % q

-- n numbers of a block so far
pub record AreNumbersBelow {E : Type 0} (is_value : E → Type 0) (num : E → ℕ) (q p r l : ℕ) (coords : List ℕ) (s : ℕ)
    (places : List ℕ) (block old new : List E) (n : ℕ) : Type 0 where
  pub appended : IsAppended is_value num old new n
      (λ i. combined p r (λ k. get_or coords k 0) l s (λ k. get_or places k 0) (coefficient num block) (length block) i
      % q)

-- the places so far
pub record ArePlacesBelow (r l d t : ℕ) (m : List ℕ) (n : ℕ) (places : List ℕ) : Type 0 where
  pub are : ArePlaces r l d m n places
  pub below : All (λ q. q < count r t) places

module _ {E : Type 0} (is_value : E → Type 0) (num : E → ℕ) (q p r l : ℕ) (coords : List ℕ) (s : ℕ) (places : List ℕ)
    (block : List E) (i : ℕ) where
  abbrev part : ℕ → ℕ
  part k = coefficient num block k * normal_number p r (λ k. get_or coords k 0) l s
      (unit_form r (exponents 6 r s (get_or places k 0))) i

  pub number_none : (total : E) → is_value total → num total ≡ 0 →
      IsNumberBelow is_value num q p r l coords s places block i 0 total
  number_none total value number =
      record { value = value; number = number ∙ sym (ap (λ z. z % q) (sum_below-zero part) ∙ zero-mod q) }

  pub number_passed : (k : ℕ) (total v : E) → k < length block → v ≡ get_or block k v → num v ≡ 0 →
      IsNumberBelow is_value num q p r l coords s places block i k total →
      IsNumberBelow is_value num q p r l coords s places block i (k + 1) total
  number_passed k total v inside read none h =
      let y : ℕ = normal_number p r (λ k. get_or coords k 0) l s (unit_form r (exponents 6 r s (get_or places k 0)))
      i in
      let nothing : part k ≡ 0 =
      ap (λ z. z * normal_number p r (λ k. get_or coords k 0) l s
      (unit_form r (exponents 6 r s (get_or places k 0))) i) (coefficient_read num block k v inside read ∙ none)
      ∙ none_times (normal_number p r (λ k. get_or coords k 0) l s
      (unit_form r (exponents 6 r s (get_or places k 0))) i) in
      record {
        value = h.value;
        number = h.number
            ∙ ap (λ z. z % q)
            (sym (sum_below_more part k ∙ ap (λ z. sum_below part k + z) nothing ∙ plain (sum_below part k)));
      }
    where
      plain : (y : ℕ) → y + 0 ≡ y
      plain y = omega arith

  pub number_more : (k : ℕ) (total v factor term next : E) (x : ℕ) (column : List ℕ) → k < length block →
      v ≡ get_or block k v → i < count (r - 1) s →
      IsNormalColumn p r (λ k. get_or coords k 0) l s (get_or places k 0) column → num factor ≡ x →
      x ≡ get_or column i 0 → num term ≡ (num v * num factor) % q → is_value next → num next ≡ (num total + num term)
      % q → IsNumberBelow is_value num q p r l coords s places block i k total →
      IsNumberBelow is_value num q p r l coords s places block i (k + 1) next
  number_more k total v factor term next x column inside read below is factor_is x_is term_is value number h =
      let same : part k ≡ num v * num factor =
      ap₂ (λ a b. a * b) (coefficient_read num block k v inside read) (sym (factor_is ∙ x_is ∙ is.each i below)) in
      record {
        value = value;
        number = reduced_add q (num total) (num term) (sum_below part k) (num v * num factor) (num next)
            (sum_below part (k + 1)) h.number term_is number
            (sum_below_more part k ∙ ap (λ z. sum_below part k + z) same);
      }

module _ {E : Type 0} (is_value : E → Type 0) (num : E → ℕ) (q p r l : ℕ) (coords : List ℕ) (s : ℕ) (places : List ℕ)
    (block old : List E) where
  pub numbers_next : (new : List E) (n : ℕ) (x : E) →
      AreNumbersBelow is_value num q p r l coords s places block old new n → is_value x →
      num x ≡ combined p r (λ k. get_or coords k 0) l s (λ k. get_or places k 0) (coefficient num block) (length block)
      n % q → AreNumbersBelow is_value num q p r l coords s places block old (new ++ x ∷ []) (n + 1)
  numbers_next new n x h value number =
      record {
        appended = appended_more is_value num old new n
            (λ i. combined p r (λ k. get_or coords k 0) l s (λ k. get_or places k 0) (coefficient num block)
            (length block) i % q) x h.appended value number;
      }

-- places, one after another
pub places_none : (r l d t : ℕ) (m : List ℕ) (places : List ℕ) → places ≡ [] → ArePlacesBelow r l d t m 0 places
places_none r l d t m places empty = rw empty (record {
  are = record { sized = refl; each = λ j b. absurd (omega arith) };
  below = λ k x b. absurd (let none : k < 0 = b in omega arith);
})

pub places_more : (r l d t : ℕ) (m : List ℕ) (n : ℕ) (places : List ℕ) (q : ℕ) → ArePlacesBelow r l d t m n places →
    q ≡ place r (joined m (insert l (exponents 5 (r - 1) d n))) → q < count r t →
    ArePlacesBelow r l d t m (n + 1) (places ++ q ∷ [])
places_more r l d t m n places q h is below =
    let sized : length places ≡ n = h.are.sized in
    record {
      are = record {
        sized = length_more places q ∙ ap (λ k. k + 1) sized;
        each = λ j b. elim (cases_eq j n) [
          | inl here ↦ get_or_push places q 0 j (sized ∙ sym here) ∙ is
              ∙ ap (λ k. place r (joined m (insert l (exponents 5 (r - 1) d k)))) (sym here)
          | inr other ↦ let before : j < n = omega arith in get_or_append_left places (q ∷ []) 0 j (omega arith)
              ∙ h.are.each j before
        ];
      };
      below = All-push (λ q. q < count r t) places q h.below below;
    }

-- a monomial of degree k + d as one in r' = r variables
pub product_monomial : (r r' l l' d d' k j : ℕ) (m e : List ℕ) → r' ≡ r → l' ≡ l → l < r → r ≤ 6 → IsMonomial 6 r k m →
    j < count (r - 1) d → e ≡ insert l' (exponents 5 (r' - 1) d j) → d' ≡ d + k → IsMonomial 6 r' d' (joined m e)
product_monomial r r' l l' d d' k j m e ranks at here wide is_m inside e_is degree =
    let order : k + d ≡ d + k = omega arith in
    let e_as : e ≡ insert l (exponents 5 (r - 1) d j) = e_is ∙ ap (λ z. insert z (exponents 5 (r' - 1) d j)) at
    ∙ ap (λ z. insert l (exponents 5 (z - 1) d j)) ranks in
    let product : IsMonomial 6 r (k + d) (joined m (insert l (exponents 5 (r - 1) d j))) =
    joined_monomial 6 r k d m (insert l (exponents 5 (r - 1) d j)) is_m
    (without_monomial r l d j here wide inside) in
    rw (ranks, degree, e_as) (rw order at product)

pub block_sized : (r l g d n : ℕ) (normal : ℕ → Form → Form) → g ≤ d → n ≡ (moved g (reduced (r - 1) l normal)).dim d →
    n ≡ count (r - 1) (d - g)
block_sized r l g d n normal from n_is = n_is ∙ moved_dim (reduced (r - 1) l normal) g d from
    ∙ reduced_dim (r - 1) l (d - g) normal

-- a block from its generator on
pub combined_appended : {E : Type 0} (is_value : E → Type 0) (num : E → ℕ) (p s r l : ℕ) (coords : List ℕ)
    (g d raised n : ℕ) (m : List ℕ) (places : List ℕ) (block old new : List E) → p ≡ s → 2 ≤ p → HasInverses p →
    IsLeading s r l coords → g ≤ d → raised ≡ d + sum m → IsMonomial 6 r (sum m) m
    → length block ≡ (moved g (reduced (r - 1) l (normal_by s (suc (r - 1)) l (λ k. get_or coords k 0)))).dim d
    → ArePlaces r l (d - g) m (count (r - 1) (d - g)) places → n ≡ count (r - 1) (raised - g)
    → IsAppended is_value num old new n
    (λ i. combined s r (λ k. get_or coords k 0) l (raised - g) (λ k. get_or places k 0) (coefficient num block)
    (length block) i % p)
    → let Q = reduced (r - 1) l (normal_by s (suc (r - 1)) l (λ k. get_or coords k 0)) in
    IsAppended is_value num old new ((moved g Q).dim (d + sum m))
    (λ i. (moved g Q).act m d (d + sum m) (coefficient num block) i % p)
combined_appended is_value num p s r l coords g d raised n m places block old new same two inverses leads from raised_is
    is_m sized are all h =
    let degree : raised - g ≡ (d - g) + sum m = omega arith in
    let degree' : (d + sum m) - g ≡ (d - g) + sum m = omega arith in
    let leads_p : IsLeading p r l coords = rw (← same) at leads in
    let size : length block ≡ count (r - 1) (d - g) =
    sized ∙ moved_dim (reduced (r - 1) l (normal_by s (suc (r - 1)) l (λ k. get_or coords k 0))) g d from
    ∙ reduced_dim (r - 1) l (d - g) (normal_by s (suc (r - 1)) l (λ k. get_or coords k 0)) in
    let whole : n ≡ (moved g (reduced (r - 1) l (normal_by s (suc (r - 1)) l (λ k. get_or coords k 0)))).dim
    (d + sum m) =
    all ∙ ap (count (r - 1)) (degree ∙ sym degree')
    ∙ sym (moved_dim (reduced (r - 1) l (normal_by s (suc (r - 1)) l (λ k. get_or coords k 0))) g (d + sum m)
    (omega arith) ∙ reduced_dim (r - 1) l ((d + sum m) - g)
    (normal_by s (suc (r - 1)) l (λ k. get_or coords k 0))) in
    appended_as is_value num old new n
    ((moved g (reduced (r - 1) l (normal_by s (suc (r - 1)) l (λ k. get_or coords k 0)))).dim (d + sum m)) _
    (λ i. (moved g (reduced (r - 1) l (normal_by s (suc (r - 1)) l (λ k. get_or coords k 0)))).act m d (d + sum m)
    (coefficient num block) i % p)
    whole
    (λ i inside.
    let below : i < count (r - 1) ((d - g) + sum m) = omega (arith, all, ap (count (r - 1)) degree) in
    ap (λ z. combined s r (λ k. get_or coords k 0) l z (λ k. get_or places k 0) (coefficient num block) (length block) i
    % p) degree
    ∙ ap (λ z. combined s r (λ k. get_or coords k 0) l ((d - g) + sum m) (λ k. get_or places k 0)
    (coefficient num block) z i % p) size
    ∙ ap (λ z. combined z r (λ k. get_or coords k 0) l ((d - g) + sum m) (λ k. get_or places k 0)
    (coefficient num block) (count (r - 1) (d - g)) i % p) (sym same)
    ∙ act_combined p r l coords two inverses leads_p (sum m) (d - g) m is_m places (coefficient num block) i are below
    ∙ ap (λ z. (reduced (r - 1) l (normal_by z (suc (r - 1)) l (λ k. get_or coords k 0))).act m (d - g)
    ((d - g) + sum m) (coefficient num block) i % p) same
    ∙ ap (λ z. (reduced (r - 1) l (normal_by s (suc (r - 1)) l (λ k. get_or coords k 0))).act m (d - g) z
    (coefficient num block) i % p) (sym degree')
    ∙ ap (λ z. z % p)
    (sym (moved_act_from (reduced (r - 1) l (normal_by s (suc (r - 1)) l (λ k. get_or coords k 0))) g d
    (d + sum m) i m (coefficient num block) from)))
    h
