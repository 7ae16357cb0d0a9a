-- Coefficients of normal forms as numbers: they are linear, and decide what is congruent by the label.
use Rattle.std.proofs.Common.{◌≡◌, ℕ, zero, suc, ◌+◌, ◌-◌, ◌*◌, ◌%◌, ◌<◌, ◌≤◌, List, length, refl, sym, ap, ◌∙◌, inl, inr, arith}
use Rattle.std.specs.Prelude.{slice_index, remove}
use Rattle.std.proofs.Math.Nat.{mod-mod, mod-lt, add-mod}
use Rattle.std.proofs.lemmas.Bool.{cases_eq}
use Rattle.bmp_math.specs.Vectors.{SameVector}
use Rattle.bmp_math.proofs.CongruenceLemmas.{same_mul}
use Rattle.bmp_poly.specs.Exponents.{IsMonomial, count, place, exponents}
use Rattle.bmp_poly.specs.Forms.{Form, Congruent}
use Rattle.bmp_poly.specs.Coordinates.{IsLeading}
use Rattle.bmp_poly.proofs.PlaceLemmas.{exponents-place, place_below}
use Rattle.bmp_graded.specs.NormalForms.{HasInverses, normal_by}
use Rattle.bmp_graded.specs.Quotients.{insert}
use Rattle.bmp_graded.proofs.PureLemmas.{without_monomial}
use Rattle.bmp_graded.proofs.QuotientLemmas.{insert_remove}
use Rattle.bmp_graded.proofs.NormalLaws.{normal_is, normal_congruent, congruent_normal, normal-plus, normal-times}
use Rattle.bmp_module.specs.Tables.{normal_number}
use Rattle.bmp_sheaf.proofs.StalkPlaces.{removed_same, removed_monomial}

module _ (l s : ℕ) (m : List ℕ) where
  pub pure_place_below : (r : ℕ) → l < r → r ≤ 6 → IsMonomial 6 r s m → slice_index m l ≡ 0 →
      place (r - 1) (remove m l) < count (r - 1) s
  pure_place_below zero below wide is pure = absurd (omega arith)
  pure_place_below (suc r) below wide is pure =
      let one_fewer : suc r - 1 ≡ r = omega arith in
      rw one_fewer (place_below 5 r s (remove m l) (omega arith)
      (removed_monomial 5 r s l m below (omega arith) is pure))

  pub pure-again : (r : ℕ) → l < r → r ≤ 6 → IsMonomial 6 r s m → slice_index m l ≡ 0 →
      insert l (exponents 5 (r - 1) s (place (r - 1) (remove m l))) ≡ m
  pure-again zero below wide is pure = absurd (omega arith)
  pure-again (suc r) below wide is pure =
      let one_fewer : suc r - 1 ≡ r = omega arith in
      let long : length m ≡ 6 = is.long in
      rw one_fewer
      (ap (insert l) (exponents-place 5 r s (remove m l) (omega arith)
      (removed_monomial 5 r s l m below (omega arith) is pure) ∙ removed_same m l)
      ∙ insert_remove l m (omega arith) pure)

module _ (p r l : ℕ) (coords : List ℕ) (two : 2 ≤ p) (inverses : HasInverses p) (leads : IsLeading p r l coords)
    (s : ℕ) where
  abbrev pub numbers : Form → ℕ → ℕ
  numbers a = normal_number p r (slice_index coords) l s a

  pub normal_number_below : (a : Form) (i : ℕ) → numbers a i < p
  normal_number_below a i =
      mod-lt (normal_by p r l (slice_index coords) s a (insert l (exponents 5 (r - 1) s i))) (omega (arith, two))

  -- the normal form itself at a monomial without the leading variable
  pub normal_number_at : (a : Form) (m : List ℕ) → IsMonomial 6 r s m → slice_index m l ≡ 0 →
      numbers a (place (r - 1) (remove m l)) ≡ normal_by p r l (slice_index coords) s a m % p
  normal_number_at a m is pure =
      ap (λ z. normal_by p r l (slice_index coords) s a z % p) (pure-again l s m r leads.here leads.rank is pure)

  pub normal_numbers_same : (a b : Form) → Congruent p 6 r s (slice_index coords) a b → (i : ℕ) → i < count (r - 1) s →
      numbers a i ≡ numbers b i
  normal_numbers_same a b h i below =
      normal_congruent p r l coords two inverses leads s a b h (insert l (exponents 5 (r - 1) s i))
      (without_monomial r l s i leads.here leads.rank below)

  pub same_normal_numbers : (a b : Form) → ((i : ℕ) → i < count (r - 1) s → numbers a i ≡ numbers b i) →
      Congruent p 6 r s (slice_index coords) a b
  same_normal_numbers a b h =
      congruent_normal p r l coords two inverses leads s a b
      (λ m is. elim (cases_eq (slice_index m l) 0) [
        | inl pure ↦ sym (normal_number_at a m is pure)
            ∙ h (place (r - 1) (remove m l)) (pure_place_below l s m r leads.here leads.rank is pure)
            ∙ normal_number_at b m is pure
        | inr held ↦ (normal_is p r l coords two inverses leads s a).pure m is (omega arith)
            ∙ sym ((normal_is p r l coords two inverses leads s b).pure m is (omega arith))
      ])

  pub normal_number-plus :
      (a b : Form) → SameVector p (count (r - 1) s) (numbers (λ m. a m + b m)) (λ i. numbers a i + numbers b i)
  normal_number-plus a b i below =
      let at = insert l (exponents 5 (r - 1) s i) in
      mod-mod (normal_by p r l (slice_index coords) s (λ m. a m + b m) at) p
      ∙ normal-plus p r l coords two inverses leads s a b at (without_monomial r l s i leads.here leads.rank below)
      ∙ add-mod (normal_by p r l (slice_index coords) s a at) (normal_by p r l (slice_index coords) s b at) p

  pub normal_number-times :
      (x : ℕ) (a : Form) → SameVector p (count (r - 1) s) (numbers (λ m. x * a m)) (λ i. x * numbers a i)
  normal_number-times x a i below =
      let at = insert l (exponents 5 (r - 1) s i) in
      let number = normal_by p r l (slice_index coords) s a at in
      mod-mod (normal_by p r l (slice_index coords) s (λ m. x * a m) at) p
      ∙ normal-times p r l coords two inverses leads s x a at (without_monomial r l s i leads.here leads.rank below)
      ∙ same_mul p x x number (number % p) refl (sym (mod-mod number p))
