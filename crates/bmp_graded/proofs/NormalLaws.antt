-- Making normal forms is linear, and normal forms decide what is congruent by the label.
use Rattle.std.proofs.Common.{ℕ, zero, suc, ◌+◌, ◌*◌, ◌≤◌, List, sym, arith}
use Rattle.std.specs.Prelude.{slice_index}
use Rattle.bmp_math.proofs.CongruenceLemmas.{same_add, mul_zero}
use Rattle.bmp_poly.specs.Forms.{Form, SameForm, Congruent, IsNormalForm}
use Rattle.bmp_poly.specs.Coordinates.{IsLeading}
use Rattle.bmp_poly.proofs.LabelLemmas.{congruent_refl, congruent_sym, congruent_trans, congruent_add, congruent_mul}
use Rattle.bmp_graded.specs.NormalForms.{HasInverses, normal_by}
use Rattle.bmp_graded.proofs.PassLaws.{normal_forms_are_normal, normal_number}

-- both ways, where minus is a factor
congruent_turned : (p r d : ℕ) (c : ℕ → ℕ) (a b : Form) → 2 ≤ p → Congruent p 6 r d c a b → Congruent p 6 r d c b a
congruent_turned zero r d c a b two h = absurd (omega arith)
congruent_turned (suc q) r d c a b two h = congruent_sym q 6 r d c a b h

module _ (p r l : ℕ) (coords : List ℕ) (two : 2 ≤ p) (inverses : HasInverses p) (leads : IsLeading p r l coords)
    (d : ℕ) where
  abbrev pub normal : Form → Form
  normal a = normal_by p r l (slice_index coords) d a

  pub normal_is : (a : Form) → IsNormalForm p 6 r d (slice_index coords) l a (normal a)
  normal_is a = normal_forms_are_normal p r l coords d a two inverses leads

  -- there is only one
  pub is_normal : (a b : Form) → IsNormalForm p 6 r d (slice_index coords) l a b → SameForm p 6 r d (normal a) b
  is_normal a b is m is_m = sym (normal_number p r l coords d a b two inverses leads is m is_m)

  pub normal_congruent : (a b : Form) → Congruent p 6 r d (slice_index coords) a b →
      SameForm p 6 r d (normal a) (normal b)
  normal_congruent a b h =
      is_normal a (normal b)
      (record {
        pure = (normal_is b).pure;
        congruent = congruent_trans p 6 r d (slice_index coords) a b (normal b) h
            (normal_is b).congruent;
      })

  pub congruent_normal : (a b : Form) → SameForm p 6 r d (normal a) (normal b) →
      Congruent p 6 r d (slice_index coords) a b
  congruent_normal a b same =
      congruent_trans p 6 r d (slice_index coords) a (normal a) b (normal_is a).congruent
      (congruent_trans p 6 r d (slice_index coords) (normal a) (normal b) b
      (congruent_refl p 6 r d (slice_index coords) (normal a) (normal b) same)
      (congruent_turned p r d (slice_index coords) b (normal b) two (normal_is b).congruent))

  pub normal-plus : (a b : Form) → SameForm p 6 r d (normal (λ m. a m + b m)) (λ m. normal a m + normal b m)
  normal-plus a b =
      is_normal (λ m. a m + b m) (λ m. normal a m + normal b m)
      (record {
        pure = λ m is held. same_add p (normal a m) 0 (normal b m) 0 ((normal_is a).pure m is held)
            ((normal_is b).pure m is held);
        congruent = congruent_add p 6 r d (slice_index coords) a (normal a) b (normal b) (normal_is a).congruent
            (normal_is b).congruent;
      })

  pub normal-times : (x : ℕ) (a : Form) → SameForm p 6 r d (normal (λ m. x * a m)) (λ m. x * normal a m)
  normal-times x a =
      is_normal (λ m. x * a m) (λ m. x * normal a m)
      (record {
        pure = λ m is held. mul_zero p x (normal a m) ((normal_is a).pure m is held);
        congruent = congruent_mul p 6 r d (slice_index coords) x a (normal a) (normal_is a).congruent;
      })
