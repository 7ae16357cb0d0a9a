use Rattle.std.proofs.Common.{◌≡◌, ◌+◌, ◌*◌, ◌%◌, ◌≤◌, ℕ, arith, inl, inr, sym, ◌∙◌}
use Rattle.std.proofs.Math.Nat.{zero-mod}
use Rattle.std.proofs.lemmas.Bool.{cases_eq}
use Rattle.bmp_field.specs.PrimeLaws.{listed_inverse}
use Rattle.bmp_field.proofs.prime.inverse_modulo.Goals as goal

-- what gives a remainder of 1 is not 0
inverse_positive : (p a m : ℕ) → (a * m) % p ≡ 1 → 1 ≤ m
inverse_positive p a m h =
    elim (cases_eq m 0) [
      | inl none ↦ let product : a * m ≡ 0 = rw none (omega arith) in
          absurd (let bad : 0 ≡ 1 = sym (zero-mod p) ∙ (rw product at h) in omega arith)
      | inr some ↦ omega arith
    ]

-- the next number is not past an inverse either, where this one is none
still_below : (p a b m : ℕ) → (a * m) % p ≡ 1 → b ≤ m → ((a * b) % p ≡ 1 → ⊥) → b + 1 ≤ m
still_below p a b m h le other =
    elim (cases_eq b m) [
      | inl same ↦ absurd (other (rw same h))
      | inr apart ↦ omega arith
    ]

-- the product as the code computes it
same_remainder : (x y z a b p : ℕ) → x ≡ a → y ≡ b → z ≡ p → (a * b) % p ≡ 1 → (x * y) % z ≡ 1
same_remainder x y z a b p e f g h = cc

pub loop-b-init : goal.loop-b-init
loop-b-init c =
    let m = listed_inverse c.args.p c.requires.listed c.args.a c.requires.below c.requires.not_zero in
    (m.0, m.1, m.2, inverse_positive c.args.p c.args.a m.0 m.2)

pub loop-b-preserved : goal.loop-b-preserved
loop-b-preserved c =
    let m = c.loop-b.invariant in
    let other : (c.args.a * c.loop-b.b) % c.args.p ≡ 1 → ⊥ =
    λ e. c.loop-b-test.true
    (same_remainder _ _ _ c.args.a c.loop-b.b c.args.p c.from.ensures c.from-in-loop-b.ensures
    c.from-in-loop-b-2.ensures e) in
    (m.0, m.1, m.2, still_below c.args.p c.args.a c.loop-b.b m.0 m.2 m.3 other)
