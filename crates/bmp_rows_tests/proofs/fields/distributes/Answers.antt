use Rattle.std.proofs.Common.{◌≡◌, ℕ, ◌+◌, ◌*◌, ◌%◌, refl, arith, sym, ◌∙◌, ap, eq-eqb}
use Rattle.std.proofs.Math.Nat.{mod-mod}
use Rattle.bmp_math.proofs.CongruenceLemmas.{same_mul, reduced_add}
use Rattle.bmp_rows_tests.proofs.fields.distributes.Goals as goal

-- products with a sum, each step reduced
distributed : (p a b c s l m n r : ℕ) → s ≡ (b + c) % p → l ≡ (a * s) % p → m ≡ (a * b) % p → n ≡ (a * c) % p →
    r ≡ (m + n) % p → l ≡ r
distributed p a b c s l m n r s_is l_is m_is n_is r_is =
    let right : r ≡ (a * (b + c)) % p =
    reduced_add p m n (a * b) (a * c) r (a * (b + c)) m_is n_is r_is (omega arith) in
    l_is ∙ same_mul p a a s (b + c) refl (ap (λ z. z % p) s_is ∙ mod-mod (b + c) p) ∙ sym right

pub returns : goal.returns
returns g c =
    let f = c.args.f.now in
    let size = g.F.Field.size f in
    let same = distributed size _ _ _ _ _ _ _ _ c.add.ensures.number c.mul.ensures.number c.mul-2.ensures.number
    c.mul-3.ensures.number c.add-2.ensures.number in
    eq-eqb _ _ (c.num-left.ensures ∙ same ∙ sym c.num-right.ensures)
