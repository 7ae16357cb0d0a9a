-- The residue of an integer is one.
use Rattle.std.proofs.Common.{◌≡◌, ℕ, zero, suc, ◌*◌, ◌<◌, arith, ℤ, pos, negsuc, neg_ℤ, ◌+ℤ◌, ◌-ℤ◌, ◌*ℤ◌}
use Rattle.std.proofs.lemmas.Int.{ints}
use Rattle.bmp_math.proofs.IntegerLemmas.{mul-sub}
use Rattle.bmp_bruhat.specs.Labels.{IsResidue}

-- a multiple of p between -p and p is 0
no_multiple : (p a b : ℕ) (t : ℤ) → a < p → b < p → pos a -ℤ pos b ≡ pos p *ℤ t → a ≡ b
no_multiple p a b (pos zero) la lb e = omega (arith, ints, e)
no_multiple p a b (pos (suc n)) la lb e =
    let whole : pos p *ℤ pos (suc n) ≡ pos p +ℤ pos (p * n) = omega (arith, ints) in
    absurd (omega (arith, ints, e, whole))
no_multiple p a b (negsuc n) la lb e =
    let whole : pos p *ℤ negsuc n ≡ neg_ℤ (pos p +ℤ pos (p * n)) = omega (arith, ints) in
    absurd (omega (arith, ints, e, whole))

-- the residue of an integer is one
pub one_residue : (p : ℕ) (z : ℤ) (a b : ℕ) → IsResidue p z a → IsResidue p z b → a ≡ b
one_residue p z a b (la, (s, first)) (lb, (t, second)) =
    no_multiple p a b (t -ℤ s) la lb (let apart : pos p *ℤ (t -ℤ s) ≡ pos p *ℤ t -ℤ pos p *ℤ s = mul-sub (pos p) t s in
    omega (arith, ints, apart, first, second))
