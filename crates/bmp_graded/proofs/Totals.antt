-- Sums over the members of a list, one after another.
use Rattle.std.proofs.Common.{◌≡◌, ℕ, zero, suc, ◌+◌, ◌*◌, ◌<◌, ◌≤◌, List, [], ◌∷◌, length, get_or, take, drop, refl, ap, inl, inr, arith}
use Rattle.std.proofs.lemmas.Bool.{cases_eq}
use Rattle.std.proofs.Math.Seq.{drop-cons}
use Rattle.std.proofs.Math.ListN.{drop_of_length-le}

pub none_times : (x : ℕ) → 0 * x ≡ 0
none_times x = omega arith

pub one_times : (x : ℕ) → 1 * x ≡ x
one_times x = omega arith

-- n g for each of the members g, in all
unfoldable pub total : {X : Type 0} → (X → ℕ) → List X → ℕ
total n [] = 0
total n (g ∷ gs) = n g + total n gs

module _ {X : Type 0} (n : X → ℕ) where
  pub total_none : (gs : List X) (k : ℕ) → length gs ≤ k → total n (drop k gs) ≡ 0
  unfolding total
  total_none gs k past = rw (drop_of_length-le gs past) refl

  pub total_rest : (gs : List X) (k : ℕ) (x : X) → k < length gs →
      total n (drop k gs) ≡ n (get_or gs k x) + total n (drop (k + 1) gs)
  unfolding total
  total_rest gs k x inside = let next : k + 1 ≡ suc k = omega arith in rw (next, drop-cons gs k x inside) refl

  -- one more of the members is counted
  pub total_step : (gs xs : List X) (k all sum : ℕ) (x : X) → xs ≡ gs → k < length xs →
      all ≡ sum + total n (drop k gs) → all ≡ (sum + n (get_or xs k x)) + total n (drop (k + 1) gs)
  total_step gs xs k all sum x same inside so_far =
      let here : k < length gs = rw (← same) inside in
      rw same (omega (arith, so_far, total_rest gs k x here))

  pub total_end : (gs xs : List X) (k all sum : ℕ) → xs ≡ gs → length xs ≤ k → all ≡ sum + total n (drop k gs) →
      sum ≡ all
  total_end gs xs k all sum same past so_far = omega (arith, so_far, total_none gs k (rw (← same) past))

  pub total_taken : (gs : List X) (k : ℕ) (x : X) → k < length gs →
      total n (take (k + 1) gs) ≡ total n (take k gs) + n (get_or gs k x)
  unfolding total
  total_taken [] k x inside = absurd (let none : k < 0 = inside in omega arith)
  total_taken (g ∷ gs) zero x inside = omega arith
  total_taken (g ∷ gs) (suc k) x inside =
      let below : suc k < suc (length gs) = inside in
      let next : suc k + 1 ≡ suc (k + 1) = omega arith in
      rw next (omega (arith, total_taken gs k x (omega arith)))

  -- the members from a on, below b
  pub total_apart : (gs : List X) (a b : ℕ) (x : X) → a < b → b ≤ length gs →
      total n (take a gs) + n (get_or gs a x) ≤ total n (take b gs)
  total_apart gs a zero x before inside = absurd (omega arith)
  total_apart gs a (suc b) x before inside =
      let next : suc b ≡ b + 1 = omega arith in
      let more : total n (take (suc b) gs) ≡ total n (take b gs) + n (get_or gs b x) =
      rw next (total_taken gs b x (omega arith)) in
      elim (cases_eq a b) [
        | inl same ↦ rw same (omega (arith, more))
        | inr other ↦ omega (arith, more, total_apart gs a b x (omega arith) (omega arith))
      ]

  pub total_front : (gs : List X) → total n (take (length gs) gs) ≡ total n gs
  unfolding total
  total_front [] = refl
  total_front (g ∷ gs) = ap (λ z. n g + z) (total_front gs)

  pub total_small : (b : ℕ) (gs : List X) → ((g : X) → n g ≤ b) → total n gs ≤ b * length gs
  unfolding total
  total_small b [] small = omega arith
  total_small b (g ∷ gs) small = let size : b * suc (length gs) ≡ b + b * length gs = omega arith in
      rw size (omega (arith, small g, total_small b gs small))
