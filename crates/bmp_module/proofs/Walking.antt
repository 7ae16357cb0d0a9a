-- Block by block: one generator after another.
use Rattle.std.proofs.Common.{◌≡◌, ℕ, suc, ◌+◌, ◌-◌, ◌%◌, ◌<◌, ◌≤◌, cond, ltb, List, [], length, get_or, drop, refl, sym, ap, ◌∙◌, inl, inr, arith}
use Rattle.std.specs.List.{All}
use Rattle.std.proofs.Math.Path.{fun_ext}
use Rattle.std.proofs.Math.Seq.{drop-cons}
use Rattle.std.proofs.lemmas.Bool.{cases_lt, cond-true, cond-false, lt-ltb, le-ltb}
use Rattle.std.proofs.Math.Nat.{mod-eq_of_lt}
use Rattle.bmp_math.specs.Vectors.{SameVector}
use Rattle.bmp_poly.specs.Coefficients.{coefficient}
use Rattle.bmp_graded.specs.Maps.{blockwise}
use Rattle.bmp_graded.proofs.CoordinateLemmas.{coefficient_small}
use Rattle.bmp_graded.proofs.Totals.{total, total_none, total_rest}
use Rattle.bmp_module.specs.Appended.{IsAppended}

blockwise_rest : (n m : ℕ → ℕ) (f : ℕ → (ℕ → ℕ) → ℕ → ℕ) (gs : List ℕ) (k : ℕ) (v : ℕ → ℕ) (j : ℕ) → k < length gs →
    let g = get_or gs k 0 in
    blockwise n m f (drop k gs) v j ≡ cond (ltb j (m g)) (f g v j)
    (blockwise n m f (drop (k + 1) gs) (λ i. v (n g + i)) (j - m g))
unfolding blockwise
blockwise_rest n m f gs k v j inside = let next : k + 1 ≡ suc k = omega arith in rw (next, drop-cons gs k 0 inside) refl

-- the blocks of the first k degrees are done: `out` has their numbers, and `start` is where the next block of v begins
pub record Walked {E : Type 0} (is_value : E → Type 0) (num : E → ℕ) (p : ℕ) (n m : ℕ → ℕ) (f : ℕ → (ℕ → ℕ) → ℕ → ℕ)
    (gs : List ℕ) (v : ℕ → ℕ) (k start : ℕ) (out : List E) : Type 0 where
  pub source : total n gs ≡ start + total n (drop k gs)
  pub target : total m gs ≡ length out + total m (drop k gs)
  pub values : All is_value out
  pub done : (i : ℕ) → i < length out → coefficient num out i ≡ blockwise n m f gs v i % p
  pub left : (i : ℕ) → blockwise n m f gs v (length out + i) ≡ blockwise n m f (drop k gs) (λ j. v (start + j)) i

module _ {E : Type 0} (is_value : E → Type 0) (num : E → ℕ) (p : ℕ) (n m : ℕ → ℕ) (f : ℕ → (ℕ → ℕ) → ℕ → ℕ)
    (gs : List ℕ) (v : ℕ → ℕ) where
  pub walked_start : (out : List E) → out ≡ [] → All is_value out → Walked is_value num p n m f gs v 0 0 out
  walked_start out empty values =
      let none : length out ≡ 0 = ap length empty in
      let shifted : (λ (j : ℕ). v (0 + j)) ≡ v = fun_ext (λ j. let same : 0 + j ≡ j = omega arith in ap v same) in
      record {
        source = omega arith;
        target = omega arith;
        values = values;
        done = λ i l. absurd (omega arith);
        left = λ i. let same : length out + i ≡ i = omega arith in ap (blockwise n m f gs v) same
            ∙ ap (λ w. blockwise n m f gs w i) (sym shifted);
      }

  -- where the next block begins, and what is left with it
  pub walked_inside : (k start : ℕ) (out : List E) → k < length gs → Walked is_value num p n m f gs v k start out →
      start + n (get_or gs k 0) ≤ total n gs
  walked_inside k start out inside h = omega (arith, h.source, total_rest n gs k 0 inside)

  pub walked_more : (k start end g : ℕ) (out new : List E) (h : ℕ → ℕ) → k < length gs → g ≡ get_or gs k 0 →
      end ≡ start + n g → ((a : E) → is_value a → num a < p) → IsAppended is_value num out new (m g) h →
      SameVector p (m g) h (f g (λ i. v (start + i))) → Walked is_value num p n m f gs v k start out →
      Walked is_value num p n m f gs v (k + 1) end new
  walked_more k start end g out new h inside g_is end_is small block same_numbers so_far =
      let sized : length new ≡ length out + m g = block.sized in
      let numbers : (j : ℕ) → j < m g → h j ≡ f g (λ i. v (start + i)) j % p = λ j l.
      let below : coefficient num new (length out + j) < p =
      coefficient_small is_value num p new (length out + j) small block.values (omega arith) in
      let low : h j < p = rw (block.added j l) at below in
      sym (mod-eq_of_lt low) ∙ same_numbers j l in
      let rest : (w : ℕ → ℕ) (j : ℕ) → blockwise n m f (drop k gs) w j ≡ cond (ltb j (m g)) (f g w j)
      (blockwise n m f (drop (k + 1) gs) (λ i. w (n g + i)) (j - m g)) =
      λ w j. rw g_is (blockwise_rest n m f gs k w j inside) in
      let moved : (λ (i : ℕ). v (start + (n g + i))) ≡ (λ (i : ℕ). v (end + i)) =
      fun_ext (λ i. let same : start + (n g + i) ≡ end + i = omega arith in ap v same) in
      record {
        source = let more = total_rest n gs k 0 inside in rw end_is (omega (arith, so_far.source, rw (← g_is) at more));
        target = let more = total_rest m gs k 0 inside in omega (arith, so_far.target, rw (← g_is) at more);
        values = block.values;
        done = λ i l. elim (cases_lt i (length out)) [
          | inl before ↦ block.kept i before ∙ so_far.done i before
          | inr past ↦
              let j = i - length out in
              let here : i - length out < m g = omega arith in
              let i_is : i ≡ length out + (i - length out) = omega arith in
              ap (coefficient num new) i_is ∙ block.added (i - length out) here ∙ numbers (i - length out) here
              ∙ ap (λ z. z % p)
              (sym (ap (blockwise n m f gs v) i_is ∙ so_far.left (i - length out)
              ∙ rest (λ j. v (start + j)) (i - length out)
              ∙ cond-true {A = ℕ} (ltb (i - length out) (m g)) (f g (λ j. v (start + j)) (i - length out))
              (blockwise n m f (drop (k + 1) gs) (λ a. v (start + (n g + a))) ((i - length out) - m g))
              (lt-ltb (i - length out) (m g) here)))
        ];
        left = λ i.
            let there : length new + i ≡ length out + (m g + i) = omega arith in
            let back : (m g + i) - m g ≡ i = omega arith in
            ap (blockwise n m f gs v) there ∙ so_far.left (m g + i) ∙ rest (λ j. v (start + j)) (m g + i)
            ∙ cond-false {A = ℕ} (ltb (m g + i) (m g)) (f g (λ j. v (start + j)) (m g + i))
            (blockwise n m f (drop (k + 1) gs) (λ a. v (start + (n g + a))) ((m g + i) - m g))
            (le-ltb (m g + i) (m g) (omega arith))
            ∙ ap (blockwise n m f (drop (k + 1) gs) (λ a. v (start + (n g + a)))) back
            ∙ ap (λ w. blockwise n m f (drop (k + 1) gs) w i) moved;
      }

  pub walked_end : (k start : ℕ) (out : List E) → length gs ≤ k → Walked is_value num p n m f gs v k start out →
      length out ≡ total m gs
  walked_end k start out past h = omega (arith, h.target, total_none m gs k past)
