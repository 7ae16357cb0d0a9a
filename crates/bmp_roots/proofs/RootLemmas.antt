-- The pairing, the reflections of pairs, and root pairs.
use Rattle.std.proofs.Common.{◌≡◌, ℕ, ◌<◌, arith, sym, ap, ◌∙◌, ℤ, pos, ◌-ℤ◌, ◌*ℤ◌}
use Rattle.std.proofs.Math.Path.{fun_ext}
use Rattle.std.proofs.Math.IntN.{*ℤ_comm}
use Rattle.std.proofs.lemmas.Int.{ints}
use Rattle.bmp_math.specs.IntegerSums.{integer_sum, integer_unit}
use Rattle.bmp_roots.specs.RootPairs.{CartanMatrix, entry, Vector, pairing, minus_times, RootPair, across, coacross}
use Rattle.bmp_math.proofs.IntegerLemmas.{mul-sub, sub-mul, mul_assoc, mul_swap}
use Rattle.bmp_math.proofs.IntegerSumLemmas.{integer_sum_same, integer_sum-minus, sum_unit_left, sum_unit_right}

module _ (m : CartanMatrix) where
  -- linear in the root
  pub pairing-minus_right : (c v b : Vector) (t : ℤ) →
      pairing m c (minus_times v t b) ≡ pairing m c v -ℤ t *ℤ pairing m c b
  unfolding pairing
  pairing-minus_right c v b t =
      let row : Vector → ℕ → ℤ = λ x i. integer_sum (λ j. entry m i j *ℤ x j) m.rank in
      let inner : (i : ℕ) → row (minus_times v t b) i ≡ row v i -ℤ t *ℤ row b i =
      λ i. integer_sum_same (λ j. entry m i j *ℤ (v j -ℤ t *ℤ b j))
      (λ j. (entry m i j *ℤ v j) -ℤ t *ℤ (entry m i j *ℤ b j)) m.rank
      (λ j l. mul-sub (entry m i j) (v j) (t *ℤ b j)
      ∙ ap (λ x. (entry m i j *ℤ v j) -ℤ x) (mul_swap (entry m i j) t (b j)))
      ∙ integer_sum-minus (λ j. entry m i j *ℤ v j) (λ j. entry m i j *ℤ b j) t m.rank in
      integer_sum_same (λ i. c i *ℤ row (minus_times v t b) i) (λ i. (c i *ℤ row v i) -ℤ t *ℤ (c i *ℤ row b i)) m.rank
      (λ i l. ap (λ x. c i *ℤ x) (inner i) ∙ mul-sub (c i) (row v i) (t *ℤ row b i)
      ∙ ap (λ x. (c i *ℤ row v i) -ℤ x) (mul_swap (c i) t (row b i)))
      ∙ integer_sum-minus (λ i. c i *ℤ row v i) (λ i. c i *ℤ row b i) t m.rank

  -- linear in the coroot
  pub pairing-minus_left : (d c b : Vector) (t : ℤ) →
      pairing m (minus_times d t c) b ≡ pairing m d b -ℤ t *ℤ pairing m c b
  unfolding pairing
  pairing-minus_left d c b t =
      let row : ℕ → ℤ = λ i. integer_sum (λ j. entry m i j *ℤ b j) m.rank in
      integer_sum_same (λ i. (d i -ℤ t *ℤ c i) *ℤ row i) (λ i. (d i *ℤ row i) -ℤ t *ℤ (c i *ℤ row i)) m.rank
      (λ i l. sub-mul (d i) (t *ℤ c i) (row i) ∙ ap (λ x. (d i *ℤ row i) -ℤ x) (mul_assoc t (c i) (row i)))
      ∙ integer_sum-minus (λ i. d i *ℤ row i) (λ i. c i *ℤ row i) t m.rank

  -- the pairing with a unit vector is a row or a column of the matrix
  pub pairing-unit_left : (k : ℕ) (b : Vector) → k < m.rank →
      pairing m (integer_unit k) b ≡ integer_sum (λ j. entry m k j *ℤ b j) m.rank
  unfolding pairing
  pairing-unit_left k b l = sum_unit_left k m.rank (λ i. integer_sum (λ j. entry m i j *ℤ b j) m.rank) l

  pub pairing-unit_right : (k : ℕ) (c : Vector) → k < m.rank →
      pairing m c (integer_unit k) ≡ integer_sum (λ i. c i *ℤ entry m i k) m.rank
  unfolding pairing
  pairing-unit_right k c l =
      integer_sum_same (λ i. c i *ℤ integer_sum (λ j. entry m i j *ℤ integer_unit k j) m.rank) (λ i. c i *ℤ entry m i k)
      m.rank
      (λ i h. ap (λ x. c i *ℤ x) (sum_unit_right k m.rank (λ j. entry m i j) l))

  pub pairing-units : (i j : ℕ) → i < m.rank → j < m.rank → pairing m (integer_unit i) (integer_unit j) ≡ entry m i j
  pairing-units i j l h = pairing-unit_left i (integer_unit j) l ∙ sum_unit_right j m.rank (λ k. entry m i k) h

  -- twice across is nothing
  pub across-across : (q : RootPair) (v : Vector) → pairing m q.coroot q.root ≡ pos 2 → across m q (across m q v) ≡ v
  across-across q v two = fun_ext (λ j.
      let n : ℤ = pairing m q.coroot v in
      let second : pairing m q.coroot (across m q v) ≡ n -ℤ n *ℤ pairing m q.coroot q.root =
      pairing-minus_right q.coroot v q.root n in
      omega (
        arith,
        ints,
        ap (λ x. x *ℤ q.root j) second,
        sub-mul n (n *ℤ pairing m q.coroot q.root) (q.root j),
        ap (λ x. (n *ℤ x) *ℤ q.root j) two,
        mul_assoc n (pos 2) (q.root j),
        mul_swap n (pos 2) (q.root j),
      ))

  pub coacross-coacross : (q : RootPair) (d : Vector) → pairing m q.coroot q.root ≡ pos 2 →
      coacross m q (coacross m q d) ≡ d
  coacross-coacross q d two = fun_ext (λ j.
      let n : ℤ = pairing m d q.root in
      let second : pairing m (coacross m q d) q.root ≡ n -ℤ n *ℤ pairing m q.coroot q.root =
      pairing-minus_left d q.coroot q.root n in
      omega (
        arith,
        ints,
        ap (λ x. x *ℤ q.coroot j) second,
        sub-mul n (n *ℤ pairing m q.coroot q.root) (q.coroot j),
        ap (λ x. (n *ℤ x) *ℤ q.coroot j) two,
        mul_assoc n (pos 2) (q.coroot j),
        mul_swap n (pos 2) (q.coroot j),
      ))

  -- the two halves are adjoint
  pub coacross_adjoint : (q : RootPair) (d v : Vector) → pairing m (coacross m q d) v ≡ pairing m d (across m q v)
  coacross_adjoint q d v =
      omega (
        arith,
        ints,
        pairing-minus_left d q.coroot v (pairing m d q.root),
        pairing-minus_right d v q.root (pairing m q.coroot v),
        *ℤ_comm (pairing m d q.root) (pairing m q.coroot v),
      )

  pub mirrored_pairing : (q p : RootPair) → pairing m q.coroot q.root ≡ pos 2 →
      pairing m (coacross m q p.coroot) (across m q p.root) ≡ pairing m p.coroot p.root
  mirrored_pairing q p two = coacross_adjoint q p.coroot (across m q p.root)
      ∙ ap (λ x. pairing m p.coroot x) (across-across q p.root two)

  -- what a loop over a row or a column has at its end
  pub row_is_pairing : (k n : ℕ) (b : Vector) (s : ℤ) → k < m.rank → n ≡ m.rank →
      s ≡ integer_sum (λ j. entry m k j *ℤ b j) n → s ≡ pairing m (integer_unit k) b
  row_is_pairing k n b s l e h = h ∙ ap (λ n. integer_sum (λ j. entry m k j *ℤ b j) n) e ∙ sym (pairing-unit_left k b l)

  pub column_is_pairing : (k n : ℕ) (c : Vector) (s : ℤ) → k < m.rank → n ≡ m.rank →
      s ≡ integer_sum (λ i. c i *ℤ entry m i k) n → s ≡ pairing m c (integer_unit k)
  column_is_pairing k n c s l e h = h ∙ ap (λ n. integer_sum (λ i. c i *ℤ entry m i k) n) e
      ∙ sym (pairing-unit_right k c l)
