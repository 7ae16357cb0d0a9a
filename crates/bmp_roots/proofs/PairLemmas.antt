-- Root pairs: the least set, the value two, primitive roots, reflections, one coroot.
use Rattle.std.proofs.Common.{◌≡◌, ℕ, zero, suc, ◌*◌, ◌<◌, ◌≤◌, arith, refl, sym, ap, ap₂, ◌∙◌, subst, ℤ, pos, negsuc, neg_ℤ, ◌+ℤ◌, ◌-ℤ◌, ◌*ℤ◌, List, [], ◌∷◌}
use Rattle.std.proofs.Math.Path.{fun_ext}
use Rattle.std.proofs.Math.Nat.{mul-le-mul_left}
use Rattle.std.proofs.lemmas.Int.{ints}
use Rattle.std.proofs.lemmas.List.Elements.{All-nil, All-cons, All-head, All-tail}
use Rattle.std.specs.List.{All}
use Rattle.bmp_math.specs.Integers.{IsWithin, Divides}
use Rattle.bmp_math.specs.IntegerSums.{integer_sum, integer_unit}
use Rattle.bmp_roots.specs.RootPairs.{CartanMatrix, entry, Vector, pairing, minus_times, RootPair, across, coacross, mirrored, simple_pair, walk, IsRootPair, HasCartanForm, HasFiniteSystem}
use Rattle.bmp_math.proofs.IntegerLemmas.{mul-add, add-mul, mul-sub, sub-mul, mul_assoc, mul_swap}
use Rattle.bmp_math.proofs.IntegerSumLemmas.{unit_at}
use Rattle.bmp_roots.proofs.RootLemmas.{pairing-minus_right, pairing-minus_left, pairing-units, across-across, coacross-coacross, coacross_adjoint, mirrored_pairing}

pub same_pair : (p q : RootPair) → p.root ≡ q.root → p.coroot ≡ q.coroot → p ≡ q
same_pair p q e h = ap₂ (λ x y. let r : RootPair = record { root = x; coroot = y } in r) e h

-- ---- divisibility
no_unit : (n : ℕ) (t : ℤ) → 2 ≤ n → pos n *ℤ t ≡ pos 1 → ⊥
no_unit n (pos zero) h e = absurd (omega (arith, ints))
no_unit n (pos (suc t)) h e = let one : 1 ≤ suc t = omega arith in absurd (omega (arith, ints, mul-le-mul_left n one))
no_unit n (negsuc t) h e = absurd (omega (arith, ints))

divides-sum : (n : ℕ) (f : ℕ → ℤ) (k : ℕ) → ((i : ℕ) → i < k → Divides n (f i)) → Divides n (integer_sum f k)
unfolding integer_sum
divides-sum n f zero h = (pos 0, omega (arith, ints))
divides-sum n f (suc k) h =
    let before : Divides n (integer_sum f k) = divides-sum n f k (λ i l. h i (omega arith)) in
    let last : Divides n (f k) = h k (omega arith) in
    (before.0 +ℤ last.0, ap₂ (λ x y. x +ℤ y) before.1 last.1 ∙ sym (mul-add (pos n) before.0 last.0))

divides-mul : (n : ℕ) (c z : ℤ) → Divides n z → Divides n (c *ℤ z)
divides-mul n c z (t, e) = (c *ℤ t, ap (λ x. c *ℤ x) e ∙ mul_swap c (pos n) t)

divides-minus_times : (n : ℕ) (v b : Vector) (t : ℤ) (j : ℕ) → Divides n (v j) → Divides n (b j) →
    Divides n (minus_times v t b j)
divides-minus_times n v b t j (x, e) (y, h) = (
  x -ℤ t *ℤ y,
  ap₂ (λ p q. p -ℤ t *ℤ q) e h ∙ ap (λ z. (pos n *ℤ x) -ℤ z) (mul_swap t (pos n) y)
      ∙ sym (mul-sub (pos n) x (t *ℤ y)),
)

module _ (m : CartanMatrix) where
  pub simple_is_pair : (k : ℕ) → k < m.rank → IsRootPair m (simple_pair k)
  simple_is_pair k l =
      record { word = []; letters = All-nil (λ k. k < m.rank); first = k; first_below = l; reached = refl }

  pub moved_is_pair : (k : ℕ) (q : RootPair) → k < m.rank → IsRootPair m q → IsRootPair m (mirrored m (simple_pair k) q)
  moved_is_pair k q l h = record {
    word = k ∷ h.word;
    letters = All-cons (λ k. k < m.rank) k h.word l h.letters;
    first = h.first;
    first_below = h.first_below;
    reached = ap (mirrored m (simple_pair k)) h.reached;
  }

  least_walk : (P : RootPair → Type 0) → ((k : ℕ) → k < m.rank → P (simple_pair k)) →
      ((k : ℕ) (q : RootPair) → k < m.rank → P q → P (mirrored m (simple_pair k) q))
      → (word : List ℕ) → All (λ k. k < m.rank) word → (first : ℕ) → first < m.rank →
      P (walk m word (simple_pair first))
  least_walk P start step [] letters first l = start first l
  least_walk P start step (k ∷ word) letters first l =
      step k (walk m word (simple_pair first)) (All-head (λ k. k < m.rank) k word letters)
      (least_walk P start step word (All-tail (λ k. k < m.rank) k word letters) first l)

  -- the root pairs are the least set with these two
  pub least : (P : RootPair → Type 0) → ((k : ℕ) → k < m.rank → P (simple_pair k)) →
      ((k : ℕ) (q : RootPair) → k < m.rank → P q → P (mirrored m (simple_pair k) q))
      → (q : RootPair) → IsRootPair m q → P q
  least P start step q h = subst P h.reached (least_walk P start step h.word h.letters h.first h.first_below)

  divides-pairing : (n : ℕ) (c v : Vector) → ((j : ℕ) → j < m.rank → Divides n (v j)) → Divides n (pairing m c v)
  unfolding pairing
  divides-pairing n c v all =
      divides-sum n (λ i. c i *ℤ integer_sum (λ j. entry m i j *ℤ v j) m.rank) m.rank (λ i l.
      divides-mul n (c i) (integer_sum (λ j. entry m i j *ℤ v j) m.rank)
      (divides-sum n (λ j. entry m i j *ℤ v j) m.rank (λ j h. divides-mul n (entry m i j) (v j) (all j h))))

  divides-minus_root : (n : ℕ) (v : Vector) (k j : ℕ) → Divides n (v j) → Divides n (pairing m (integer_unit k) v) →
      Divides n (across m (simple_pair k) v j)
  divides-minus_root n v k j (x, e) (y, h) = (
    x -ℤ y *ℤ integer_unit k j,
    ap₂ (λ p t. p -ℤ t *ℤ integer_unit k j) e h
        ∙ ap (λ z. (pos n *ℤ x) -ℤ z) (mul_assoc (pos n) y (integer_unit k j))
        ∙ sym (mul-sub (pos n) x (y *ℤ integer_unit k j)),
  )

  module _ (form : HasCartanForm m) where
    pub simple_two : (k : ℕ) → k < m.rank → pairing m (integer_unit k) (integer_unit k) ≡ pos 2
    simple_two k l = pairing-units m k k l l ∙ form.diagonal k l

    pub pair_two : (q : RootPair) → IsRootPair m q → pairing m q.coroot q.root ≡ pos 2
    pair_two = least (λ q. pairing m q.coroot q.root ≡ pos 2) simple_two
        (λ k q l h. mirrored_pairing m (simple_pair k) q (simple_two k l) ∙ h)

    pub mirrored_mirrored : (s q p : RootPair) → pairing m s.coroot s.root ≡ pos 2
        → mirrored m (mirrored m s q) p ≡ mirrored m s (mirrored m q (mirrored m s p))
    mirrored_mirrored s q p two =
        same_pair (mirrored m (mirrored m s q) p) (mirrored m s (mirrored m q (mirrored m s p)))
        (fun_ext (λ j.
        let w : Vector = across m s p.root in
        let n : ℤ = pairing m q.coroot w in
        let f : ℤ = pairing m s.coroot q.root in
        let same : pairing m (coacross m s q.coroot) p.root ≡ n = coacross_adjoint m s q.coroot p.root in
        let back : across m s w j ≡ p.root j = ap (λ v. v j) (across-across m s p.root two) in
        let split : pairing m s.coroot (minus_times w n q.root) ≡ pairing m s.coroot w -ℤ n *ℤ f =
        pairing-minus_right m s.coroot w q.root n in
        omega (
          arith,
          ints,
          ap (λ x. x *ℤ (q.root j -ℤ f *ℤ s.root j)) same,
          ap (λ x. x *ℤ s.root j) split,
          back,
          mul-sub n (q.root j) (f *ℤ s.root j),
          sub-mul (pairing m s.coroot w) (n *ℤ f) (s.root j),
          mul_assoc n f (s.root j),
        )))
        (fun_ext (λ j.
        let w : Vector = coacross m s p.coroot in
        let n : ℤ = pairing m w q.root in
        let f : ℤ = pairing m q.coroot s.root in
        let same : pairing m p.coroot (across m s q.root) ≡ n = sym (coacross_adjoint m s p.coroot q.root) in
        let back : coacross m s w j ≡ p.coroot j = ap (λ v. v j) (coacross-coacross m s p.coroot two) in
        let split : pairing m (minus_times w n q.coroot) s.root ≡ pairing m w s.root -ℤ n *ℤ f =
        pairing-minus_left m w q.coroot s.root n in
        omega (
          arith,
          ints,
          ap (λ x. x *ℤ (q.coroot j -ℤ f *ℤ s.coroot j)) same,
          ap (λ x. x *ℤ s.coroot j) split,
          back,
          mul-sub n (q.coroot j) (f *ℤ s.coroot j),
          sub-mul (pairing m w s.root) (n *ℤ f) (s.coroot j),
          mul_assoc n f (s.coroot j),
        )))

    -- the reflection of a pair sends pairs to pairs
    pub mirrored_is_pair : (q : RootPair) → IsRootPair m q → (p : RootPair) → IsRootPair m p →
        IsRootPair m (mirrored m q p)
    mirrored_is_pair = least (λ q. (p : RootPair) → IsRootPair m p → IsRootPair m (mirrored m q p))
        (λ k l p h. moved_is_pair k p l h)
        (λ k q l before p h.
        subst (IsRootPair m) (sym (mirrored_mirrored (simple_pair k) q p (simple_two k l)))
        (moved_is_pair k (mirrored m q (mirrored m (simple_pair k) p)) l
        (before (mirrored m (simple_pair k) p) (moved_is_pair k p l h))))

    pub negative_is_pair : (q : RootPair) → IsRootPair m q →
        IsRootPair m (record { root = λ j. neg_ℤ (q.root j); coroot = λ j. neg_ℤ (q.coroot j) })
    negative_is_pair q h =
        let two : pairing m q.coroot q.root ≡ pos 2 = pair_two q h in
        subst (IsRootPair m)
        (same_pair (mirrored m q q) (record { root = λ j. neg_ℤ (q.root j); coroot = λ j. neg_ℤ (q.coroot j) })
        (fun_ext (λ j. omega (arith, ints, ap (λ x. x *ℤ q.root j) two)))
        (fun_ext (λ j. omega (arith, ints, ap (λ x. x *ℤ q.coroot j) two))))
        (mirrored_is_pair q h q h)

    -- ---- a root has one coroot
    -- the coroot moves by twice the difference at each turn
    shifted : (n : ℕ) (q p : RootPair) → IsRootPair m q → IsRootPair m p → q.root ≡ p.root
        → (x : Vector) × IsRootPair m (record { root = q.root; coroot = x }) ×
        ((j : ℕ) → x j ≡ q.coroot j -ℤ pos (2 * n) *ℤ (p.coroot j -ℤ q.coroot j))
    shifted zero q p h k e = (q.coroot, h, λ j. omega (arith, ints))
    shifted (suc n) q p h k e =
        let r : (x : Vector) × IsRootPair m (record { root = q.root; coroot = x }) ×
        ((j : ℕ) → x j ≡ q.coroot j -ℤ pos (2 * n) *ℤ (p.coroot j -ℤ q.coroot j)) = shifted n q p h k e in
        let at : RootPair = record { root = q.root; coroot = r.0 } in
        let next : Vector = λ j. r.0 j -ℤ pos 2 *ℤ (p.coroot j -ℤ q.coroot j) in
        let turned : RootPair = mirrored m q (mirrored m p at) in
        let q_two : pairing m q.coroot q.root ≡ pos 2 = pair_two q h in
        let p_two : pairing m p.coroot q.root ≡ pos 2 = ap (λ v. pairing m p.coroot v) e ∙ pair_two p k in
        let at_two : pairing m r.0 q.root ≡ pos 2 = pair_two at r.1 in
        let at_p : pairing m r.0 p.root ≡ pos 2 = ap (λ v. pairing m r.0 v) (sym e) ∙ at_two in
        let first : pairing m q.coroot (across m p q.root) ≡ pairing m q.coroot q.root -ℤ pairing m p.coroot q.root *ℤ
        pairing m q.coroot p.root =
        pairing-minus_right m q.coroot q.root p.root (pairing m p.coroot q.root) in
        let q_on_p : pairing m q.coroot p.root ≡ pos 2 = ap (λ v. pairing m q.coroot v) (sym e) ∙ q_two in
        let first_is : pairing m q.coroot (across m p q.root) ≡ negsuc 1 =
        omega (arith, ints, first, q_two, ap (λ x. x *ℤ pairing m q.coroot p.root) p_two, q_on_p) in
        let second : pairing m (coacross m p r.0) q.root ≡ pairing m r.0 q.root -ℤ pairing m r.0 p.root *ℤ pairing m
        p.coroot q.root =
        pairing-minus_left m r.0 p.coroot q.root (pairing m r.0 p.root) in
        let second_is : pairing m (coacross m p r.0) q.root ≡ negsuc 1 =
        omega (arith, ints, second, at_two, ap (λ x. x *ℤ pairing m p.coroot q.root) at_p, p_two) in
        let same : turned ≡ record { root = q.root; coroot = next } =
        same_pair turned (record { root = q.root; coroot = next })
        (fun_ext (λ j. omega (
          arith,
          ints,
          ap (λ x. x *ℤ q.root j) first_is,
          ap (λ x. x *ℤ p.root j) p_two,
          ap (λ v. v j) e,
        )))
        (fun_ext (λ j. omega (arith, ints, ap (λ x. x *ℤ q.coroot j) second_is, ap (λ x. x *ℤ p.coroot j) at_p))) in (
          next,
          subst (IsRootPair m) same (mirrored_is_pair q h (mirrored m p at) (mirrored_is_pair p k at r.1)),
          λ j. let more : pos (2 * suc n) *ℤ (p.coroot j -ℤ q.coroot j) ≡ pos (2 * n) *ℤ (p.coroot j -ℤ q.coroot j) +ℤ
              pos 2 *ℤ (p.coroot j -ℤ q.coroot j) =
              let sum : pos (2 * suc n) ≡ pos (2 * n) +ℤ pos 2 = omega (arith, ints) in
              ap (λ x. x *ℤ (p.coroot j -ℤ q.coroot j)) sum
              ∙ add-mul (pos (2 * n)) (pos 2) (p.coroot j -ℤ q.coroot j) in
              omega (arith, ints, r.2 j, more),
        )

    pub one_coroot : HasFiniteSystem m → (q p : RootPair) → IsRootPair m q → IsRootPair m p → q.root ≡ p.root →
        q.coroot ≡ p.coroot
    one_coroot finite q p h k e = fun_ext (λ j.
        let r : (x : Vector) × IsRootPair m (record { root = q.root; coroot = x }) ×
        ((j : ℕ) → x j ≡ q.coroot j -ℤ pos (2 * 33) *ℤ (p.coroot j -ℤ q.coroot j)) = shifted 33 q p h k e in
        let far : IsWithin 32 (r.0 j) = (finite.small (record { root = q.root; coroot = r.0 }) r.1 j).1 in
        let near : IsWithin 32 (q.coroot j) = (finite.small q h j).1 in
        omega (arith, ints, r.2 j))

    -- no number from 2 on divides a whole root
    pub primitive_root : (n : ℕ) → 2 ≤ n → (q : RootPair) → IsRootPair m q →
        ((j : ℕ) → j < m.rank → Divides n (q.root j)) → ⊥
    primitive_root n big = least (λ q. ((j : ℕ) → j < m.rank → Divides n (q.root j)) → ⊥)
        (λ k l all. let d : Divides n (integer_unit k k) = all k l in no_unit n d.0 big (sym d.1 ∙ unit_at k))
        (λ k q l before all. before (λ j h.
        let moved : Vector = across m (simple_pair k) q.root in
        subst (λ v. Divides n (v j)) (across-across m (simple_pair k) q.root (simple_two k l))
        (divides-minus_root n moved k j (all j h) (divides-pairing n (integer_unit k) moved all))))
