-- A list that is not unclosed has the root pairs: each of its pairs was made from an earlier one, and which one can be
-- found out.
use Rattle.std.proofs.Common.{◌≡◌, ℕ, zero, suc, ◌-◌, ◌<◌, ◌≤◌, arith, sym, ap, ◌∙◌, subst, inl, inr, ◌⊎◌, pos, ◌*ℤ◌, List, [], ◌∷◌, ◌++◌, length, get_or, length-append}
use Rattle.std.proofs.Math.Path.{fun_ext}
use Rattle.std.proofs.lemmas.Bool.{cases_eq}
use Rattle.std.proofs.lemmas.Int.{ints}
use Rattle.std.proofs.lemmas.List.{get_or_append_left, get_or-append_right}
use Rattle.bmp_math.specs.IntegerSums.{integer_unit}
use Rattle.bmp_math.specs.Lists.{Member}
use Rattle.bmp_math.proofs.IntegerSumLemmas.{unit_off}
use Rattle.bmp_math.proofs.ListLemmas.{member_at, place_of}
use Rattle.bmp_roots.specs.RootPairs.{CartanMatrix, RootPair, pairing, mirrored, simple_pair, IsRootPair, IsZeroPast, AreRootPairs, HasCartanForm, HasFiniteSystem}
use Rattle.bmp_roots.specs.Closing.{simple_pairs, result_at, IsGrown, IsClosed}
use Rattle.bmp_roots.specs.Closing.IsGrown.{start, grown}
use Rattle.bmp_roots.proofs.DecisionLemmas.{Decided, stable, both_decided, either_decided, same_integers, below_decided, within_decided, all_below_decided, some_below_decided, member_decided, stable_once}
use Rattle.bmp_roots.proofs.PairLemmas.{same_pair, simple_is_pair, moved_is_pair}
use Rattle.bmp_roots.proofs.PositiveLemmas.{pair_is_zero_past}
use Rattle.bmp_roots.proofs.ClosingLemmas.{length-simple_pairs, grown_once, grown_within, grown_pairs, grown_small, grown_one_sign, closed_each}

abbrev at : List RootPair → ℕ → RootPair
at list i = get_or list i (simple_pair 0)

last_at : (list : List RootPair) (q : RootPair) (i : ℕ) → i ≡ length list → at (list ++ q ∷ []) i ≡ q
last_at list q i e =
    get_or-append_right list (q ∷ []) i i (simple_pair 0) (sym e) (omega arith)
    ∙ (let none : i - i ≡ 0 = omega arith in ap (λ n. get_or (q ∷ []) n (simple_pair 0)) none)

simple_at : (n i : ℕ) → i < n → at (simple_pairs n) i ≡ simple_pair i
simple_at zero i l = absurd (omega arith)
simple_at (suc n) i l =
    elim (cases_eq i n) [
      | inl e ↦ last_at (simple_pairs n) (simple_pair n) i (e ∙ sym (length-simple_pairs n)) ∙ ap simple_pair (sym e)
      | inr apart ↦ get_or_append_left (simple_pairs n) (simple_pair n ∷ []) (simple_pair 0) i
          (omega (arith, length-simple_pairs n)) ∙ simple_at n i (omega arith)
    ]

-- ---- equality of pairs that are 0 past six places
same_pairs_decided : (q p : RootPair) → IsZeroPast 6 q → IsZeroPast 6 p → Decided (q ≡ p)
same_pairs_decided q p q_past p_past =
    elim (all_below_decided (λ j. (q.root j ≡ p.root j) × (q.coroot j ≡ p.coroot j))
    (λ j. both_decided (same_integers (q.root j) (p.root j)) (same_integers (q.coroot j) (p.coroot j))) 6) [
      | inl all ↦ inl (same_pair q p
          (fun_ext (λ j. elim (below_decided j 6) [
            | inl l ↦ (all j l).0
            | inr out ↦ (q_past j (past j out)).0
                ∙ sym (p_past j (past j out)).0
          ]))
          (fun_ext (λ j. elim (below_decided j 6) [
            | inl l ↦ (all j l).1
            | inr out ↦ (q_past j (past j out)).1
                ∙ sym (p_past j (past j out)).1
          ])))
      | inr bad ↦ inr (λ e. bad (λ j l. (ap (λ (r : RootPair). r.root j) e, ap (λ (r : RootPair). r.coroot j) e)))
    ]
  where
    past : (j : ℕ) → (j < 6 → ⊥) → 6 ≤ j
    past j out = omega (arith, out)

module _ (m : CartanMatrix) (form : HasCartanForm m) where
  zero_past_six : (q : RootPair) → IsRootPair m q → IsZeroPast 6 q
  zero_past_six q h j out = pair_is_zero_past m q h j (omega (arith, form.at_most_six))

  simple_is_zero_past : (k : ℕ) → k < m.rank → IsZeroPast 6 (simple_pair k)
  simple_is_zero_past k l = zero_past_six (simple_pair k) (simple_is_pair m k l)

  moved_is_zero_past : (k : ℕ) → k < m.rank → (q : RootPair) → IsZeroPast 6 q →
      IsZeroPast 6 (mirrored m (simple_pair k) q)
  moved_is_zero_past k l q h j out =
      let none : integer_unit k j ≡ pos 0 = unit_off k j (omega (arith, form.at_most_six)) in
      let before : (q.root j ≡ pos 0) × (q.coroot j ≡ pos 0) = h j out in (
        omega (arith, ints, ap (λ z. pairing m (integer_unit k) q.root *ℤ z) none, before.0),
        omega (arith, ints, ap (λ z. pairing m q.coroot (integer_unit k) *ℤ z) none, before.1),
      )

  -- the pair at place i is the simple pair i, or the result at an earlier place
  abbrev IsReached : List RootPair → ℕ → Type 0
  IsReached list i =
      ((i < m.rank) × (at list i ≡ simple_pair i))
      ⊎ ((p : ℕ) × (p < i) × ((l : ℕ) × (l < m.rank) × (at list i ≡ result_at m list p l)))

  reached : {list : List RootPair} → IsGrown m list → (i : ℕ) → i < length list → IsReached list i
  reached start i l = let inside : i < m.rank = omega (arith, length-simple_pairs m.rank) in
      inl (inside, simple_at m.rank i inside)
  reached (grown {list} q before next small one_sign room) i l =
      elim (cases_eq i (length list)) [
        | inl e ↦ inr (
          next.place,
          omega (arith, next.place_below),
          (
            next.letter,
            next.letter_below,
            last_at list q i e ∙ next.is
                ∙ sym (kept next.place next.letter next.place_below),
          ),
        )
        | inr apart ↦
            let inside : i < length list = omega (arith, length-append list (q ∷ [])) in
            let here : at (list ++ q ∷ []) i ≡ at list i = get_or_append_left list (q ∷ []) (simple_pair 0) i inside in
            elim (reached before i inside) [
              | inl r ↦ inl (r.0, here ∙ r.1)
              | inr r ↦ inr (
                r.0,
                r.1,
                (r.2.0, r.2.1, here ∙ r.2.2 ∙ sym (kept r.0 r.2.0 (let below : r.0 < i = r.1 in omega arith))),
              )
            ]
      ]
    where
      kept : (p k : ℕ) → p < length list → result_at m (list ++ q ∷ []) p k ≡ result_at m list p k
      kept p k inside = ap (mirrored m (simple_pair k)) (get_or_append_left list (q ∷ []) (simple_pair 0) p inside)

  module _ (list : List RootPair) (closed : (IsClosed m list → ⊥) → ⊥) where
    zero_past_at : (i : ℕ) → i < length list → IsZeroPast 6 (at list i)
    zero_past_at i inside j out = (
      stable (same_integers ((at list i).root j) (pos 0))
          (λ never. closed (λ c. never
          (zero_past_six (at list i) (grown_pairs m c.0 (at list i) (member_at list i (simple_pair 0) inside)) j
          out).0)),
      stable (same_integers ((at list i).coroot j) (pos 0))
          (λ never. closed (λ c. never
          (zero_past_six (at list i) (grown_pairs m c.0 (at list i) (member_at list i (simple_pair 0) inside)) j
          out).1)),
    )

    zero_past : (q : RootPair) → Member q list → IsZeroPast 6 q
    zero_past q h =
        let r : (i : ℕ) × (i < length list) × ((d : RootPair) → get_or list i d ≡ q) = place_of q list h in
        subst (IsZeroPast 6) (r.2 (simple_pair 0)) (zero_past_at r.0 r.1)

    reached_at : (i : ℕ) → i < length list → IsReached list i
    reached_at i inside =
        stable
        (either_decided first
        (some_below_decided i (λ p. (l : ℕ) × (l < m.rank) × (at list i ≡ result_at m list p l))
        (λ p before. some_below_decided m.rank (λ l. at list i ≡ result_at m list p l)
        (λ l letter. same_pairs_decided (at list i) (result_at m list p l) (zero_past_at i inside)
        (moved_is_zero_past l letter (at list p) (zero_past_at p (omega arith)))))))
        (λ never. closed (λ c. never (reached c.0 i inside)))
      where
        first : Decided ((i < m.rank) × (at list i ≡ simple_pair i))
        first =
            elim (below_decided i m.rank) [
              | inl l ↦ both_decided (inl l)
                  (same_pairs_decided (at list i) (simple_pair i) (zero_past_at i inside) (simple_is_zero_past i l))
              | inr never ↦ inr (λ h. never h.0)
            ]

    pair_at : (n i : ℕ) → i < n → i < length list → IsRootPair m (at list i)
    pair_at zero i l inside = absurd (omega arith)
    pair_at (suc n) i l inside =
        elim (reached_at i inside) [
          | inl r ↦ subst (IsRootPair m) (sym r.1) (simple_is_pair m i r.0)
          | inr r ↦
              let before : r.0 < i = r.1 in
              subst (IsRootPair m) (sym r.2.2)
              (moved_is_pair m r.2.0 (at list r.0) r.2.1 (pair_at n r.0 (omega arith) (omega arith)))
        ]

    pub root_pairs_are : AreRootPairs m list
    root_pairs_are = record {
      once = stable_once list (λ never. closed (λ c. never (grown_once m c.0)));
      each = λ q h.
          let r : (i : ℕ) × (i < length list) × ((d : RootPair) → get_or list i d ≡ q) = place_of q list h in
          subst (IsRootPair m) (r.2 (simple_pair 0)) (pair_at (suc r.0) r.0 (omega arith) r.1);
      all = λ q h.
          stable (member_decided q list (λ p k. same_pairs_decided q p (zero_past_six q h) (zero_past p k)))
          (λ never. closed (λ c. never (closed_each m list c q h)));
    }

    pub system_is_finite : HasFiniteSystem m
    system_is_finite = record {
      pairs = list;
      at_most_72 = few;
      each_pair = root_pairs_are.all;
      small = λ q h j. (
        stable (within_decided 32 (q.root j))
            (λ never. closed (λ c. never (grown_small m c.0 q (closed_each m list c q h) j).0)),
        stable (within_decided 32 (q.coroot j))
            (λ never. closed (λ c. never (grown_small m c.0 q (closed_each m list c q h) j).1)),
      );
      one_sign = λ q h i j below above. closed (λ c. grown_one_sign m c.0 q (closed_each m list c q h) i j below above);
    }
      where
        few : length list ≤ 72
        few = elim (below_decided (length list) 73) [
          | inl l ↦ omega arith
          | inr never ↦ absurd
              (closed (λ c. never (omega (arith, grown_within m form.at_most_six c.0))))
        ]
