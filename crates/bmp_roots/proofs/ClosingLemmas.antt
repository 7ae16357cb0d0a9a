-- The list of root pairs: what each state keeps, and what its ends mean.
use Rattle.std.proofs.Common.{◌≡◌, ℕ, zero, suc, ◌+◌, ◌<◌, ◌≤◌, arith, refl, sym, ap, ◌∙◌, subst, inl, inr, pos, List, [], ◌∷◌, ◌++◌, length, get_or, length-append}
use Rattle.std.proofs.lemmas.Bool.{cases_eq}
use Rattle.std.proofs.lemmas.Int.{ints}
use Rattle.std.proofs.lemmas.List.{get_or_append_left}
use Rattle.bmp_math.specs.Lists.{Member, HasEachOnce}
use Rattle.bmp_math.specs.IntegerSums.{integer_unit}
use Rattle.bmp_roots.specs.RootPairs.{CartanMatrix, RootPair, mirrored, simple_pair, IsRootPair, IsSmall, HasOneSign, HasFiniteSystem}
use Rattle.bmp_roots.specs.Closing.{simple_pairs, result_at, HasResultsBefore, IsNext, IsGrown, IsClosed}
use Rattle.bmp_roots.specs.Closing.IsGrown.{start, grown}
use Rattle.bmp_math.proofs.IntegerSumLemmas.{unit_at, unit_off}
use Rattle.bmp_roots.proofs.PairLemmas.{least, simple_is_pair, moved_is_pair}
use Rattle.bmp_math.proofs.ListLemmas.{member-left, member-last, member-split, once-push, member_at, place_of, length_within}

pub length-simple_pairs : (n : ℕ) → length (simple_pairs n) ≡ n
length-simple_pairs zero = refl
length-simple_pairs (suc n) = omega (arith, length-append (simple_pairs n) (simple_pair n ∷ []), length-simple_pairs n)

simple_member : (n : ℕ) (q : RootPair) → Member q (simple_pairs n) → (k : ℕ) × (k < n) × (q ≡ simple_pair k)
simple_member zero q h = absurd h
simple_member (suc n) q h =
    elim (member-split q (simple_pair n) (simple_pairs n) h) [
      | inl k ↦ let r : (k : ℕ) × (k < n) × (q ≡ simple_pair k) = simple_member n q k in (r.0, omega (arith, r.1), r.2)
      | inr e ↦ (n, omega arith, e)
    ]

member_simple : (n k : ℕ) → k < n → Member (simple_pair k) (simple_pairs n)
member_simple zero k l = absurd (omega arith)
member_simple (suc n) k l =
    elim (cases_eq k n) [
      | inl e ↦ subst (λ j. Member (simple_pair j) (simple_pairs n ++ simple_pair n ∷ [])) (sym e)
          (member-last (simple_pair n) (simple_pairs n))
      | inr apart ↦ member-left (simple_pair k) (simple_pairs n) (simple_pair n ∷ []) (member_simple n k (omega arith))
    ]

units_apart : (k n : ℕ) → k < n → simple_pair n ≡ simple_pair k → ⊥
units_apart k n l e =
    let same : integer_unit n n ≡ integer_unit k n = ap (λ (q : RootPair). q.root n) e in
    let one : integer_unit n n ≡ pos 1 = unit_at n in
    let none : integer_unit k n ≡ pos 0 = unit_off k n (omega arith) in
    absurd (omega (arith, ints))

simple_once : (n : ℕ) → HasEachOnce (simple_pairs n)
simple_once zero = tt
simple_once (suc n) = once-push (simple_pairs n) (simple_pair n) (simple_once n)
    (λ h. let r : (k : ℕ) × (k < n) × (simple_pair n ≡ simple_pair k) = simple_member n (simple_pair n) h in
    units_apart r.0 n r.1 r.2)

pub simple_small : (k : ℕ) → IsSmall (simple_pair k)
simple_small k j =
    elim (cases_eq j k) [
      | inl e ↦ let one : integer_unit k j ≡ pos 1 = ap (λ i. integer_unit k i) e ∙ unit_at k in
          ((omega (arith, ints), omega (arith, ints)), (omega (arith, ints), omega (arith, ints)))
      | inr apart ↦ let none : integer_unit k j ≡ pos 0 = unit_off k j apart in
          ((omega (arith, ints), omega (arith, ints)), (omega (arith, ints), omega (arith, ints)))
    ]

simple_one_sign : (k : ℕ) → HasOneSign (simple_pair k)
simple_one_sign k i j below above =
    elim (cases_eq i k) [
      | inl e ↦ let one : integer_unit k i ≡ pos 1 = ap (λ j. integer_unit k j) e ∙ unit_at k in
          absurd (omega (arith, ints))
      | inr apart ↦ let none : integer_unit k i ≡ pos 0 = unit_off k i apart in absurd (omega (arith, ints))
    ]

module _ (m : CartanMatrix) where
  pub grown_once : {list : List RootPair} → IsGrown m list → HasEachOnce list
  grown_once start = simple_once m.rank
  grown_once (grown {list} q before next small one_sign room) = once-push list q (grown_once before) next.fresh

  pub grown_within : m.rank ≤ 6 → {list : List RootPair} → IsGrown m list → length list ≤ 72
  grown_within rank start = omega (arith, length-simple_pairs m.rank)
  grown_within rank (grown {list} q before next small one_sign room) = omega (arith, length-append list (q ∷ []))

  pub grown_rank : {list : List RootPair} → IsGrown m list → m.rank ≤ length list
  grown_rank start = omega (arith, length-simple_pairs m.rank)
  grown_rank (grown {list} q before next small one_sign room) =
      omega (arith, length-append list (q ∷ []), grown_rank before)

  pub grown_simple : {list : List RootPair} → IsGrown m list → (k : ℕ) → k < m.rank → Member (simple_pair k) list
  grown_simple start k l = member_simple m.rank k l
  grown_simple (grown {list} q before next small one_sign room) k l =
      member-left (simple_pair k) list (q ∷ []) (grown_simple before k l)

  pub grown_pairs : {list : List RootPair} → IsGrown m list → (q : RootPair) → Member q list → IsRootPair m q
  grown_pairs start p h =
      let r : (k : ℕ) × (k < m.rank) × (p ≡ simple_pair k) = simple_member m.rank p h in
      subst (IsRootPair m) (sym r.2) (simple_is_pair m r.0 r.1)
  grown_pairs (grown {list} q before next small one_sign room) p h =
      elim (member-split p q list h) [
        | inl k ↦ grown_pairs before p k
        | inr e ↦
            let at : RootPair = get_or list next.place (simple_pair 0) in
            subst (IsRootPair m) (sym (e ∙ next.is))
            (moved_is_pair m next.letter at next.letter_below
            (grown_pairs before at (member_at list next.place (simple_pair 0) next.place_below)))
      ]

  pub grown_small : {list : List RootPair} → IsGrown m list → (q : RootPair) → Member q list → IsSmall q
  grown_small start p h =
      let r : (k : ℕ) × (k < m.rank) × (p ≡ simple_pair k) = simple_member m.rank p h in
      subst IsSmall (sym r.2) (simple_small r.0)
  grown_small (grown {list} q before next small one_sign room) p h =
      elim (member-split p q list h) [ inl k ↦ grown_small before p k | inr e ↦ subst IsSmall (sym e) small ]

  pub grown_one_sign : {list : List RootPair} → IsGrown m list → (q : RootPair) → Member q list → HasOneSign q
  grown_one_sign start p h =
      let r : (k : ℕ) × (k < m.rank) × (p ≡ simple_pair k) = simple_member m.rank p h in
      subst HasOneSign (sym r.2) (simple_one_sign r.0)
  grown_one_sign (grown {list} q before next small one_sign room) p h =
      elim (member-split p q list h) [ inl k ↦ grown_one_sign before p k | inr e ↦ subst HasOneSign (sym e) one_sign ]

  pub next_is_pair : {list : List RootPair} (q : RootPair) → IsGrown m list → IsNext m list q → IsRootPair m q
  next_is_pair {list} q h next =
      let at : RootPair = get_or list next.place (simple_pair 0) in
      subst (IsRootPair m) (sym next.is)
      (moved_is_pair m next.letter at next.letter_below
      (grown_pairs h at (member_at list next.place (simple_pair 0) next.place_below)))

  -- a closed list holds the pairs and no others
  pub closed_each : (list : List RootPair) → IsClosed m list → (q : RootPair) → IsRootPair m q → Member q list
  closed_each list (h, done) = least m (λ q. Member q list) (λ k l. grown_simple h k l)
      (λ k q l held.
      let r : (i : ℕ) × (i < length list) × ((d : RootPair) → get_or list i d ≡ q) = place_of q list held in
      subst (λ p. Member (mirrored m (simple_pair k) p) list) (r.2 (simple_pair 0)) (done r.0 k r.1 l (inl r.1)))

  pub closed_is_finite : m.rank ≤ 6 → (list : List RootPair) → IsClosed m list → HasFiniteSystem m
  closed_is_finite rank list closed = record {
    pairs = list;
    at_most_72 = grown_within rank closed.0;
    each_pair = closed_each list closed;
    small = λ q h. grown_small closed.0 q (closed_each list closed q h);
    one_sign = λ q h. grown_one_sign closed.0 q (closed_each list closed q h);
  }

  -- each refusal is right
  pub refused_small : (list : List RootPair) (q : RootPair) → IsGrown m list → IsNext m list q → (IsSmall q → ⊥) →
      HasFiniteSystem m → ⊥
  refused_small list q h next bad finite = bad (finite.small q (next_is_pair q h next))

  pub refused_sign : (list : List RootPair) (q : RootPair) → IsGrown m list → IsNext m list q → (HasOneSign q → ⊥) →
      HasFiniteSystem m → ⊥
  refused_sign list q h next bad finite = bad (finite.one_sign q (next_is_pair q h next))

  pub refused_pairs : (list : List RootPair) (q : RootPair) → IsGrown m list → IsNext m list q → length list ≡ 72 →
      HasFiniteSystem m → ⊥
  refused_pairs list q h next full finite =
      let held : (p : RootPair) → Member p (list ++ q ∷ []) → Member p finite.pairs =
      λ p k. finite.each_pair p
      (elim (member-split p q list k)
      [ inl l ↦ grown_pairs h p l | inr e ↦ subst (IsRootPair m) (sym e) (next_is_pair q h next) ]) in
      absurd (omega (
        arith,
        length_within (list ++ q ∷ []) finite.pairs (once-push list q (grown_once h) next.fresh) held,
        length-append list (q ∷ []),
        finite.at_most_72,
      ))

  -- ---- the steps of the loops
  pub results_kept : (list : List RootPair) (q : RootPair) (i k : ℕ) → i < length list → HasResultsBefore m list i k →
      Member (result_at m list i k) (list ++ q ∷ [])
      → HasResultsBefore m (list ++ q ∷ []) i (k + 1)
  results_kept list q i k below before here p l in_list letter earlier =
      let inside : p < length list = elim earlier [ inl h ↦ omega arith | inr h ↦ omega (arith, h.0) ] in
      subst (λ r. Member (mirrored m (simple_pair l) r) (list ++ q ∷ []))
      (sym (get_or_append_left list (q ∷ []) (simple_pair 0) p inside))
      (elim earlier [
        | inl h ↦ member-left (result_at m list p l) list (q ∷ []) (before p l inside letter (inl h))
        | inr h ↦ elim (cases_eq l k) [
          | inl e ↦ subst (λ r. Member r (list ++ q ∷ [])) (ap (λ a. result_at m list a k) (sym h.0)
              ∙ ap (λ a. result_at m list p a) (sym e)) here
          | inr apart ↦ member-left (result_at m list p l) list (q ∷ [])
              (before p l inside letter (inr (h.0, omega (arith, h.1))))
        ]
      ])

  pub results_held : (list : List RootPair) (i k : ℕ) → HasResultsBefore m list i k →
      Member (result_at m list i k) list → HasResultsBefore m list i (k + 1)
  results_held list i k before here p l in_list letter earlier =
      elim earlier [
        | inl h ↦ before p l in_list letter (inl h)
        | inr h ↦ elim (cases_eq l k) [
          | inl e ↦ subst (λ r. Member r list) (ap (λ a. result_at m list a k) (sym h.0)
              ∙ ap (λ a. result_at m list p a) (sym e)) here
          | inr apart ↦ before p l in_list letter (inr (h.0, omega (arith, h.1)))
        ]
      ]

  pub results_next : (list : List RootPair) (i : ℕ) → HasResultsBefore m list i m.rank →
      HasResultsBefore m list (i + 1) 0
  results_next list i before p l in_list letter earlier =
      elim earlier [
        | inl h ↦ elim (cases_eq p i) [
          | inl e ↦ before p l in_list letter (inr (e, letter))
          | inr apart ↦ before p l in_list letter
              (inl (omega arith))
        ]
        | inr h ↦ absurd (omega (arith, h.1))
      ]

  pub results_none : (list : List RootPair) → HasResultsBefore m list 0 0
  results_none list p l in_list letter earlier =
      elim earlier [ inl h ↦ absurd (omega arith) | inr h ↦ absurd (omega (arith, h.1)) ]
