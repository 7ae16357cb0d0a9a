-- Lists that are one: with the same members, by their numbers, or by an order in which both rise.
use Rattle.std.proofs.Common.{◌≡◌, ℕ, zero, suc, ◌<◌, ◌≤◌, arith, refl, sym, ap, ◌∙◌, subst, inl, inr, ◌⊎◌, List, [], ◌∷◌, length, get_or, Bool, count_by}
use Rattle.std.proofs.lemmas.List.{ext_get_or}
use Rattle.bmp_math.specs.Lists.{Member, HasEachOnce}
use Rattle.bmp_math.proofs.ListLemmas.{count_within, length_within, member_at, place_of}

module _ {X : Type 0} where
  -- ---- by the members
  pub count_one : (p : X → Bool) (xs ys : List X) → HasEachOnce xs → HasEachOnce ys →
      ((x : X) → Member x xs → Member x ys) → ((x : X) → Member x ys → Member x xs)
      → count_by p xs ≡ count_by p ys
  count_one p xs ys first second inside back =
      omega (arith, count_within p xs ys first inside, count_within p ys xs second back)

  pub length_one : (xs ys : List X) → HasEachOnce xs → HasEachOnce ys → ((x : X) → Member x xs → Member x ys) →
      ((x : X) → Member x ys → Member x xs) → length xs ≡ length ys
  length_one xs ys first second inside back =
      omega (arith, length_within xs ys first inside, length_within ys xs second back)

  -- ---- by the places
  pub places_one : (xs ys : List X) → length xs ≡ length ys →
      ((i : ℕ) (d : X) → i < length xs → get_or xs i d ≡ get_or ys i d) → xs ≡ ys
  places_one [] [] long each = refl
  places_one [] (y ∷ ys) long each = absurd (omega arith)
  places_one (x ∷ xs) ys long each = ext_get_or x (x ∷ xs) ys long (λ i l. each i x l)

  -- the same members, whose numbers are their places in both
  pub numbered_one : (number : X → ℕ) (xs ys : List X) → length xs ≡ length ys → ((x : X) → Member x xs → Member x ys)
      → ((i : ℕ) (d : X) → i < length xs → number (get_or xs i d) ≡ i) →
      ((i : ℕ) (d : X) → i < length ys → number (get_or ys i d) ≡ i) → xs ≡ ys
  numbered_one number xs ys long inside first second =
      places_one xs ys long (λ i x l.
      let z : X = get_or xs i x in
      let r : (j : ℕ) × (j < length ys) × ((d : X) → get_or ys j d ≡ z) =
      place_of z ys (inside z (member_at xs i x l)) in
      let same : r.0 ≡ i = sym (second r.0 x r.1) ∙ ap number (r.2 x) ∙ first i x l in
      sym (r.2 x) ∙ ap (λ j. get_or ys j x) same)

-- ---- by a strict order
module _ {K : Type 0} (Before : K → K → Type 0) (never : (k : K) → Before k k → ⊥) (chained : (k l m : K) → Before k l →
    Before l m → Before k m) where
  -- the first n of the keys rise
  abbrev pub Rise : (ℕ → K) → ℕ → Type 0
  Rise a n = (d e : ℕ) → d < e → e < n → Before (a d) (a e)

  -- each of the first n keys of a is one of the first m of b
  abbrev pub AreAmong : (ℕ → K) → ℕ → (ℕ → K) → ℕ → Type 0
  AreAmong a n b m = (i : ℕ) → i < n → (j : ℕ) × (j < m) × (b j ≡ a i)

  either : (i j : ℕ) → (i < j) ⊎ ((j < i) ⊎ (i ≡ j))
  either i j = grind arith

  same_place : (a : ℕ → K) (n : ℕ) → Rise a n → (i j : ℕ) → i < n → j < n → a i ≡ a j → i ≡ j
  same_place a n rise i j li lj e = by (either i j)
    where
      by : (i < j) ⊎ ((j < i) ⊎ (i ≡ j)) → i ≡ j
      by (inl less) = absurd (never (a j) (subst (λ k. Before k (a j)) e (rise i j less lj)))
      by (inr (inl more)) = absurd (never (a j) (subst (λ k. Before (a j) k) e (rise j i more li)))
      by (inr (inr same)) = same

  not_earlier : (a b : ℕ → K) (n m : ℕ) → Rise a n → Rise b m → (among : AreAmong a n b m) → (i : ℕ) (l : i < n) →
      i ≤ (among i l).0
  not_earlier a b n m first second among zero l = omega arith
  not_earlier a b n m first second among (suc i) l =
      by (either before after) (not_earlier a b n m first second among i before_inside)
    where
      before_inside : i < n
      before_inside = omega arith

      before : ℕ
      before = (among i before_inside).0

      after : ℕ
      after = (among (suc i) l).0

      rises : Before (a i) (a (suc i))
      rises = first i (suc i) (omega arith) l

      by : (before < after) ⊎ ((after < before) ⊎ (before ≡ after)) → i ≤ before → suc i ≤ after
      by (inl less) earlier = omega (arith, earlier, less)
      by (inr (inl more)) earlier =
          let falls : Before (b after) (b before) = second after before more (among i before_inside).1 in
          let back : Before (a (suc i)) (a i) =
          subst (λ k. Before k (a i)) (among (suc i) l).2
          (subst (λ k. Before (b after) k) (among i before_inside).2 falls) in
          absurd (never (a i) (chained (a i) (a (suc i)) (a i) rises back))
      by (inr (inr same)) earlier =
          let e : a i ≡ a (suc i) = sym (among i before_inside).2 ∙ ap b same ∙ (among (suc i) l).2 in
          absurd (never (a (suc i)) (subst (λ k. Before k (a (suc i))) e rises))

  -- keys that rise and are the same ones stand at the same places
  pub rising_one : (a b : ℕ → K) (n m : ℕ) → Rise a n → Rise b m → AreAmong a n b m → AreAmong b m a n →
      (i : ℕ) → i < n → (i < m) × (b i ≡ a i)
  rising_one a b n m first second among back i l =
      let there : (j : ℕ) × (j < m) × (b j ≡ a i) = among i l in
      let here : (k : ℕ) × (k < n) × (a k ≡ b there.0) = back there.0 there.1 in
      let up : i ≤ there.0 = not_earlier a b n m first second among i l in
      let down : there.0 ≤ here.0 = not_earlier b a m n second first back there.0 there.1 in
      let again : here.0 ≡ i = same_place a n first here.0 i here.1 l (here.2 ∙ there.2) in
      let same : there.0 ≡ i = omega arith in
      (subst (λ j. j < m) same there.1, subst (λ j. b j ≡ a i) same there.2)

  pub rising_count : (a b : ℕ → K) (n m : ℕ) → Rise a n → Rise b m → AreAmong a n b m → AreAmong b m a n → n ≡ m
  rising_count a b n m first second among back =
      let less : n ≤ m = within a b n m first second among back in
      let more : m ≤ n = within b a m n second first back among in
      omega arith
    where
      within : (a b : ℕ → K) (n m : ℕ) → Rise a n → Rise b m → AreAmong a n b m → AreAmong b m a n → n ≤ m
      within a b zero m first second among back = omega arith
      within a b (suc n) m first second among back = let last : n < m =
          (rising_one a b (suc n) m first second among back n (omega arith)).0 in omega arith
