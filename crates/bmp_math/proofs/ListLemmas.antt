-- Counting over lists that hold each element once.
use Rattle.std.proofs.Common.{◌≡◌, ◌≢◌, ℕ, zero, suc, ◌+◌, ◌<◌, ◌≤◌, arith, refl, sym, ap, ◌∙◌, subst, inl, inr, ◌⊎◌, List, [], ◌∷◌, length, ◌++◌, get_or, Bool, true, cond, map, count_by}
use Rattle.std.proofs.Math.Path.{fun_ext}
use Rattle.std.proofs.lemmas.List.Sums.{sum_by-cons}
use Rattle.bmp_math.specs.Lists.{Member, HasEachOnce}

module _ {X : Type 0} where
  -- the list less one member
  abbrev pub without : (x : X) (ys : List X) → Member x ys → List X
  without x [] h = []
  without x (y ∷ ys) (inl e) = ys
  without x (y ∷ ys) (inr h) = y ∷ without x ys h

  pub count_without : (p : X → Bool) (x : X) (ys : List X) (h : Member x ys) →
      count_by p ys ≡ cond (p x) 1 0 + count_by p (without x ys h)
  count_without p x [] h = absurd h
  count_without p x (y ∷ ys) (inl e) = sum_by-cons (λ z. cond (p z) 1 0) y ys
      ∙ ap (λ z. cond (p z) 1 0 + count_by p ys) (sym e)
  count_without p x (y ∷ ys) (inr h) =
      let whole : count_by p (y ∷ ys) ≡ cond (p y) 1 0 + count_by p ys = sum_by-cons (λ z. cond (p z) 1 0) y ys in
      let left : count_by p (y ∷ without x ys h) ≡ cond (p y) 1 0 + count_by p (without x ys h) =
      sum_by-cons (λ z. cond (p z) 1 0) y (without x ys h) in
      omega (arith, whole, left, count_without p x ys h)

  pub kept_without : (x z : X) (ys : List X) (h : Member x ys) → Member z ys → z ≢ x → Member z (without x ys h)
  kept_without x z [] h k apart = absurd h
  kept_without x z (y ∷ ys) (inl e) (inl f) apart = absurd (apart (f ∙ sym e))
  kept_without x z (y ∷ ys) (inl e) (inr k) apart = k
  kept_without x z (y ∷ ys) (inr h) (inl f) apart = inl f
  kept_without x z (y ∷ ys) (inr h) (inr k) apart = inr (kept_without x z ys h k apart)

  -- a list with each member once has no more members of a kind than a list that holds them
  pub count_within : (p : X → Bool) (xs ys : List X) → HasEachOnce xs → ((x : X) → Member x xs → Member x ys) →
      count_by p xs ≤ count_by p ys
  count_within p [] ys once held = omega arith
  count_within p (x ∷ xs) ys once held =
      let here : Member x ys = held x (inl refl) in
      let rest : count_by p xs ≤ count_by p (without x ys here) =
      count_within p xs (without x ys here) once.1
      (λ z k. kept_without x z ys here (held z (inr k)) (λ e. once.0 (subst (λ w. Member w xs) e k))) in
      omega (arith, rest, count_without p x ys here, sum_by-cons (λ z. cond (p z) 1 0) x xs)

  length_is : (xs : List X) → count_by (λ x. true) xs ≡ length xs
  length_is [] = refl
  length_is (x ∷ xs) = omega (arith, sum_by-cons (λ z. cond true 1 0) x xs, length_is xs)

  -- the pigeonhole
  pub length_within : (xs ys : List X) → HasEachOnce xs → ((x : X) → Member x xs → Member x ys) → length xs ≤ length ys
  length_within xs ys once held = omega (arith, count_within (λ x. true) xs ys once held, length_is xs, length_is ys)

  member-map : (f : X → X) (z : X) (xs : List X) → Member z (map f xs) → (x : X) × Member x xs × (z ≡ f x)
  member-map f z [] h = absurd h
  member-map f z (x ∷ xs) (inl e) = (x, inl refl, e)
  member-map f z (x ∷ xs) (inr h) = let r : (w : X) × Member w xs × (z ≡ f w) = member-map f z xs h in
      (r.0, inr r.1, r.2)

  once-map : (f : X → X) → ((x : X) → f (f x) ≡ x) → (xs : List X) → HasEachOnce xs → HasEachOnce (map f xs)
  once-map f twice [] once = tt
  once-map f twice (x ∷ xs) once = (
    (λ h. let r : (w : X) × Member w xs × (f x ≡ f w) = member-map f (f x) xs h in
        once.0 (subst (λ z. Member z xs) (sym (twice r.0) ∙ ap f (sym r.2) ∙ twice x) r.1)),
    once-map f twice xs once.1,
  )

  count-map : (f : X → X) (p : X → Bool) (xs : List X) → count_by p (map f xs) ≡ count_by (λ x. p (f x)) xs
  count-map f p [] = refl
  count-map f p (x ∷ xs) =
      omega (
        arith,
        sum_by-cons (λ z. cond (p z) 1 0) (f x) (map f xs),
        sum_by-cons (λ z. cond (p (f z)) 1 0) x xs,
        count-map f p xs,
      )

  -- an involution that keeps a list keeps each count
  pub count_under : (f : X → X) → ((x : X) → f (f x) ≡ x) → (xs : List X) → HasEachOnce xs →
      ((x : X) → Member x xs → Member (f x) xs)
      → (p : X → Bool) → count_by (λ x. p (f x)) xs ≡ count_by p xs
  count_under f twice xs once kept p =
      let held : (z : X) → Member z (map f xs) → Member z xs =
      λ z h. let r : (w : X) × Member w xs × (z ≡ f w) = member-map f z xs h in
      subst (λ w. Member w xs) (sym r.2) (kept r.0 r.1) in
      let below : (q : X → Bool) → count_by (λ x. q (f x)) xs ≤ count_by q xs =
      λ q. omega (arith, count_within q (map f xs) xs (once-map f twice xs once) held, count-map f q xs) in
      let back : count_by (λ x. p (f (f x))) xs ≡ count_by p xs =
      ap (λ (q : X → Bool). count_by q xs) (fun_ext (λ x. ap p (twice x))) in
      omega (arith, below p, below (λ x. p (f x)), back)

  pub member-left : (x : X) (xs ys : List X) → Member x xs → Member x (xs ++ ys)
  member-left x [] ys h = absurd h
  member-left x (y ∷ xs) ys (inl e) = inl e
  member-left x (y ∷ xs) ys (inr h) = inr (member-left x xs ys h)

  pub member-last : (x : X) (xs : List X) → Member x (xs ++ x ∷ [])
  member-last x [] = inl refl
  member-last x (y ∷ xs) = inr (member-last x xs)

  pub member-split : (x y : X) (xs : List X) → Member x (xs ++ y ∷ []) → Member x xs ⊎ (x ≡ y)
  member-split x y [] (inl e) = inr e
  member-split x y [] (inr h) = absurd h
  member-split x y (z ∷ xs) (inl e) = inl (inl e)
  member-split x y (z ∷ xs) (inr h) = elim (member-split x y xs h) [ inl k ↦ inl (inr k) | inr e ↦ inr e ]

  pub once-push : (xs : List X) (y : X) → HasEachOnce xs → (Member y xs → ⊥) → HasEachOnce (xs ++ y ∷ [])
  once-push [] y once fresh = ((λ h. h), tt)
  once-push (x ∷ xs) y once fresh = (
    (λ h. elim (member-split x y xs h) [ inl k ↦ once.0 k | inr e ↦ fresh (inl (sym e)) ]),
    once-push xs y once.1 (λ h. fresh (inr h)),
  )

  pub all-member : (P : X → Type 0) (xs : List X) → ((x : X) → Member x xs → P x) → (ys : List X) →
      ((y : X) → Member y ys → Member y xs) → (y : X) → Member y ys → P y
  all-member P xs h ys inside y k = h y (inside y k)

  -- by place
  pub member_at : (xs : List X) (i : ℕ) (d : X) → i < length xs → Member (get_or xs i d) xs
  member_at [] i d l = absurd (omega arith)
  member_at (x ∷ xs) zero d l = inl refl
  member_at (x ∷ xs) (suc i) d l = inr (member_at xs i d (omega arith))

  pub place_of : (x : X) (xs : List X) → Member x xs → (i : ℕ) × (i < length xs) × ((d : X) → get_or xs i d ≡ x)
  place_of x [] h = absurd h
  place_of x (y ∷ xs) (inl e) = (0, omega arith, λ d. sym e)
  place_of x (y ∷ xs) (inr h) = let r : (i : ℕ) × (i < length xs) × ((d : X) → get_or xs i d ≡ x) = place_of x xs h in
      (suc r.0, omega (arith, r.1), r.2)

  pub inside_without : (x z : X) (ys : List X) (h : Member x ys) → Member z (without x ys h) → Member z ys
  inside_without x z [] h k = absurd h
  inside_without x z (y ∷ ys) (inl e) k = inr k
  inside_without x z (y ∷ ys) (inr h) (inl f) = inl f
  inside_without x z (y ∷ ys) (inr h) (inr k) = inr (inside_without x z ys h k)

  pub once_without : (x : X) (ys : List X) (h : Member x ys) → HasEachOnce ys → HasEachOnce (without x ys h)
  once_without x [] h once = absurd h
  once_without x (y ∷ ys) (inl e) once = once.1
  once_without x (y ∷ ys) (inr h) once = ((λ k. once.0 (inside_without x y ys h k)), once_without x ys h once.1)

  pub gone_without : (x : X) (ys : List X) (h : Member x ys) → HasEachOnce ys → Member x (without x ys h) → ⊥
  gone_without x [] h once k = absurd h
  gone_without x (y ∷ ys) (inl e) once k = once.0 (subst (λ w. Member w ys) e k)
  gone_without x (y ∷ ys) (inr h) once (inl f) = once.0 (subst (λ w. Member w ys) f h)
  gone_without x (y ∷ ys) (inr h) once (inr k) = gone_without x ys h once.1 k
