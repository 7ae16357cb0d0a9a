-- A reader and a printed form that fit each other, and how larger ones are made. The values that have a
-- text are those that fit. From one pair for a whole text follow: what is read is printed so, each text is
-- read, and different values have different texts.
use Rattle.std.proofs.Common.{◌≡◌, ℕ, zero, suc, List, [], ◌∷◌, ◌++◌, length, Bool, true, false, cond, Result, Ok, Err, refl, sym, ap, ap₂, subst, ◌∙◌, append_assoc, arith}
use Rattle.std.specs.List.{AllByRecursion}
use Rattle.std.proofs.lemmas.List.{append-nil}
use Rattle.bmp_text.specs.declared.fault.TextFault.{TextFault}
use Rattle.bmp_text.proofs.WordLemmas.{all_append}
use Rattle.bmp_text.specs.Cursor.{Cursor, Place, first_place, text_start, ◌>>=◌, end}
use Rattle.bmp_text.specs.Printing.{Chosen, chain_text, ChainFits}
use Rattle.bmp_text.specs.Readers.{after, give, chain, whole}

-- What is read fits, and is printed so, with the rest behind it. What fits is read again, whatever follows.
pub record Pair {I A : Type 0} (ok : I → Type 0) (step : Cursor I → Result (A × Cursor I) TextFault) (text : A → List I)
    (fits : A → Type 0) : Type 0 where
  pub takes : (c : Cursor I) (x : A) (d : Cursor I) → step c ≡ Ok (x, d) → fits x × (c.rest ≡ text x ++ d.rest)
  pub again : (x : A) (n : Place) (r : List I) → fits x → (m : Place) ×
      (step (record { place = n; rest = text x ++ r }) ≡ Ok (x, record { place = m; rest = r }))
  pub plain : (x : A) → fits x → AllByRecursion ok (text x)

-- the value of a step that did not fail
pub bind_ok : {A B : Type 0} (r : Result A TextFault) (f : A → Result B TextFault) (y : B) → (r >>= f) ≡ Ok y →
    (x : A) × (r ≡ Ok x) × (f x ≡ Ok y)
bind_ok (Ok x) f y e = (x, refl, e)
bind_ok (Err d) f y e = absurd cc

abbrev done : {A : Type 0} → A → Result A TextFault
done x = Ok x

pub ok_is : {A : Type 0} (x y : A) → done x ≡ done y → x ≡ y
ok_is x y e = cc

-- a test that did not fail
pub guard_ok : {A : Type 0} (b : Bool) (d : TextFault) (x y : A) → cond b (Err d) (Ok x) ≡ Ok y → (b ≡ false) × (x ≡ y)
guard_ok true d x y e = absurd cc
guard_ok false d x y e = (refl, cc)

pub test_ok : {A : Type 0} (b : Bool) (d : TextFault) (x y : A) → cond b (Ok x) (Err d) ≡ Ok y → (b ≡ true) × (x ≡ y)
test_ok true d x y e = (refl, cc)
test_ok false d x y e = absurd cc

module _ {I : Type 0} (ok : I → Type 0) where
  pub give_pair : {B : Type 0} (v : B) → Pair ok (give v) (λ b. []) (λ b. b ≡ v)
  give_pair {B = B} v = record {
    takes = λ c x d e. let p = ok_is (v, c) (x, d) e in
        (sym (ap (λ (q : B × Cursor I). q.0) p), ap (λ (q : B × Cursor I). q.1.rest) p);
    again = λ x n r h. (n, ap (λ (t : B). done (t, record { place = n; rest = r })) (sym h));
    plain = λ x h. tt;
  }

  pub after_pair : {A B : Type 0} {step : Cursor I → Result (A × Cursor I) TextFault} {text : A → List I}
      {fits : A → Type 0} {then : A → Cursor I → Result (B × Cursor I) TextFault} {others : A → B → List I}
      {holds : A → B → Type 0} (part : B → A)
      → Pair ok step text fits → ((x : A) → fits x → Pair ok (then x) (others x) (holds x)) →
      ((x : A) (b : B) → fits x → holds x b → part b ≡ x)
      → Pair ok (after step then) (λ b. text (part b) ++ others (part b) b) (λ b. fits (part b) × holds (part b) b)
  after_pair {A = A} {B = B} {step = step} {text = text} {fits = fits} {then = then} {others = others} {holds = holds}
      part one more is = record {
        takes = λ c b d e.
            let a = bind_ok (step c) (λ x. then x.0 x.1) (b, d) e in
            let p = one.takes c a.0.0 a.0.1 a.1 in
            let q = (more a.0.0 p.0).takes a.0.1 b d a.2 in
            let s = sym (is a.0.0 b p.0 q.0) in (
              (subst fits s p.0, subst (λ x. holds x b) s q.0),
              p.1 ∙ (ap (λ (y : List I). text a.0.0 ++ y) q.1
                  ∙ (ap (λ (x : A). text x ++ (others x b ++ d.rest)) s
                  ∙ sym (append_assoc (text (part b)) (others (part b) b) d.rest))),
            );
        again = λ b n r h.
            let p = one.again (part b) n (others (part b) b ++ r) h.0 in
            let q = (more (part b) h.0).again b p.0 r h.1 in (
              q.0,
              ap (λ (t : List I). after step then (record { place = n; rest = t }))
                  (append_assoc (text (part b)) (others (part b) b) r)
                  ∙ (ap (λ (t : Result (A × Cursor I) TextFault). t >>= λ x. then x.0 x.1) p.1 ∙ q.1),
            );
        plain = λ b h. all_append ok (text (part b)) (others (part b) b) (one.plain (part b) h.0)
            ((more (part b) h.0).plain b h.1);
      }

  -- the same reader, with other words for what is printed and what fits
  pub pair_as : {A : Type 0} (step : Cursor I → Result (A × Cursor I) TextFault) (text new : A → List I)
      (fits holds : A → Type 0) → ((x : A) → text x ≡ new x) → ((x : A) → fits x → holds x) →
      ((x : A) → holds x → fits x) → Pair ok step text fits → Pair ok step new holds
  pair_as {A = A} step text new fits holds same to from one = record {
    takes = λ c x d e. let p = one.takes c x d e in (to x p.0, p.1 ∙ ap (λ (t : List I). t ++ d.rest) (same x));
    again = λ x n r h. let p = one.again x n r (from x h) in
        (p.0, ap (λ (t : List I). step (record { place = n; rest = t ++ r })) (sym (same x)) ∙ p.1);
    plain = λ x h. subst (AllByRecursion ok) (same x) (one.plain x (from x h));
  }

  -- ---- so many items

  -- `can` says what is known of the state with so many items to come
  module _ {A S : Type 0} (step : S → Cursor I → Result (A × Cursor I) TextFault) (text : S → A → List I)
      (fits : S → A → Type 0) (next : A → S → S) (can : ℕ → S → Type 0) (each : (k : ℕ) (s : S) → can (suc k) s →
      Pair ok (step s) (text s) (fits s)) (moves : (k : ℕ) (s : S) (x : A) → can (suc k) s → fits s x →
      can k (next x s)) where
    chain_takes : (n : ℕ) (s : S) (c : Cursor I) (xs : List A) (d : Cursor I) → can n s →
        chain step next n s c ≡ Ok (xs, d) → (length xs ≡ n) × ChainFits fits next s xs ×
        (c.rest ≡ chain_text text next s xs ++ d.rest)
    unfolding chain
    chain_takes zero s c xs d may e =
        subst (λ (p : List A × Cursor I). (length p.0 ≡ 0) × ChainFits fits next s p.0 ×
        (c.rest ≡ chain_text text next s p.0 ++ p.1.rest)) (ok_is ([], c) (xs, d) e) (refl, tt, refl)
    chain_takes (suc n) s c xs d may e =
        let a = bind_ok (step s c) (λ x. chain step next n (next x.0 s) x.1 >>= λ y. Ok (x.0 ∷ y.0, y.1)) (xs, d) e in
        let b = bind_ok (chain step next n (next a.0.0 s) a.0.1) (λ y. Ok (a.0.0 ∷ y.0, y.1)) (xs, d) a.2 in
        let p = (each n s may).takes c a.0.0 a.0.1 a.1 in
        let q = chain_takes n (next a.0.0 s) a.0.1 b.0.0 b.0.1 (moves n s a.0.0 may p.0) b.1 in
        subst (λ (p : List A × Cursor I). (length p.0 ≡ suc n) × ChainFits fits next s p.0 ×
        (c.rest ≡ chain_text text next s p.0 ++ p.1.rest)) (ok_is (a.0.0 ∷ b.0.0, b.0.1) (xs, d) b.2) (
          ap suc q.0,
          (p.0, q.1),
          p.1 ∙ (ap (λ (t : List I). text s a.0.0 ++ t) q.2
              ∙ sym (append_assoc (text s a.0.0) (chain_text text next (next a.0.0 s) b.0.0) b.0.1.rest)),
        )

    chain_again : (n : ℕ) (xs : List A) (s : S) (k : Place) (r : List I) → can n s → length xs ≡ n →
        ChainFits fits next s xs → (m : Place) ×
        (chain step next n s (record { place = k; rest = chain_text text next s xs ++ r })
        ≡ Ok (xs, record { place = m; rest = r }))
    unfolding chain
    chain_again zero [] s k r may len h = (k, refl)
    chain_again zero (x ∷ xs) s k r may len h = absurd (omega arith)
    chain_again (suc n) [] s k r may len h = absurd (omega arith)
    chain_again (suc n) (x ∷ xs) s k r may len h =
        let p = (each n s may).again x k (chain_text text next (next x s) xs ++ r) h.0 in
        let q = chain_again n xs (next x s) p.0 r (moves n s x may h.0) (omega arith) h.1 in
        let others = λ (y : A × Cursor I). chain step next n (next y.0 s) y.1 >>= λ z. done (y.0 ∷ z.0, z.1) in (
          q.0,
          ap (λ (t : List I). step s (record { place = k; rest = t }) >>= others)
              (append_assoc (text s x) (chain_text text next (next x s) xs) r)
              ∙ (ap (λ (t : Result (A × Cursor I) TextFault). t >>= others) p.1
              ∙ ap (λ (t : Result (List A × Cursor I) TextFault). t >>= λ z. done (x ∷ z.0, z.1)) q.1),
        )

    chain_plain : (n : ℕ) (xs : List A) (s : S) → can n s → length xs ≡ n → ChainFits fits next s xs →
        AllByRecursion ok (chain_text text next s xs)
    chain_plain n [] s may len h = tt
    chain_plain zero (x ∷ xs) s may len h = absurd (omega arith)
    chain_plain (suc n) (x ∷ xs) s may len h =
        all_append ok (text s x) (chain_text text next (next x s) xs) ((each n s may).plain x h.0)
        (chain_plain n xs (next x s) (moves n s x may h.0) (omega arith) h.1)

    pub chain_pair_while : (n : ℕ) (s : S) → can n s →
        Pair ok (chain step next n s) (chain_text text next s) (λ xs. (length xs ≡ n) × ChainFits fits next s xs)
    chain_pair_while n s may = record {
      takes = λ c xs d e. let p = chain_takes n s c xs d may e in ((p.0, p.1), p.2);
      again = λ xs k r h. chain_again n xs s k r may h.0 h.1;
      plain = λ xs h. chain_plain n xs s may h.0 h.1;
    }

  module _ {A S : Type 0} (step : S → Cursor I → Result (A × Cursor I) TextFault) (text : S → A → List I)
      (fits : S → A → Type 0) (next : A → S → S) (each : (s : S) → Pair ok (step s) (text s) (fits s)) where
    pub chain_pair : (n : ℕ) (s : S) →
        Pair ok (chain step next n s) (chain_text text next s) (λ xs. (length xs ≡ n) × ChainFits fits next s xs)
    chain_pair n s = chain_pair_while step text fits next (λ _ _. Unit {0}) (λ k s may. each s) (λ k s x may h. tt) n s
        tt

  -- one of two readers, by a test on what is known before
  pub cond_pair : {A : Type 0} (b : Bool) (s t : Cursor I → Result (A × Cursor I) TextFault) (f g : A → List I)
      (p q : A → Type 0) → (b ≡ true → Pair ok s f p) → (b ≡ false → Pair ok t g q) →
      Pair ok (cond b s t) (cond b f g) (λ x. Chosen b (p x) (q x))
  cond_pair true s t f g p q one other = one refl
  cond_pair false s t f g p q one other = other refl

-- ---- whole texts

ended : (n : Place) (r : List ℕ) (x : Unit {0}) → end (record { place = n; rest = r }) ≡ Ok x → r ≡ []
ended n [] x e = refl
ended n (b ∷ bs) x e = absurd cc

module _ {A : Type 0} {ok : ℕ → Type 0} (step : Cursor ℕ → Result (A × Cursor ℕ) TextFault) (text : A → List ℕ)
    (fits : A → Type 0) (one : Pair ok step text fits) where
  pub whole_takes : (bytes : List ℕ) (x : A) → whole step bytes ≡ Ok x → fits x × (bytes ≡ text x)
  unfolding whole
  whole_takes bytes x e =
      let start = text_start bytes in
      let a = bind_ok (step start) (λ y. end y.1 >>= λ done. Ok y.0) x e in
      let b = bind_ok (end a.0.1) (λ done. Ok a.0.0) x a.2 in
      let p = one.takes start a.0.0 a.0.1 a.1 in
      let is = ok_is a.0.0 x b.2 in (
        subst fits is p.0,
        p.1 ∙ (ap₂ (λ (t : A) (r : List ℕ). text t ++ r) is (ended a.0.1.place a.0.1.rest b.0 b.1)
            ∙ append-nil (text x)),
      )

  pub whole_again : (x : A) → fits x → whole step (text x) ≡ Ok x
  unfolding whole
  whole_again x h =
      let p = one.again x first_place [] h in
      ap (λ (t : List ℕ). step (text_start t) >>= λ y. end y.1 >>= λ done. Ok y.0) (sym (append-nil (text x)))
      ∙ ap (λ (t : Result (A × Cursor ℕ) TextFault). t >>= λ y. end y.1 >>= λ done. Ok y.0) p.1

  -- two values with one text are equal
  pub whole_same : (x y : A) → fits x → fits y → text x ≡ text y → x ≡ y
  whole_same x y h k e = ok_is x y (sym (whole_again x h) ∙ (ap (whole step) e ∙ whole_again y k))
