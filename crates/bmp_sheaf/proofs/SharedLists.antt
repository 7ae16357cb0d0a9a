-- The first values of a list that has a beginning and a rest.
use Rattle.std.proofs.Common.{◌≡◌, ℕ, ◌+◌, ◌-◌, ◌≤◌, List, ◌++◌, length, take, map, inl, inr, sym, ap, ap₂, ◌∙◌, arith}
use Rattle.std.proofs.lemmas.Bool.{cases_lt}
use Rattle.std.proofs.lemmas.List.{length-map, length-take-le, take-map, take-take, take-append-le, append-nil}
use Rattle.std.proofs.Math.Seq.{take-append-add}

module _ {X Y : Type 0} (f : X → Y) (k : ℕ) (xs ys : List X) (whole : k ≤ length xs) where
  abbrev beginning : List Y
  beginning = map f (take k xs)

  -- of how many values each has
  counted : length beginning ≡ k
  counted = length-map (take k xs) f ∙ length-take-le k xs whole

  -- those of the beginning, where it has as many
  first_shared : (n : ℕ) → n ≤ k → map f (take n xs) ≡ take n (beginning ++ map f ys)
  first_shared n within =
      ap (map f) (sym (take-take n k xs within)) ∙ sym (take-map f n (take k xs))
      ∙ sym (take-append-le n beginning (map f ys) (omega (arith, within, counted)))

  -- all of these, and some of the rest
  first_more : (m : ℕ) → beginning ++ map f (take m ys) ≡ take (k + m) (beginning ++ map f ys)
  first_more m =
      ap (λ zs. beginning ++ zs) (sym (take-map f m ys)) ∙ sym (take-append-add beginning (map f ys) m)
      ∙ ap (λ n. take (n + m) (beginning ++ map f ys)) counted

  -- in one
  pub first_values : (n : ℕ) →
      map f (take (n - (n - k)) xs) ++ map f (take (n - k) ys) ≡ take n (beginning ++ map f ys)
  first_values n = elim (cases_lt n k) [
    | inl few ↦
        let none : n - k ≡ 0 = omega (arith, few) in
        ap₂ (λ i j. map f (take i xs) ++ map f (take j ys)) (omega (arith, few)) none
        ∙ append-nil (map f (take n xs)) ∙ first_shared n (omega (arith, few))
    | inr many ↦
        ap (λ i. map f (take i xs) ++ map f (take (n - k) ys)) (omega (arith, many)) ∙ first_more (n - k)
        ∙ ap (λ i. take i (beginning ++ map f ys)) (omega (arith, many))
  ]
