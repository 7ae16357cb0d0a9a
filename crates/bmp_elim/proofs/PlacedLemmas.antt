-- Vectors with numbers at rising places, made place by place, and how many places are below another.
use Rattle.std.proofs.Common.{◌≡◌, ◌≢◌, ℕ, ◌+◌, ◌<◌, ◌≤◌, List, [], ◌∷◌, ◌++◌, length, get_or, inl, inr, refl, sym, ap, ◌∙◌, subst, arith}
use Rattle.std.specs.List.Sorted.{IsStrictlyIncreasing}
use Rattle.std.proofs.lemmas.List.Kept.{AllPairs-from_increasing}
use Rattle.std.proofs.lemmas.Bool.{cases_eq, cases_lt}
use Rattle.std.proofs.lemmas.List.Elements.{All-push}
use Rattle.bmp_linear.specs.declared.vector.Entry.{Entry}
use Rattle.bmp_linear.specs.SparseVectors.{FitsBelow, number_at}
use Rattle.bmp_linear.proofs.SparseLemmas.{number_at-past, number_at-push_same, number_at-push_other}
use Rattle.bmp_elim.specs.FreeVectors.{IsPlacedBelow, IsCountBelow}

abbrev pub AreRising : List ℕ → Type 0
AreRising ps = (k l : ℕ) → k < l → l < length ps → get_or ps k 0 < get_or ps l 0

pub placed_start : (p : ℕ) (ps : List ℕ) (P : ℕ → ℕ → Type 0) → IsPlacedBelow p ps 0 P []
placed_start p ps P = record {
  below = λ k d l. absurd (omega arith);
  fits = λ m h k d l. absurd (omega arith);
  at_places = λ k l. absurd (omega arith);
  elsewhere = λ j h. refl;
}

module _ (p : ℕ) (ps : List ℕ) (n : ℕ) (P : ℕ → ℕ → Type 0) (v : List Entry) (rising : AreRising ps)
    (within : n < length ps) (h : IsPlacedBelow p ps n P v) where
  -- the next place is past the entries
  pub placed_fits : FitsBelow v (get_or ps n 0)
  placed_fits = h.fits (get_or ps n 0) (λ k l. rising k n l within)

  pub placed_zero : P n 0 → IsPlacedBelow p ps (n + 1) P v
  placed_zero is = record {
    below = h.below;
    fits = λ m all. h.fits m (λ k l. all k (omega arith));
    at_places = λ k l. elim (cases_eq k n) [
      | inl last ↦ subst (λ i. P i (number_at v (get_or ps i 0))) (sym last)
          (subst (P n) (sym (number_at-past v (get_or ps n 0) placed_fits)) is)
      | inr other ↦ h.at_places k (omega arith)
    ];
    elsewhere = λ j away. h.elsewhere j (λ k l. away k (omega arith));
  }

  pub placed_push : (e : Entry) → e.place ≡ get_or ps n 0 → e.value < p → P n e.value →
      IsPlacedBelow p ps (n + 1) P (v ++ e ∷ [])
  placed_push e at small is =
      let fits : FitsBelow v e.place = rw at placed_fits in
      record {
        below = All-push (λ d. d.value < p) v e h.below small;
        fits = λ m all. All-push (λ d. d.place < m) v e (h.fits m (λ k l. all k (omega arith)))
            (rw at (all n (omega arith)));
        at_places = λ k l. elim (cases_eq k n) [
          | inl last ↦ subst (λ i. P i (number_at (v ++ e ∷ []) (get_or ps i 0))) (sym last)
              (subst (P n) (sym (ap (number_at (v ++ e ∷ [])) (sym at) ∙ number_at-push_same v e fits)) is)
          | inr other ↦
              let before : k < n = omega arith in
              let under : get_or ps k 0 < get_or ps n 0 = rising k n before within in
              subst (P k) (sym (number_at-push_other v e (get_or ps k 0) (λ same. absurd (omega (arith, same, at)))))
              (h.at_places k before)
        ];
        elsewhere = λ j away. number_at-push_other v e j (λ same. away n (omega arith) (sym at ∙ same))
            ∙ h.elsewhere j (λ k l. away k (omega arith));
      }

pub count_start : (ps : List ℕ) → IsCountBelow ps 0 0
count_start ps = record { within = omega arith; early = λ k l. absurd (omega arith); late = λ k l b. omega arith }

module _ (ps : List ℕ) (j n : ℕ) (rising : AreRising ps) (h : IsCountBelow ps j n) where
  -- the place is the next one
  pub count_more : n < length ps → get_or ps n 0 ≡ j → IsCountBelow ps (j + 1) (n + 1)
  count_more within at = record {
    within = omega arith;
    early = λ k l. elim (cases_eq k n) [
      | inl last ↦ rw (last, at) (omega arith)
      | inr other ↦ let under : get_or ps k 0 < j = h.early k (omega arith) in omega arith
    ];
    late = λ k l b. let above : get_or ps n 0 < get_or ps k 0 = rising n k (omega arith) b in omega arith;
  }

  -- it is none
  pub not_counted : ((n < length ps) × (get_or ps n 0 ≡ j) → ⊥) → (k : ℕ) → k < length ps → get_or ps k 0 ≢ j
  not_counted other k l =
      elim (cases_eq k n) [
        | inl last ↦ λ e. other (subst (λ i. i < length ps) last l, ap (λ i. get_or ps i 0) (sym last) ∙ e)
        | inr apart ↦ λ e. elim (cases_lt k n) [
          | inl early ↦ let under : get_or ps k 0 < j = h.early k early in absurd (omega arith)
          | inr late ↦
              let first : n < k = omega arith in
              let above : get_or ps n 0 < get_or ps k 0 = rising n k first l in
              let from : j ≤ get_or ps n 0 = h.late n (omega arith) (omega arith) in
              absurd (omega arith)
        ]
      ]

  pub count_same : ((n < length ps) × (get_or ps n 0 ≡ j) → ⊥) → IsCountBelow ps (j + 1) n
  count_same other = record {
    within = h.within;
    early = λ k l. let under : get_or ps k 0 < j = h.early k l in omega arith;
    late = λ k l b.
        let from : j ≤ get_or ps k 0 = h.late k l b in
        let apart : get_or ps k 0 ≢ j = not_counted other k b in
        omega arith;
  }

-- each place of a list that rises step by step is below the later ones
pub rising_from : (ps : List ℕ) → IsStrictlyIncreasing ps → AreRising ps
rising_from ps r k l before within = AllPairs-from_increasing ps r k l 0 before within

-- the first place that isn't below n ends the count
pub count_ended : (ps : List ℕ) (n count : ℕ) → IsStrictlyIncreasing ps → count ≤ length ps →
    ((k : ℕ) → k < count → get_or ps k 0 < n) → (count < length ps → n ≤ get_or ps count 0) → IsCountBelow ps n count
count_ended ps n count r within early ended = record {
  within = within;
  early = early;
  late = λ k l b.
      let here : n ≤ get_or ps count 0 = ended (omega arith) in
      elim (cases_eq count k) [
        | inl same ↦ rw (← same) here
        | inr other ↦ let before : get_or ps count 0 < get_or ps k 0 = rising_from ps r count k (omega arith) b in
            omega arith
      ];
}
