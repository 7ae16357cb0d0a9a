-- Evidence for the kernel of the kept columns: their free places are those of all columns among the first ones.
use Rattle.std.proofs.Common.{◌≡◌, ℕ, zero, suc, ◌+◌, ◌-◌, ◌%◌, ◌<◌, ◌≤◌, List, [], ◌∷◌, ◌++◌, length, get_or, inl, inr, refl, sym, ap, ap₂, ◌∙◌, cond, true, arith}
use Rattle.std.proofs.lemmas.Bool.{cases_Bool, cases_lt}
use Rattle.bmp_math.specs.Matrices.{Matrix}
use Rattle.bmp_linear.specs.declared.vector.Entry.{Entry}
use Rattle.bmp_linear.specs.SparseVectors.{number_at}
use Rattle.bmp_linear.specs.FreePlaces.{has_place, free_places}
use Rattle.bmp_linear.proofs.SparseLemmas.{number_at-past}
use Rattle.bmp_linear.proofs.FreeLemmas.{free_more_pivot, free_place_below}
use Rattle.bmp_linear.proofs.KernelSpans.{place_found}
use Rattle.bmp_elim.specs.RowVectors.{AreRowVectors}
use Rattle.bmp_elim.specs.Eliminations.{IsEvidenceOf}
use Rattle.bmp_elim.specs.FreeVectors.{IsFreeVector, IsBasisBelow}
use Rattle.bmp_elim.specs.KeptColumns.{kept_columns}
use Rattle.bmp_elim.proofs.FreeVectorLemmas.{has_place_at, has_no_place, not_place}
use Rattle.bmp_elim.proofs.KeptColumnLemmas.{IsKeptFrom, kept_early, kept_count, kept_trace, kept_echelon}
use Rattle.bmp_elim.proofs.EvidenceLemmas.{evidence_made}

-- free places of places that are equally taken
free_equally : (ps qs : List ℕ) (n : ℕ) → ((j : ℕ) → j < n → has_place qs j ≡ has_place ps j) →
    free_places qs n ≡ free_places ps n
free_equally ps qs zero same = refl
free_equally ps qs (suc n) same =
    ap₂ (λ b fs. cond b fs (fs ++ n ∷ [])) (same n (omega arith))
    (free_equally ps qs n (λ j l. same j (omega arith)))

module _ {p : ℕ} {old a t : Matrix} {ps : List ℕ} {split start : ℕ} {chosen kept : List ℕ} (h : IsKeptFrom p old a
    t ps split start chosen kept) where
  abbrev columns : Matrix
  columns = kept_columns split chosen a

  -- an early pivot is kept where it is, and a late one stands behind the first columns
  early_kept : (k : ℕ) → k < start → k < length ps → get_or kept k 0 ≡ get_or ps k 0
  early_kept k early l = h.choice.pivots.early k early l

  late_kept : (k : ℕ) → start ≤ k → k < length ps → split ≤ get_or kept k 0
  late_kept k late l =
      let back : start + (k - start) ≡ k = omega arith in
      let at : get_or kept k 0 ≡ split + (k - start) = ap (λ z. get_or kept z 0) (sym back)
      ∙ h.choice.pivots.late (k - start) (omega arith) in
      omega arith

  -- among the first columns the same places are taken
  pivot_kept : (k j : ℕ) → k < length ps → get_or ps k 0 ≡ j → j < split → get_or kept k 0 ≡ j
  pivot_kept k j l same below = elim (cases_lt k start) [
    | inl early ↦ early_kept k early l ∙ same
    | inr late ↦ let above : split ≤ get_or ps k 0 = h.choice.count.late k late l in absurd (omega arith)
  ]

  kept_pivot : (k j : ℕ) → k < length ps → get_or kept k 0 ≡ j → j < split → get_or ps k 0 ≡ j
  kept_pivot k j l same below = elim (cases_lt k start) [
    | inl early ↦ sym (early_kept k early l) ∙ same
    | inr late ↦ let above : split ≤ get_or kept k 0 = late_kept k late l in absurd (omega arith)
  ]

  equally_taken : (j : ℕ) → j < split → has_place kept j ≡ has_place ps j
  equally_taken j below = elim (cases_Bool (has_place ps j)) [
    | inl there ↦
        let found = place_found ps j there in
        has_place_at kept j found.0 (rw h.choice.pivots.one_for_each found.1)
        (pivot_kept found.0 j found.1 found.2 below) ∙ sym there
    | inr free ↦
        has_no_place kept j (λ k l same.
        let inside : k < length ps = omega (arith, h.choice.pivots.one_for_each) in
        not_place ps j free k inside (kept_pivot k j inside same below)) ∙ sym free
  ]

  -- behind them each is a pivot
  late_taken : (i : ℕ) → i ≤ length chosen → free_places kept (split + i) ≡ free_places kept split
  late_taken zero l = ap (free_places kept) (omega arith)
  late_taken (suc i) l =
      let next : split + suc i ≡ (split + i) + 1 = omega arith in
      let inside : start + i < length ps = omega (arith, kept_count h, h.choice.pivots.one_for_each) in
      let taken : has_place kept (split + i) ≡ true = has_place_at kept (split + i) (start + i)
      (rw h.choice.pivots.one_for_each inside) (h.choice.pivots.late i inside) in
      ap (free_places kept) next ∙ free_more_pivot kept (split + i) taken ∙ late_taken i (omega arith)

  pub free_kept : free_places kept columns.cols ≡ free_places ps split
  free_kept = late_taken (length chosen) (omega arith) ∙ free_equally ps kept split equally_taken

  vector_kept : (free : ℕ) (v : List Entry) → free < split → IsFreeVector p a ps free v →
      IsFreeVector p columns kept free v
  vector_kept free v below made =
      let past : (j : ℕ) → split ≤ j → number_at v j ≡ 0 = λ j late. number_at-past v j (λ i d l. let fits =
      made.fits i d l in omega arith) in
      let at : (k : ℕ) → columns.entry k free ≡ a.entry k free = λ k. ap (a.entry k) (kept_early split chosen free
      below) in
      record {
        fits = made.fits;
        below = made.below;
        at_free = made.at_free;
        at_pivots = λ k l.
            let inside : k < length ps = omega (arith, h.choice.pivots.one_for_each) in
            elim (cases_lt k start) [
              | inl early ↦
                  ap₂ (λ x j. (x + number_at v j) % p) (at k) (early_kept k early inside) ∙ made.at_pivots k inside
              | inr late ↦
                  let above : split ≤ get_or ps k 0 = h.choice.count.late k late inside in
                  let none : number_at v (get_or ps k 0) ≡ 0 = past (get_or ps k 0) above in
                  let kept_none : number_at v (get_or kept k 0) ≡ 0 =
                  past (get_or kept k 0) (late_kept k late inside) in
                  ap₂ (λ x y. (x + y) % p) (at k) (kept_none ∙ sym none) ∙ made.at_pivots k inside
            ];
        elsewhere = λ j away none. elim (cases_lt j split) [
          | inl early ↦ made.elsewhere j away (λ k l same. none k (rw h.choice.pivots.one_for_each l) (pivot_kept k
              j l same early))
          | inr late ↦ past j late
        ];
      }

  pub basis_kept : (vs : List (List Entry)) → IsBasisBelow p a ps split vs →
      IsBasisBelow p columns kept columns.cols vs
  basis_kept vs made = record {
    one_for_each = made.one_for_each ∙ ap length (sym free_kept);
    vectors = λ t l.
        let below : get_or (free_places ps split) t 0 < split = free_place_below ps split t (rw (←
        made.one_for_each) l) in
        rw free_kept (vector_kept (get_or (free_places ps split) t 0) (get_or vs t []) below (made.vectors t l));
  }

  pub kernel_made : (basis rows : List (List Entry)) → 2 ≤ p → IsBasisBelow p a ps split basis →
      AreRowVectors p t 0 (length ps) rows →
      IsEvidenceOf p (kept_columns split chosen old) (record { pivots = kept; basis = basis; rows = rows })
  kernel_made basis rows two free made =
      let as_many : AreRowVectors p t 0 (length kept) rows = rw h.choice.pivots.one_for_each made in
      evidence_made p (kept_columns split chosen old) columns t kept basis rows two (kept_trace h) (kept_echelon h)
      (basis_kept basis free) as_many
