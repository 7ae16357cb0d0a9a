-- The vectors of the free places, one after the other.
use Rattle.std.proofs.Common.{◌≡◌, ◌≢◌, ℕ, zero, suc, ◌+◌, ◌%◌, ◌<◌, ◌≤◌, List, [], ◌∷◌, ◌++◌, length, get_or, eqb, true, false, true≢false, inl, inr, refl, sym, ap, ◌∙◌, subst, arith, length-append, eq-eqb}
use Rattle.std.proofs.lemmas.Bool.{cases_eq, cases_lt, cases_Bool, cond-true, cond-false}
use Rattle.std.proofs.lemmas.List.{get_or_push, get_or_append_left}
use Rattle.std.proofs.lemmas.List.Elements.{All-push}
use Rattle.bmp_math.specs.Congruences.{SameMod}
use Rattle.bmp_math.specs.Matrices.{Matrix}
use Rattle.bmp_linear.specs.declared.vector.Entry.{Entry}
use Rattle.bmp_linear.specs.SparseVectors.{FitsBelow, number_at}
use Rattle.bmp_linear.specs.FreePlaces.{has_place, free_places}
use Rattle.bmp_linear.proofs.SparseLemmas.{number_at-push_same, number_at-push_other}
use Rattle.bmp_linear.proofs.FreeLemmas.{free_more_pivot, free_more_free}
use Rattle.bmp_linear.proofs.KernelSpans.{place_found}
use Rattle.bmp_elim.specs.Echelons.{IsEchelon}
use Rattle.bmp_elim.specs.FreeVectors.{IsPlacedBelow, IsCountBelow, IsFreeVector, IsBasisBelow}

-- the number that takes the column away
abbrev pub TakesAway : ℕ → Matrix → ℕ → ℕ → ℕ → Type 0
TakesAway p a free k x = SameMod p (a.entry k free + x) 0

-- the 1 at the free place ends its vector
pub free_vector_made : (p : ℕ) (a : Matrix) (ps : List ℕ) (before free : ℕ) (v : List Entry) (e : Entry) → 2 ≤ p →
    IsEchelon a ps → IsCountBelow ps free before → ((k : ℕ) → k < length ps → get_or ps k 0 ≢ free) →
    IsPlacedBelow p ps before (TakesAway p a free) v → e.place ≡ free → e.value ≡ 1 →
    IsFreeVector p a ps free (v ++ e ∷ [])
free_vector_made p a ps before free v e two r count apart h at one =
    let fits : FitsBelow v free = h.fits free count.early in
    let fits_e : FitsBelow v e.place = rw at fits in
    let other : (j : ℕ) → j ≢ free → number_at (v ++ e ∷ []) j ≡ number_at v j =
    λ j away. number_at-push_other v e j (λ same. away (sym same ∙ at)) in
    record {
      fits = All-push (λ d. d.place < free + 1) v e
          (h.fits (free + 1) (λ k l. let under : get_or ps k 0 < free = count.early k l in omega arith))
          (rw at (omega arith));
      below = All-push (λ d. d.value < p) v e h.below (rw one two);
      at_free = ap (number_at (v ++ e ∷ [])) (sym at) ∙ number_at-push_same v e fits_e ∙ one;
      at_pivots = λ k l.
          ap (λ z. (a.entry k free + z) % p) (other (get_or ps k 0) (apart k l))
          ∙ elim (cases_lt k before) [
            | inl early ↦ h.at_places k early
            | inr late ↦
                let above : free ≤ get_or ps k 0 = count.late k late l in
                let away : get_or ps k 0 ≢ free = apart k l in
                let none : a.entry k free ≡ 0 = r.zero_before k free l (omega arith) in
                let empty : number_at v (get_or ps k 0) ≡ 0 =
                h.elsewhere (get_or ps k 0) (λ i m e. let under : get_or ps i 0 < free = count.early i m in
                absurd (omega arith)) in
                let whole : a.entry k free + number_at v (get_or ps k 0) ≡ 0 = omega arith in
                ap (λ z. z % p) whole
          ];
      elsewhere = λ j away none. other j away
          ∙ h.elsewhere j (λ k l. none k (let w : before ≤ length ps = count.within in omega arith));
    }

-- a place of the list is found in it
pub has_place_at : (ps : List ℕ) (j k : ℕ) → k < length ps → get_or ps k 0 ≡ j → has_place ps j ≡ true
has_place_at [] j k l e = absurd (omega arith)
has_place_at (q ∷ qs) j zero l e = rw (eq-eqb q j e) refl
has_place_at (q ∷ qs) j (suc k) l e =
    elim (cases_Bool (eqb q j)) [
      | inl here ↦ rw here refl
      | inr other ↦ rw other (has_place_at qs j k (omega arith) e)
    ]

pub has_no_place : (ps : List ℕ) (j : ℕ) → ((k : ℕ) → k < length ps → get_or ps k 0 ≢ j) → has_place ps j ≡ false
has_no_place ps j none =
    elim (cases_Bool (has_place ps j)) [
      | inl there ↦ let found = place_found ps j there in absurd (none found.0 found.1 found.2)
      | inr free ↦ free
    ]

pub not_place : (ps : List ℕ) (j : ℕ) → has_place ps j ≡ false → (k : ℕ) → k < length ps → get_or ps k 0 ≢ j
not_place ps j none k l e = true≢false (sym (has_place_at ps j k l e) ∙ none)

-- what a free place is, by its number
pub record IsFreePlace (ps : List ℕ) (n u j : ℕ) : Type 0 where
  pub below : j < n
  pub free : has_place ps j ≡ false
  pub number : length (free_places ps j) ≡ u

pub free_place : (ps : List ℕ) (n u : ℕ) → u < length (free_places ps n) →
    IsFreePlace ps n u (get_or (free_places ps n) u 0)
free_place ps zero u l = absurd (omega arith)
free_place ps (suc n) u l =
    elim (cases_Bool (has_place ps n)) [
      | inl pivot ↦
          let same : free_places ps (suc n) ≡ free_places ps n =
          cond-true (has_place ps n) (free_places ps n) (free_places ps n ++ n ∷ []) pivot in
          let h : IsFreePlace ps n u (get_or (free_places ps n) u 0) =
          free_place ps n u (subst (λ xs. u < length xs) same l) in
          rw same (record { below = let b = h.below in omega arith; free = h.free; number = h.number })
      | inr free ↦
          let more : free_places ps (suc n) ≡ free_places ps n ++ n ∷ [] =
          cond-false (has_place ps n) (free_places ps n) (free_places ps n ++ n ∷ []) free in
          let count : length (free_places ps n ++ n ∷ []) ≡ length (free_places ps n) + 1 = simp length-append refl in
          let within : u < length (free_places ps n ++ n ∷ []) = subst (λ xs. u < length xs) more l in
          rw more
          (elim (cases_eq u (length (free_places ps n))) [
            | inl last ↦ rw (get_or_push (free_places ps n) n 0 u (sym last))
                (record { below = omega arith; free = free; number = sym last })
            | inr other ↦
                let before : u < length (free_places ps n) = omega arith in
                let h : IsFreePlace ps n u (get_or (free_places ps n) u 0) = free_place ps n u before in
                rw (get_or_append_left (free_places ps n) (n ∷ []) 0 u before)
                (record { below = let b = h.below in omega arith; free = h.free; number = h.number })
          ])
    ]

pub basis_start : (p : ℕ) (a : Matrix) (ps : List ℕ) → IsBasisBelow p a ps 0 []
basis_start p a ps = record { one_for_each = refl; vectors = λ t l. absurd (omega arith) }

module _ (p : ℕ) (a : Matrix) (ps : List ℕ) (j : ℕ) (vs : List (List Entry)) (h : IsBasisBelow p a ps j vs) where
  pub basis_pivot : has_place ps j ≡ true → IsBasisBelow p a ps (j + 1) vs
  basis_pivot pivot = record {
    one_for_each = rw (free_more_pivot ps j pivot) h.one_for_each;
    vectors = λ t l. rw (free_more_pivot ps j pivot) (h.vectors t l);
  }

  pub basis_push : (v : List Entry) → has_place ps j ≡ false → IsFreeVector p a ps j v →
      IsBasisBelow p a ps (j + 1) (vs ++ v ∷ [])
  basis_push v free made = record {
    one_for_each = rw (free_more_free ps j free) (simp length-append (omega (arith, h.one_for_each)));
    vectors = λ t l.
        let count : length (vs ++ v ∷ []) ≡ length vs + 1 = simp length-append refl in
        rw (free_more_free ps j free)
        (elim (cases_eq t (length vs)) [
          | inl last ↦ rw (
            get_or_push (free_places ps j) j 0 t (sym h.one_for_each ∙ sym last),
            get_or_push vs v [] t (sym last),
          ) made
          | inr other ↦
              let within : t < length vs = omega arith in
              let place_within : t < length (free_places ps j) = omega (arith, h.one_for_each) in
              rw (
                get_or_append_left (free_places ps j) (j ∷ []) 0 t place_within,
                get_or_append_left vs (v ∷ []) [] t within,
              ) (h.vectors t within)
        ]);
  }
