-- The need of a list whose places rise is that of its last member, and what it says of each member.
use Rattle.std.proofs.Common.{◌≡◌, ℕ, zero, suc, ◌+◌, ◌-◌, ◌<◌, ◌≤◌, Some, None, List, [], ◌∷◌, length, get_or, refl, sym, ap, subst, ◌∙◌, arith}
use Rattle.std.specs.List.{All, slice_get}
use Rattle.std.specs.List.Sorted.{IsStrictlyIncreasing}
use Rattle.std.proofs.lemmas.Option.{none-some, slice_get_within, slice_get-get_or, get_or_from_slice_get}
use Rattle.std.proofs.lemmas.List.Elements.{All-nil, All-cons, All-get_or}
use Rattle.bmp_linear.specs.declared.vector.Entry.{Entry}
use Rattle.bmp_linear.specs.SparseVectors.{IsRising, FitsBelow}
use Rattle.bmp_check.specs.Sizes.{need, need_of_places}

pub need-last : (v : List Entry) (n : ℕ) (e : Entry) → IsRising v → length v ≡ n + 1 → need v ≡ (get_or v n e).place + 1
unfolding need
need-last [] n e rising long = absurd (omega arith)
need-last (d ∷ []) zero e rising long = omega arith
need-last (d ∷ []) (suc n) e rising long = absurd (omega arith)
need-last (d ∷ f ∷ es) zero e rising long = absurd (omega arith)
need-last (d ∷ f ∷ es) (suc n) e rising long =
    let rest : need (f ∷ es) ≡ (get_or (f ∷ es) n e).place + 1 = need-last (f ∷ es) n e rising.1 (omega arith) in
    let later : d.place < (get_or (f ∷ es) n e).place =
    All-get_or (λ (b : Entry). d.place < b.place) (f ∷ es) n e (omega arith) rising.0 in
    omega (arith, rest, later)

pub need-none : (v : List Entry) → length v ≡ 0 → need v ≡ 0
unfolding need
need-none [] none = refl
need-none (d ∷ es) none = absurd (omega arith)

pub need_of_places-last : (ps : List ℕ) (n : ℕ) → IsStrictlyIncreasing ps → length ps ≡ n + 1 →
    need_of_places ps ≡ get_or ps n 0 + 1
unfolding need_of_places
need_of_places-last [] n rising long = absurd (omega arith)
need_of_places-last (p ∷ []) zero rising long = omega arith
need_of_places-last (p ∷ []) (suc n) rising long = absurd (omega arith)
need_of_places-last (p ∷ q ∷ ps) zero rising long = absurd (omega arith)
need_of_places-last (p ∷ q ∷ ps) (suc n) rising long =
    let tail : IsStrictlyIncreasing (q ∷ ps) = λ k l. let next : suc k + 1 ≡ suc (k + 1) = omega arith in
    subst (λ m. get_or (q ∷ ps) k 0 < get_or (p ∷ q ∷ ps) m 0) next (rising (suc k) (omega arith)) in
    let rest : need_of_places (q ∷ ps) ≡ get_or (q ∷ ps) n 0 + 1 = need_of_places-last (q ∷ ps) n tail (omega arith) in
    let next : p < q = rising 0 (omega arith) in
    omega (arith, rest, next, first_least q ps tail n (omega arith))
  where
    first_least : (q : ℕ) (ps : List ℕ) → IsStrictlyIncreasing (q ∷ ps) → (n : ℕ) → n < suc (length ps) →
        q ≤ get_or (q ∷ ps) n 0
    first_least q ps rising zero below = omega arith
    first_least q ps rising (suc n) below =
        let so_far : q ≤ get_or (q ∷ ps) n 0 = first_least q ps rising n (omega arith) in
        let step : get_or (q ∷ ps) n 0 < get_or (q ∷ ps) (n + 1) 0 = rising n (omega arith) in
        let next : n + 1 ≡ suc n = omega arith in
        let same : get_or (q ∷ ps) (n + 1) 0 ≡ get_or (q ∷ ps) (suc n) 0 = ap (λ k. get_or (q ∷ ps) k 0) next in
        omega (arith, so_far, step, same)

pub need_of_places-none : (ps : List ℕ) → length ps ≡ 0 → need_of_places ps ≡ 0
unfolding need_of_places
need_of_places-none [] none = refl
need_of_places-none (p ∷ ps) none = absurd (omega arith)

-- ---- from the answer of `last`

pub need_at : (v : List Entry) (e : Entry) (place : ℕ) → IsRising v → Some e ≡ slice_get v (length v - 1) →
    place ≡ e.place → place + 1 ≡ need v
need_at v e place rising last is =
    let some : slice_get v (length v - 1) ≡ Some e = sym last in
    let within : length v - 1 < length v = slice_get_within v (length v - 1) e some in
    let read : get_or v (length v - 1) e ≡ e = get_or_from_slice_get v (length v - 1) e e some in
    ap (λ p. p + 1) (is ∙ ap (λ (d : Entry). d.place) (sym read))
    ∙ sym (need-last v (length v - 1) e rising (omega arith))

pub need_of_places_at : (ps : List ℕ) (p place : ℕ) → IsStrictlyIncreasing ps → Some p ≡ slice_get ps (length ps - 1) →
    place ≡ p → place + 1 ≡ need_of_places ps
need_of_places_at ps p place rising last is =
    let some : slice_get ps (length ps - 1) ≡ Some p = sym last in
    let within : length ps - 1 < length ps = slice_get_within ps (length ps - 1) p some in
    let read : get_or ps (length ps - 1) 0 ≡ p = get_or_from_slice_get ps (length ps - 1) p 0 some in
    ap (λ q. q + 1) (is ∙ sym read) ∙ sym (need_of_places-last ps (length ps - 1) rising (omega arith))

pub empty_at : {X : Type 0} (xs : List X) → None ≡ slice_get xs (length xs - 1) → length xs ≡ 0
empty_at [] last = refl
empty_at (x ∷ xs) last =
    let read : slice_get (x ∷ xs) (length (x ∷ xs) - 1) ≡ Some (get_or (x ∷ xs) (length (x ∷ xs) - 1) x) =
    slice_get-get_or (x ∷ xs) (length (x ∷ xs) - 1) x (omega arith) in
    absurd (none-some (get_or (x ∷ xs) (length (x ∷ xs) - 1) x) (last ∙ read))

-- ---- a need that is not greater

pub fits_from_need : (v : List Entry) (n : ℕ) → need v ≤ n → FitsBelow v n
unfolding need
fits_from_need [] n le = All-nil (λ (e : Entry). e.place < n)
fits_from_need (e ∷ es) n le =
    All-cons (λ (d : Entry). d.place < n) e es (omega arith) (fits_from_need es n (omega arith))

pub below_from_need : (ps : List ℕ) (n : ℕ) → need_of_places ps ≤ n → All (λ k. k < n) ps
unfolding need_of_places
below_from_need [] n le = All-nil (λ k. k < n)
below_from_need (p ∷ ps) n le = All-cons (λ k. k < n) p ps (omega arith) (below_from_need ps n (omega arith))
