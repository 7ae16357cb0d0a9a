-- Two runs of entries, passed at once.
use Rattle.std.proofs.Common.{◌≡◌, ◌≢◌, ℕ, zero, suc, ◌+◌, ◌<◌, ◌≤◌, List, [], ◌∷◌, length, get_or, take, subst, sym, ap, ◌∙◌, inl, inr, arith, get_or-take, length-take}
use Rattle.std.proofs.lemmas.Bool.{cases_eq, cases_lt}
use Rattle.std.proofs.lemmas.List.{take_more, get_or_default}
use Rattle.std.proofs.lemmas.List.Elements.{All-push}
use Rattle.bmp_linear.specs.declared.vector.Entry.{Entry}
use Rattle.bmp_linear.specs.SparseVectors.{IsRising, FitsBelow, number_at}
use Rattle.bmp_linear.proofs.SparseLemmas.{absent, number_at-own}

pub rising_at : (v : List Entry) (i k : ℕ) (d : Entry) → IsRising v → i < k → k < length v →
    (get_or v i d).place < (get_or v k d).place
rising_at [] i k d r l m = absurd (omega arith)
rising_at (e ∷ es) i zero d r l m = absurd (omega arith)
rising_at (e ∷ es) zero (suc k) d r l m = r.0 k d (omega arith)
rising_at (e ∷ es) (suc i) (suc k) d r l m = rising_at es i k d r.1 (omega arith) (omega arith)

pub fits_above : (v : List Entry) (m n : ℕ) → m ≤ n → FitsBelow v m → FitsBelow v n
fits_above v m n l h k d i = let below : (get_or v k d).place < m = h k d i in omega arith

-- one entry more is passed
pub passed_more : (v : List Entry) (k n : ℕ) (d : Entry) → k < length v → (get_or v k d).place < n →
    FitsBelow (take k v) n → FitsBelow (take (k + 1) v) n
passed_more v k n d l below h = rw (take_more v k d l) (All-push (λ e. e.place < n) (take k v) (get_or v k d) h below)

-- a place between two entries has no number
between : (v : List Entry) (k j : ℕ) → IsRising v → FitsBelow (take k v) j →
    ((d : Entry) → k < length v → j < (get_or v k d).place) → number_at v j ≡ 0
between v k j r before after =
    absent v j (λ i d l. elim (cases_lt i k) [
      | inl lower ↦
          let kept : (get_or (take k v) i d).place < j = before i d (rw length-take (omega arith)) in
          let here : (get_or v i d).place < j = rw (get_or-take) at kept in
          λ s. omega arith
      | inr higher ↦
          let within : k < length v = omega arith in
          let reached : j < (get_or v k d).place = after d within in
          elim (cases_eq k i) [
            | inl same ↦ let here : (get_or v k d).place ≡ (get_or v i d).place = ap (λ m. (get_or v m d).place) same in
                λ s. omega arith
            | inr other ↦ let rises : (get_or v k d).place < (get_or v i d).place =
                rising_at v k i d r (omega arith) l in λ s. omega arith
          ]
    ])

-- the number at a place, by the first entry that reaches it
pub number_reached : (v : List Entry) (k j : ℕ) (d : Entry) → IsRising v → k < length v → (get_or v k d).place ≡ j →
    (get_or v k d).value ≡ number_at v j
number_reached v k j d r l here = sym (number_at-own v k d r l) ∙ ap (number_at v) here

pub number_missed : (v : List Entry) (k j : ℕ) (e : Entry) → IsRising v → FitsBelow (take k v) j →
    ((d : Entry) → k < length v → j ≤ (get_or v k d).place) → (k < length v → (get_or v k e).place ≢ j) →
    number_at v j ≡ 0
number_missed v k j e r before after other =
    between v k j r before (λ d l.
    let reached : j ≤ (get_or v k e).place = after e l in
    let apart : (get_or v k e).place ≢ j = other l in
    let same : (get_or v k d) ≡ (get_or v k e) = get_or_default v k d e l in
    subst (λ x. j < x.place) (sym same) (let above : j < (get_or v k e).place = omega arith in above))

-- the row's next entry is behind what was passed
pub passed_next : (row v : List Entry) (k n : ℕ) (e : Entry) → IsRising row → k < length row →
    FitsBelow (take n v) (get_or row k e).place → (d : Entry) → k + 1 < length row →
    FitsBelow (take n v) (get_or row (k + 1) d).place
passed_next row v k n e r l h d m =
    let first : (get_or row k e) ≡ (get_or row k d) = get_or_default row k e d l in
    let rises : (get_or row k d).place < (get_or row (k + 1) d).place = rising_at row k (k + 1) d r (omega arith) m in
    fits_above (take n v) (get_or row k d).place (get_or row (k + 1) d).place (omega arith)
    (subst (λ x. FitsBelow (take n v) x.place) first h)
